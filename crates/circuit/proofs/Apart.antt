-- The string that names a circuit tells its sizes and its three lists apart: the counts say where each list ends.
use mathlib.Core.Path.{◌≡◌, refl, sym, ap, ◌∙◌}
use mathlib.Core.List.{List, [], ◌++◌, append-nil, append_assoc}
use Prim.Native.Nat.{ℕ, ◌/◌}
use native.Mathlib.Omega.{arith}
use lib.ListN.{length, take, drop}
use lib.Seq.{take_at, drop_at}
use Rattle.numbers.specs.Numbers.{bytes4}
use Rattle.numbers.proofs.Bytes.{bytes4-injective}
use Rattle.circuit.specs.CircuitString.{list_string, sizes_string, circuit_string, Whole, CircuitsApart}

-- Equal strings whose first parts have one length have equal parts.
parts : (s t u v : List ℕ) → length s ≡ length t → s ++ u ≡ t ++ v → (s ≡ t) × (u ≡ v)
parts s t u v l e = (
  sym (take_at s u (length t) l) ∙ ap (take (length t)) e ∙ take_at t v (length t) refl,
  sym (drop_at s u (length t) l) ∙ ap (drop (length t)) e ∙ drop_at t v (length t) refl,
)

-- A list at the front of two equal strings.
pub list-apart : (a b u v : List ℕ) → Whole a → Whole b → list_string a ++ u ≡ list_string b ++ v → (a ≡ b) × (u ≡ v)
list-apart a b u v f g e =
    let cut = parts (bytes4 (length a / 12)) (bytes4 (length b / 12)) (a ++ u) (b ++ v) refl
    (sym (append_assoc (bytes4 (length a / 12)) a u) ∙ e ∙ append_assoc (bytes4 (length b / 12)) b v) in
    let count = bytes4-injective (length a / 12) (length b / 12) f.counted g.counted cut.0 in
    parts a b u v (omega (arith, f.whole, g.whole, count)) cut.1

-- Two circuits with their sizes.
module _ (m n k m' n' k' : ℕ) (a b c a' b' c' : List ℕ) where
  -- The string, part by part from its front.
  from_front : (m n k : ℕ) (a b c : List ℕ) → circuit_string m n k a b c ≡ sizes_string m n k ++ (list_string a ++ (list_string b ++ (list_string c ++ [])))
  unfolding circuit_string
  from_front m n k a b c =
      append_assoc (sizes_string m n k ++ list_string a) (list_string b) (list_string c) ∙ append_assoc (sizes_string m n k) (list_string a) (list_string b ++ list_string c)
      ∙ ap (λ (t : List ℕ). sizes_string m n k ++ (list_string a ++ (list_string b ++ t))) (sym (append-nil (list_string c)))

  -- Equal strings over lists of whole entries have the same lists, and the same bytes before them.
  pub lists-apart : Whole a → Whole b → Whole c → Whole a' → Whole b' → Whole c' → circuit_string m n k a b c ≡ circuit_string m' n' k' a' b' c'
      → (sizes_string m n k ≡ sizes_string m' n' k') × (a ≡ a') × (b ≡ b') × (c ≡ c')
  lists-apart wa wb wc wa' wb' wc' e =
      let front = parts (sizes_string m n k) (sizes_string m' n' k') _ _ refl (sym (from_front m n k a b c) ∙ e ∙ from_front m' n' k' a' b' c') in
      let first = list-apart a a' _ _ wa wa' front.1 in
      let second = list-apart b b' _ _ wb wb' first.1 in
      (front.0, first.0, second.0, (list-apart c c' [] [] wc wc' second.1).0)

-- Equal strings are those of one circuit.
pub circuits-apart : CircuitsApart
circuits-apart m n k m' n' k' a b c a' b' c' f g e =
    let t = lists-apart m n k m' n' k' a b c a' b' c' f.a-whole f.b-whole f.c-whole g.a-whole g.b-whole g.c-whole e in
    record {
      m-same = bytes4-injective m m' f.m-fits g.m-fits (ap (λ (s : List ℕ). take 4 (drop 1 s)) t.0);
      n-same = bytes4-injective n n' f.n-fits g.n-fits (ap (λ (s : List ℕ). take 4 (drop 5 s)) t.0);
      k-same = bytes4-injective k k' f.k-fits g.k-fits (ap (λ (s : List ℕ). take 4 (drop 9 s)) t.0);
      a-same = t.1;
      b-same = t.2;
      c-same = t.3;
    }
