-- The compression of a lane, four rounds at a time: its working variables, and the sixteen words of its schedule that come next.
-- Assumes nothing.
use mathlib.Core.Path.{◌≡◌, refl, sym, ap, ◌∙◌}
use mathlib.Core.List.{List, ◌++◌}
use Prim.Native.Nat.{ℕ, ◌+◌, ◌-◌, ◌<◌}
use native.Mathlib.Nat.{le_of_eq}
use native.Mathlib.Omega.{arith}
use lib.ListN.{length, get_or, take, drop, length-append, length-drop}
use lib.Seq.{get_or-drop, drop-drop, take_at, take_all}
use Rattle.hash.specs.Sha256.{K, scheduled, schedule, rounds, sum, compress}
use Rattle.hash.proofs.Round.{rounds-ext, more-rounds, part, get_or-part}
use Rattle.hash.proofs.Schedule.{length-scheduled, scheduled-stays, scheduled-on}

-- sixteen words are left where the first four fall out
pub sixteen-left : (m : List ℕ) → length m ≡ 16 → length (drop 4 (scheduled m 4)) ≡ 16
sixteen-left m l = length-drop 4 (scheduled m 4) ∙ omega (arith, length-scheduled m 4)

-- the next four words of the schedule of m, which stands at the front of v ++ z
module _ (m v z e : List ℕ) (l : length m ≡ 16) (e-v : v ≡ m) (l-z : length z ≡ 4) where
  pub twenty : length (v ++ z) ≡ 20
  twenty = length-append v z ∙ omega (arith, ap length e-v)

  pub moved_on : e ≡ scheduled (take 16 (v ++ z)) (length (v ++ z) - 16) → take 16 (drop 4 e) ≡ drop 4 (scheduled m 4)
  moved_on e-e =
      let first : take 16 (v ++ z) ≡ m = take_at v z 16 (ap length e-v ∙ l) ∙ e-v in
      let four : length (v ++ z) - 16 ≡ 4 = omega (arith, twenty) in
      ap (λ (x : List ℕ). take 16 (drop 4 x)) (e-e ∙ (λ i. scheduled (first i) (four i)))
      ∙ take_all 16 (drop 4 (scheduled m 4)) (le_of_eq (sixteen-left m l))

-- after t rounds: the working variables s, from the hash value h, and the sixteen words from t on of the schedule of m
abbrev pub SoFar : List ℕ → List ℕ → ℕ → List ℕ → List ℕ → Type 0
SoFar h m t s w = (s ≡ rounds K (scheduled m t) h t) × (w ≡ drop t (scheduled m t))

pub so-far-start : (h m : List ℕ) → SoFar h m 0 h m
unfolding rounds scheduled
so-far-start h m = (refl, refl)

pub so-far-step : (h m s w w₄ s' w' : List ℕ) (t : ℕ) → length m ≡ 16 → SoFar h m t s w → ((i : ℕ) → i < 4 → get_or w₄ i 0 ≡ get_or w i 0)
    → s' ≡ rounds (part t 4 K) w₄ s 4
    → w' ≡ drop 4 (scheduled w 4) → SoFar h m (t + 4) s' w'
so-far-step h m s w w₄ s' w' t l so_far first e-s e-w = (variables, coming)
  where
    variables : s' ≡ rounds K (scheduled m (t + 4)) h (t + 4)
    variables =
        more-rounds K (scheduled m t) h (part t 4 K) w₄ s s' t 4 so_far.0 (get_or-part t 4 K)
        (λ i k. first i k ∙ ap (λ (x : List ℕ). get_or x i 0) so_far.1 ∙ get_or-drop t (scheduled m t) i 0)
        e-s
        ∙ rounds-ext K K (scheduled m t) (scheduled m (t + 4)) h (t + 4) (λ i k. refl) (λ i k. sym (scheduled-stays m t 4 i (omega arith)))

    coming : w' ≡ drop (t + 4) (scheduled m (t + 4))
    coming =
        e-w ∙ ap (λ (x : List ℕ). drop 4 (scheduled x 4)) so_far.1 ∙ ap (drop 4) (scheduled-on m t 4) ∙ drop-drop 4 t (scheduled m (t + 4))

-- after the sixty-four rounds, with the hash value before added
pub compressed : (h m s w r : List ℕ) (t : ℕ) → length m ≡ 16 → t ≡ 64 → SoFar h m t s w → r ≡ sum s h → r ≡ compress h m
unfolding compress schedule
compressed h m s w r t l e so_far e-r = e-r ∙ ap (λ (x : List ℕ). sum x h) (all ∙ same)
  where
    all : s ≡ rounds K (scheduled m 64) h 64
    all = so_far.0 ∙ (λ i. rounds K (scheduled m (e i)) h (e i))

    same : rounds K (scheduled m 64) h 64 ≡ rounds K (scheduled m 48) h 64
    same = rounds-ext K K (scheduled m 64) (scheduled m 48) h 64 (λ i k. refl) (λ i k. scheduled-stays m 48 16 i (omega arith))
