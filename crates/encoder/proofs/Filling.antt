-- A buffer that is filled part by part: where it starts, one part more, and the whole.
use mathlib.Core.Path.{◌≡◌, refl, sym, ap, ap₂, ◌∙◌}
use mathlib.Core.List.{List, [], ◌∷◌, ◌++◌}
use Prim.Native.Nat.{ℕ, zero, suc, ◌+◌, ◌-◌, ◌*◌, ◌≤◌, ◌<◌}
use native.Mathlib.Nat.{suc-mul, zero-mul, add-mul, one-mul}
use native.Mathlib.Omega.{arith}
use borrow.Author.Count.{below_more}
use lib.ListN.{length, take, drop, length-append, length-drop, take-append-drop}
use lib.Seq.{length-take-le, drop-drop, drop_at}
use Rattle.algebra.specs.Lists.{concat_to}
use Rattle.tree.specs.Layout.{part}
use Rattle.tree.proofs.Written.{put_back, put-length}
use Rattle.theory.proofs.Parts.{length_part, part_cut, part_left, part_right, part-whole, part-within}
use Rattle.encoder.specs.Parts.{replaced, Filled}

-- Where part i + 1 starts.
pub next_start : (i size : ℕ) → (i + 1) * size ≡ i * size + size
next_start i size = omega (arith, add-mul i 1 size, one-mul size)

-- A buffer is its parts, one after the other.
pub from_parts : (n size : ℕ) (f : ℕ → List ℕ) (s : List ℕ) → length s ≡ n * size → ((j : ℕ) → j < n → part s (j * size) size ≡ f j) → s ≡ concat_to n f
from_parts zero size f [] e h = refl
from_parts zero size f (x ∷ s) e h = absurd (omega (arith, zero-mul size))
from_parts (suc n) size f s e h =
    sym (take-append-drop size s)
    ∙ ap₂ ◌++◌
    (ap (λ (j : ℕ). take size (drop j s)) (sym (zero-mul size)) ∙ h 0 (omega arith))
    (from_parts n size (λ j. f (suc j)) (drop size s) (omega (arith, length-drop size s, suc-mul n size)) shifted)
  where
    shifted : (j : ℕ) → j < n → part (drop size s) (j * size) size ≡ f (suc j)
    shifted j l =
        let start : size + j * size ≡ suc j * size = omega (arith, suc-mul j size) in
        ap (take size) (drop-drop (j * size) size s ∙ ap (λ (k : ℕ). drop k s) start) ∙ h (suc j) (omega arith)

-- ---- a part that is borrowed and comes back

-- What comes back stands in its place.
pub borrowed-back : (s d x : List ℕ) (at n : ℕ) → x ≡ d → take at s ++ (x ++ drop (at + n - at) (drop at s)) ≡ replaced s at n d
borrowed-back s d x at n e = put_back s d x at (at + n - at) n e (omega arith)

pub borrowed-length : (s x : List ℕ) (at n : ℕ) → at + n ≤ length s → length x ≡ length (take (at + n - at) (drop at s))
    → length (take at s ++ (x ++ drop (at + n - at) (drop at s))) ≡ length s
borrowed-length s x at n h e =
    let size : at + n - at ≡ n = omega arith in
    omega (
      arith,
      length-append (take at s) (x ++ drop (at + n - at) (drop at s)),
      length-append x (drop (at + n - at) (drop at s)),
      length-take-le at s (omega arith),
      length-drop (at + n - at) (drop at s),
      length-drop at s,
      ap length (part_cut s at n),
      length_part s at n h,
    )

-- ---- the parts of a buffer, one after the other

module _ (size : ℕ) (f : ℕ → List ℕ) (entry : List ℕ) where
  pub filled-cong : (g : ℕ → List ℕ) (i : ℕ) (s : List ℕ) → ((j : ℕ) → j < i → f j ≡ g j) → Filled size f entry i s → Filled size g entry i s
  filled-cong g i s h e = record { parts = λ j l. e.parts j l ∙ h j l; rest = e.rest; same = e.same }

  -- Part i is still as it was.
  pub still : (i : ℕ) (s : List ℕ) → Filled size f entry i s → part s (i * size) size ≡ part entry (i * size) size
  still i s e = ap (take size) e.rest

  pub all-filled : (n : ℕ) (s : List ℕ) → length entry ≡ n * size → Filled size f entry n s → s ≡ concat_to n f
  all-filled n s l e = from_parts n size f s (e.same ∙ l) e.parts

  -- f i is put in the place of part i.
  module _ (i : ℕ) (s s' x : List ℕ) (filled : Filled size f entry i s) (room : i * size + size ≤ length entry)
      (kept : length s' ≡ length s) (put : s' ≡ replaced s (i * size) size x) (is : x ≡ f i) where
    abbrev at : ℕ
    at = i * size

    fits : at + size ≤ length s
    fits = omega (arith, filled.same)

    size-x : length x ≡ size
    size-x = put-length s s' x at size fits kept put

    size-front : length (take at s) ≡ at
    size-front = length-take-le at s (omega (arith, fits))

    size-both : length (take at s ++ x) ≡ at + size
    size-both = omega (arith, length-append (take at s) x, size-x, size-front)

    earlier : (j : ℕ) → j < i → part s' (j * size) size ≡ f j
    earlier j l =
        let within : j * size + size ≤ at = part-within i j size at l refl in
        ap (λ (z : List ℕ). part z (j * size) size) put
        ∙ part_left (take at s ++ x) (drop (at + size) s) (j * size) size (omega (arith, size-both))
        ∙ part_left (take at s) x (j * size) size (omega (arith, size-front))
        ∙ sym (part_left (take at s) (drop at s) (j * size) size (omega (arith, size-front)))
        ∙ ap (λ (z : List ℕ). part z (j * size) size) (take-append-drop at s)
        ∙ filled.parts j l

    here : part s' at size ≡ f i
    here =
        ap (λ (z : List ℕ). part z at size) put
        ∙ part_left (take at s ++ x) (drop (at + size) s) at size (omega (arith, size-both))
        ∙ part_right (take at s) x at 0 size (omega (arith, size-front))
        ∙ part-whole x size size-x
        ∙ is

    behind : drop (at + size) s' ≡ drop (at + size) entry
    behind =
        ap (drop (at + size)) put
        ∙ drop_at (take at s ++ x) (drop (at + size) s) (at + size) size-both
        ∙ sym (drop-drop size at s)
        ∙ ap (drop size) filled.rest
        ∙ drop-drop size at entry

    pub one-filled : Filled size f entry (i + 1) s'
    one-filled = record {
      parts = below_more _ _ earlier here;
      rest = rw (next_start i size) behind;
      same = kept ∙ filled.same;
    }
