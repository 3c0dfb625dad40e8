-- Buffers and arrays that are filled from the front: what was written and, behind it, what fills the rest.
use mathlib.Core.Path.{◌≡◌, refl, ap, ap₂, ◌∙◌}
use mathlib.Core.List.{List, [], ◌∷◌, ◌++◌, append-nil}
use Prim.Native.Nat.{ℕ, ◌+◌, ◌-◌, ◌≤◌}
use native.Mathlib.Omega.{arith}
use lib.ListN.{length, take, drop, set, length-drop}
use lib.Seq.{take_at, drop-length}

-- Nothing lies behind the end.
drop_past : (s : List ℕ) {n : ℕ} → length s ≡ n → drop n s ≡ []
drop_past s e = rw (← e) (drop-length s)

-- ys in the place of all that lies behind the first a.
abbrev pub refilled : ℕ → List ℕ → List ℕ → List ℕ
refilled a s ys = take a s ++ (ys ++ drop (length s - a) (drop a s))

pub refilled-is : {a : ℕ} (front rest ys : List ℕ) → length front ≡ a → refilled a (front ++ rest) ys ≡ front ++ ys
refilled-is {a} front rest ys e =
    ap₂ ◌++◌ (take_at front rest a e) (ap (λ (t : List ℕ). ys ++ t) (drop_past (drop a (front ++ rest)) (length-drop a (front ++ rest))) ∙ append-nil ys)

-- ---- e first, then rs and then xs

-- The array s after e and rs were written.
abbrev pub headed : ℕ → ℕ → List ℕ → List ℕ → List ℕ
headed e m s rs = take 1 (set s 0 e) ++ (rs ++ drop (1 + m - 1) (drop 1 (set s 0 e)))

headed-is : (e m : ℕ) (s rs : List ℕ) → 1 ≤ length s → headed e m s rs ≡ (e ∷ rs) ++ drop (1 + m - 1) (drop 1 s)
headed-is e m [] rs h = absurd (omega arith)
headed-is e m (v ∷ t) rs h = refl

module _ (e m : ℕ) (s rs : List ℕ) (long : length rs ≡ m) (room : 1 + m ≤ length s) where
  pub all-filled : (xs : List ℕ) → refilled (1 + m) (headed e m s rs) xs ≡ e ∷ (rs ++ xs)
  all-filled xs =
      ap (λ (t : List ℕ). refilled (1 + m) t xs) (headed-is e m s rs (omega arith))
      ∙ refilled-is {a = 1 + m} (e ∷ rs) (drop (1 + m - 1) (drop 1 s)) xs (omega arith)
