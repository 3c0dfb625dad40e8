-- Lanes of words, for any count n of lanes: what is written to a lane stands there, the other lanes stay, and a loop over lanes.
-- Assumes nothing.
use mathlib.Core.Path.{◌≡◌, refl, sym, ap, subst, ◌∙◌}
use mathlib.Core.List.{List}
use Prim.Native.Nat.{ℕ, zero, suc, ◌+◌, ◌*◌, ◌%◌, ◌≤◌, ◌<◌}
use native.Mathlib.Numerals.{add-one}
use native.Mathlib.Nat.{mul-suc, mul-le-mul_left, mul-add-mod_self_left, mod-eq_of_lt, add_right_cancel, eq_of_mul-eq-mul_left, not-suc-le-zero}
use native.Mathlib.Decide.{ℕ_discrete}
use native.Mathlib.Omega.{arith}
use lib.ListN.{length, get_or, take, set, length-set}
use lib.Seq.{get_or-set_same, get_or-set_other, get_or-take, ext_get_or}
use Rattle.hash.specs.Word.{◌⊞◌}
use Rattle.hash.specs.Sha256.{up_to, sum}
use Rattle.hash.proofs.Fill.{length-up_to, up_to-ext, get_or-up_to}
use Rattle.lanes.specs.Lanes.{lane, set_lane}

-- ---- places
-- word j of lane i stands before the end of c words
pub place-below : (n i j c : ℕ) → i < n → j < c → n * j + i < n * c
place-below n i j c h l = omega (arith, mul-suc n j, mul-le-mul_left {m = suc j} {n = c} n l)

-- two lanes have no place in common
lanes-apart : (n j c q i : ℕ) → q < n → i < n → (q ≡ i → ⊥) → n * j + q ≡ n * c + i → ⊥
lanes-apart n j c q i hq hi differ e =
    differ (sym (mod-eq_of_lt hq) ∙ sym (mul-add-mod_self_left n j q) ∙ ap (λ (x : ℕ). x % n) e ∙ mul-add-mod_self_left n c i ∙ mod-eq_of_lt hi)

-- nor have two words of a lane
words-apart : (n j c i : ℕ) → i < n → (j ≡ c → ⊥) → n * j + i ≡ n * c + i → ⊥
words-apart n j c i h differ e = differ (eq_of_mul-eq-mul_left n (omega arith) j c (add_right_cancel i e))

-- ---- reading and writing
pub length-lane : (n i c : ℕ) (s : List ℕ) → length (lane n i c s) ≡ c
unfolding lane
length-lane n i c s = length-up_to c _

pub length-set_lane : (n i : ℕ) (v : List ℕ) (c : ℕ) (s : List ℕ) → length (set_lane n i v c s) ≡ length s
unfolding set_lane
length-set_lane n i v zero s = refl
length-set_lane n i v (suc c) s = length-set (set_lane n i v c s) (n * c + i) (get_or v c 0) ∙ length-set_lane n i v c s

-- one more word
pub set_lane-more : (n i : ℕ) (v s₀ s : List ℕ) (c : ℕ) → s ≡ set_lane n i v c s₀ → set s (n * c + i) (get_or v c 0) ≡ set_lane n i v (c + 1) s₀
unfolding set_lane
set_lane-more n i v s₀ s c e = rw (add-one c) (ap (λ (x : List ℕ). set x (n * c + i) (get_or v c 0)) e)

module _ (n i : ℕ) (inside : i < n) (v : List ℕ) where
  other_word : (c : ℕ) (s : List ℕ) (q j : ℕ) → q < n → (q ≡ i → ⊥) → get_or (set_lane n i v c s) (n * j + q) 0 ≡ get_or s (n * j + q) 0
  unfolding set_lane
  other_word zero s q j h differ = refl
  other_word (suc c) s q j h differ =
      get_or-set_other (set_lane n i v c s) (n * c + i) (n * j + q) (get_or v c 0) 0 (lanes-apart n j c q i h inside differ) ∙ other_word c s q j h differ

  own-word : (c : ℕ) (s : List ℕ) (j : ℕ) → n * c ≤ length s → j < c → get_or (set_lane n i v c s) (n * j + i) 0 ≡ get_or v j 0
  unfolding set_lane
  own-word zero s j room h = absurd (not-suc-le-zero h)
  own-word (suc c) s j room h = go (own-word c s j (omega (arith, mul-suc n c))) (ℕ_discrete j c)
    where
      go : (j < c → get_or (set_lane n i v c s) (n * j + i) 0 ≡ get_or v j 0) → Dec (j ≡ c)
          → get_or (set (set_lane n i v c s) (n * c + i) (get_or v c 0)) (n * j + i) 0 ≡ get_or v j 0
      go before (yes e) =
          ap (λ (x : ℕ). get_or (set (set_lane n i v c s) (n * c + i) (get_or v c 0)) (n * x + i) 0) e
          ∙ get_or-set_same (set_lane n i v c s) (n * c + i) (get_or v c 0) 0 (omega (arith, length-set_lane n i v c s, mul-suc n c))
          ∙ ap (λ (x : ℕ). get_or v x 0) (sym e)
      go before (no differ) =
          get_or-set_other (set_lane n i v c s) (n * c + i) (n * j + i) (get_or v c 0) 0 (words-apart n j c i inside differ)
          ∙ before (omega (arith, differ))

  pub other-lane : (c : ℕ) (s : List ℕ) (q d : ℕ) → q < n → (q ≡ i → ⊥) → lane n q d (set_lane n i v c s) ≡ lane n q d s
  unfolding lane
  other-lane c s q d h differ = up_to-ext d _ _ (λ j k. other_word c s q j h differ)

  pub own_lane : (s : List ℕ) → n * length v ≤ length s → lane n i (length v) (set_lane n i v (length v) s) ≡ v
  unfolding lane
  own_lane s room =
      up_to-ext (length v) _ (λ j. get_or v j 0) (λ j k. own-word (length v) s j room k)
      ∙ ext_get_or 0 (up_to (length v) (λ j. get_or v j 0)) v (length-up_to (length v) _)
      (λ j k. get_or-up_to (length v) (λ j. get_or v j 0) j (rw (sym (length-up_to (length v) (λ j. get_or v j 0))) k))

-- a lane's first c words stand in the first words of all lanes
pub lane-front : (n i c d : ℕ) (s : List ℕ) → i < n → c ≤ d → (j : ℕ) → j < c → get_or (lane n i c (take (n * c) s)) j 0 ≡ get_or (lane n i d s) j 0
unfolding lane
lane-front n i c d s inside few j h =
    get_or-up_to c (λ k. get_or (take (n * c) s) (n * k + i) 0) j h ∙ get_or-take (n * c) s (n * j + i) 0 (place-below n i j c inside h)
    ∙ sym (get_or-up_to d (λ k. get_or s (n * k + i) 0) j (omega arith))

-- ---- a loop over lanes: those before i are f's, the others as they were
abbrev pub Each : ℕ → ℕ → (ℕ → List ℕ) → ℕ → List ℕ → List ℕ → Type 0
Each n c f i s₀ s = (q : ℕ) → q < n → (q < i → lane n q c s ≡ f q) × (i ≤ q → lane n q c s ≡ lane n q c s₀)

module _ (n c : ℕ) (f : ℕ → List ℕ) where
  pub each_start : (s : List ℕ) → Each n c f 0 s s
  each_start s q h = ((λ l. absurd (not-suc-le-zero l)), λ l. refl)

  pub each_step : (i : ℕ) (s₀ s v : List ℕ) → i < n → n * c ≤ length s → length v ≡ c → v ≡ f i → Each n c f i s₀ s
      → Each n c f (i + 1) s₀ (set_lane n i v (length v) s)
  each_step i s₀ s v inside room l e all q h = go (ℕ_discrete q i)
    where
      now-s : List ℕ
      now-s = set_lane n i v (length v) s

      own : lane n i c now-s ≡ v
      own = subst (λ (d : ℕ). lane n i d now-s ≡ v) l (own_lane n i inside v s (subst (λ (d : ℕ). n * d ≤ length s) (sym l) room))

      go : Dec (q ≡ i) → (q < i + 1 → lane n q c now-s ≡ f q) × (i + 1 ≤ q → lane n q c now-s ≡ lane n q c s₀)
      go (yes same) = ((λ k. ap (λ (x : ℕ). lane n x c now-s) same ∙ own ∙ e ∙ ap f (sym same)), λ k. absurd (omega (arith, same)))
      go (no differ) =
          let stays = other-lane n i inside v (length v) s q c h differ in
          ((λ k. stays ∙ (all q h).0 (omega (arith, differ))), λ k. stays ∙ (all q h).1 (omega arith))

  pub each-end : (i : ℕ) (s₀ s : List ℕ) → n ≤ i → Each n c f i s₀ s → (q : ℕ) → q < n → lane n q c s ≡ f q
  each-end i s₀ s done all q h = (all q h).0 (omega arith)

-- ---- sums of words
-- each lane of a sum is the sum of the lanes
pub lane-sum : (n i l : ℕ) (s h : List ℕ) → i < n → l ≡ n * 8 → lane n i 8 (up_to l (λ j. get_or s j 0 ⊞ get_or h j 0)) ≡ sum (lane n i 8 s) (lane n i 8 h)
unfolding lane sum
lane-sum n i l s h inside e =
    up_to-ext 8 _ _
    (λ j k. get_or-up_to l (λ j. get_or s j 0 ⊞ get_or h j 0) (n * j + i) (subst (λ (x : ℕ). n * j + i < x) (sym e) (place-below n i j 8 inside k))
    ∙ (λ a. sym (get_or-up_to 8 (λ j. get_or s (n * j + i) 0) j k) a ⊞ sym (get_or-up_to 8 (λ j. get_or h (n * j + i) 0) j k) a))
