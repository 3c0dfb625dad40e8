-- The message schedule, filled word by word.
-- Assumes nothing.
use Rattle.std.proofs.Common.{◌≡◌, ℕ, zero, suc, ◌+◌, ◌-◌, ◌<◌, ◌≤◌, List, [], ◌∷◌, ◌++◌, length, get_or, take, drop, set, sym, ap, ◌∙◌, le_of_eq, add-zero, add-suc, add-one, arith, length-append, get_or-drop, take_all, get_or-take, take-suc-set, take_at}
use lib.ListN.{get_or-append}
use lib.Seq.{drop-append-le}
use Rattle.hash.specs.Word.{◌⊞◌, σ₀, σ₁}
use Rattle.hash.specs.Sha256.{next_word, scheduled, schedule}

pub start : (w : List ℕ) (t : ℕ) → t ≡ 16 → take t w ≡ scheduled (take 16 w) (t - 16)
unfolding scheduled
start w t e = ap (λ (n : ℕ). take n w) e ∙ ap (λ (n : ℕ). scheduled (take 16 w) (n - 16)) (sym e)

-- a next word looks at words before it alone
next_word-take : (w : List ℕ) (t : ℕ) → 16 ≤ t → next_word (take t w) t ≡ next_word w t
next_word-take w t h =
    rw (
      get_or-take t w (t - 2) 0 (omega arith),
      get_or-take t w (t - 7) 0 (omega arith),
      get_or-take t w (t - 15) 0 (omega arith),
      get_or-take t w (t - 16) 0 (omega arith),
    )

pub one_more : (m w : List ℕ) (t v : ℕ) → 16 ≤ t → t < length w → take t w ≡ scheduled m (t - 16) → v ≡ next_word w t
    → take (t + 1) (set w t v) ≡ scheduled m (t + 1 - 16)
unfolding scheduled
one_more m w t v lo hi e p =
    let next : t + 1 - 16 ≡ suc (t - 16) = omega arith in
    let here : 16 + (t - 16) ≡ t = omega arith in
    let same : next_word (scheduled m (t - 16)) (16 + (t - 16)) ≡ v = (λ i. next_word (sym e i) (here i)) ∙ next_word-take w t lo ∙ sym p in
    ap (λ (n : ℕ). take n (set w t v)) (add-one t) ∙ take-suc-set w t v hi ∙ (λ i. e i ++ (sym same i ∷ []))
    ∙ ap (scheduled m) (sym next)

-- the loop ends at t, past every word of w
pub extended : (m w : List ℕ) (t l : ℕ) → t ≡ l → length w ≡ l → take t w ≡ scheduled m (t - 16) → w ≡ scheduled m (l - 16)
extended m w t l e-t e-l all = sym (take_all l w (le_of_eq e-l)) ∙ ap (λ (n : ℕ). take n w) (sym e-t) ∙ all ∙ ap (λ (n : ℕ). scheduled m (n - 16)) e-t

-- r is the block m, which z follows, and w what it is continued to
pub whole : (m r z w : List ℕ) → length m ≡ 16 → length z ≡ 48 → r ≡ m → w ≡ scheduled (take 16 (r ++ z)) (length (r ++ z) - 16) → w ≡ schedule m
unfolding schedule
whole m r z w l-m l-z e-r all =
    let sixteen : length r ≡ 16 = ap length e-r ∙ l-m in
    let n : length (r ++ z) - 16 ≡ 48 = omega (arith, length-append r z) in
    all ∙ (λ i. scheduled (take_at r z 16 sixteen i) (n i)) ∙ ap (λ (x : List ℕ). scheduled x 48) e-r

pub length-scheduled : (m : List ℕ) (n : ℕ) → length (scheduled m n) ≡ length m + n
unfolding scheduled
length-scheduled m zero = sym (add-zero (length m))
length-scheduled m (suc n) = let l = length-scheduled m n in length-append (scheduled m n) _ ∙ omega arith

-- the words of a schedule stay where more follow
pub scheduled-stays : (m : List ℕ) (n j i : ℕ) → i < length m + n → get_or (scheduled m (n + j)) i 0 ≡ get_or (scheduled m n) i 0
unfolding scheduled
scheduled-stays m n zero i h = ap (λ (a : ℕ). get_or (scheduled m a) i 0) (add-zero n)
scheduled-stays m n (suc j) i h =
    ap (λ (a : ℕ). get_or (scheduled m a) i 0) (add-suc n j)
    ∙ get_or-append (scheduled m (n + j)) _ 0 i (omega (arith, length-scheduled m (n + j)))
    ∙ scheduled-stays m n j i h

-- a next word looks at the sixteen words before it alone
next_word-drop : (w : List ℕ) (t n : ℕ) → next_word (drop t w) (16 + n) ≡ next_word w (16 + (t + n))
next_word-drop w t n = λ j. σ₁ (at 2 (omega arith) j) ⊞ at 7 (omega arith) j ⊞ σ₀ (at 15 (omega arith) j) ⊞ at 16 (omega arith) j
  where
    at : (b : ℕ) → b ≤ 16 → get_or (drop t w) (16 + n - b) 0 ≡ get_or w (16 + (t + n) - b) 0
    at b h = let e : t + (16 + n - b) ≡ 16 + (t + n) - b = omega arith in get_or-drop t w (16 + n - b) 0 ∙ ap (λ (i : ℕ). get_or w i 0) e

-- what follows the sixteen words at t is the schedule from there
pub scheduled-on : (m : List ℕ) (t n : ℕ) → scheduled (drop t (scheduled m t)) n ≡ drop t (scheduled m (t + n))
unfolding scheduled
scheduled-on m t zero = ap (λ (a : ℕ). drop t (scheduled m a)) (sym (add-zero t))
scheduled-on m t (suc n) =
    let v : List ℕ = scheduled m (t + n) in
    (λ j. scheduled-on m t n j ++ (next_word (scheduled-on m t n j) (16 + n) ∷ []))
    ∙ ap (λ (x : ℕ). drop t v ++ (x ∷ [])) (next_word-drop v t n)
    ∙ sym (drop-append-le t v (next_word v (16 + (t + n)) ∷ []) (omega (arith, length-scheduled m (t + n))))
    ∙ ap (λ (a : ℕ). drop t (scheduled m a)) (sym (add-suc t n))
