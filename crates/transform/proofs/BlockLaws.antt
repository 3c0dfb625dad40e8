-- Laws of a list that is cut into blocks.
-- Assumes nothing.
use mathlib.Core.Path.{◌≡◌, refl, sym, ◌∙◌, ap, ap₂, subst}
use mathlib.Core.Logic.{◌⊎◌, inl, inr}
use mathlib.Core.List.{List, ◌++◌}
use Prim.Native.Nat.{ℕ, zero, suc, ◌+◌, ◌*◌, ◌-◌, ◌/◌, ◌%◌, ◌≤◌, ◌<◌}
use native.Mathlib.Nat.{add-mul, mul-add, one-mul, mul-zero, suc-mul, mul-le-mul_right, mod-lt, div-add-mod', div-lt_iff_lt-mul}
use native.Mathlib.Decide.{ℕ_discrete, dec_lt}
use native.Mathlib.Omega.{arith}
use borrow.Rule.Slice.PartMut.{put_mid, same_len_mid, take_put, drop_put}
use lib.ListN.{length, get_or, take, drop, length-drop}
use lib.Seq.{length-take-le, take-add, drop-drop, take_at, drop_at, ext_get_or, get_or-take, get_or-drop}
use Rattle.field.specs.BabyBear.{p}
use Rattle.field.specs.Numbers.{Below}
use Rattle.transform.specs.Blocks.{block, Blocks}

-- Block b of n ends within the list.
pub block_within : (n size b : ℕ) → b < n → b * size + size ≤ n * size
block_within n size b h = omega (arith, mul-le-mul_right {m = suc b} {n = n} size (omega arith), suc-mul b size)

pub block_at : (l : List ℕ) (size b i : ℕ) → i < size → get_or (block size b l) i 0 ≡ get_or l (b * size + i) 0
block_at l size b i h = get_or-take size (drop (b * size) l) i 0 h ∙ get_or-drop (b * size) l i 0

-- A block as a part of a slice.
pub block-part : (l : List ℕ) (size b : ℕ) → take (b * size + size - b * size) (drop (b * size) l) ≡ block size b l
block-part l size b = ap (λ (m : ℕ). take m (drop (b * size) l)) count
  where
    count : b * size + size - b * size ≡ size
    count = omega arith

module _ (l : List ℕ) (n size : ℕ) (long : length l ≡ n * size) where
  pub block-length : (b : ℕ) → b < n → length (block size b l) ≡ size
  block-length b h = length-take-le size (drop (b * size) l) (omega (arith, length-drop (b * size) l, block_within n size b h))

  pub block-below : Below l → (b : ℕ) → b < n → Below (block size b l)
  block-below below b h i g = rw (block_at l size b i (omega (arith, block-length b h))) (below (b * size + i) (omega (arith, block-length b h, block_within n size b h)))

-- One block is put in.
module _ (l : List ℕ) (n size b : ℕ) (long : length l ≡ n * size) (h : b < n) (ys : List ℕ) (same : length ys ≡ size) where
  abbrev at : ℕ
  at = b * size

  abbrev put : List ℕ
  put = put_mid at (at + size - at) l ys

  ends : at + size ≤ length l
  ends = omega (arith, block_within n size b h)

  counted : length ys ≡ at + size - at
  counted = omega (arith)

  pub put-length : length put ≡ length l
  put-length = same_len_mid at (at + size - at) l ys (counted ∙ sym (length-take-le (at + size - at) (drop at l) (omega (arith, length-drop at l, ends))))

  pub put-this : block size b put ≡ ys
  put-this = ap (take size) (drop_at (take at l) (ys ++ drop (at + size - at) (drop at l)) at (length-take-le at l (omega (arith, ends)))) ∙ take_at ys (drop (at + size - at) (drop at l)) size same

  outside : (j : ℕ) → (j < at) ⊎ (at + size ≤ j) → get_or put j 0 ≡ get_or l j 0
  outside j (inl g) = sym (get_or-take at put j 0 g) ∙ ap (λ (t : List ℕ). get_or t j 0) (take_put at (at + size - at) l ys (omega (arith, ends))) ∙ get_or-take at l j 0 g
  outside j (inr g) = ap (λ (i : ℕ). get_or put i 0) beyond ∙ sym (get_or-drop (at + size) put (j - (at + size)) 0)
      ∙ ap (λ (t : List ℕ). get_or t (j - (at + size)) 0) (drop_put at (at + size) l ys (omega arith) ends counted)
      ∙ get_or-drop (at + size) l (j - (at + size)) 0 ∙ ap (λ (i : ℕ). get_or l i 0) (sym beyond)
    where
      beyond : j ≡ at + size + (j - (at + size))
      beyond = omega arith

  pub put_other : (c : ℕ) → c < n → (c ≡ b → ⊥) → block size c put ≡ block size c l
  put_other c g d = ext_get_or 0 (block size c put) (block size c l) (block-length put n size (put-length ∙ long) c g ∙ sym (block-length l n size long c g))
      (λ i k. let m : i < size = omega (arith, block-length put n size (put-length ∙ long) c g) in
      block_at put size c i m ∙ outside (c * size + i) (apart i m (dec_lt c b)) ∙ sym (block_at l size c i m))
    where
      apart : (i : ℕ) → i < size → Dec (c < b) → (c * size + i < at) ⊎ (at + size ≤ c * size + i)
      apart i m (yes k) = inl (omega (arith, block_within b size c k))
      apart i m (no k) = inr (omega (arith, block_within c size b (omega arith)))

-- ---- a loop over the blocks

module _ (n size : ℕ) (f : ℕ → List ℕ) (before : List ℕ) where
  -- The state before turn b: the blocks before it are new, and the others as they were.
  pub record Done (b : ℕ) (out : List ℕ) : Type 0 where
    pub long : length out ≡ n * size
    pub new : Blocks b size f out
    pub old : (c : ℕ) → b ≤ c → c < n → block size c out ≡ block size c before

  pub done_none : length before ≡ n * size → Done 0 before
  done_none l = record { long = l; new = λ c h. absurd (omega arith); old = λ c h g. refl }

  pub done_more : (b : ℕ) (out ys : List ℕ) → b < n → Done b out → length ys ≡ size → ys ≡ f b → Done (b + 1) (put_mid (b * size) (b * size + size - b * size) out ys)
  done_more b out ys h t same e = record {
    long = put-length out n size b t.long h ys same ∙ t.long;
    new = λ c g. go c g (ℕ_discrete c b);
    old = λ c g k. put_other out n size b t.long h ys same c k (λ q. omega arith) ∙ t.old c (omega arith) k;
  }
    where
      go : (c : ℕ) → c < b + 1 → Dec (c ≡ b) → block size c (put_mid (b * size) (b * size + size - b * size) out ys) ≡ f c
      go c g (yes q) = ap (λ (i : ℕ). block size i (put_mid (b * size) (b * size + size - b * size) out ys)) q ∙ put-this out n size b t.long h ys same ∙ e ∙ ap f (sym q)
      go c g (no q) = put_other out n size b t.long h ys same c (omega arith) q ∙ t.new c (omega arith)

-- ---- blocks of twice the size

pub block-double : (l : List ℕ) (size b : ℕ) → block (size + size) b l ≡ block size (b + b) l ++ block size (b + b + 1) l
block-double l size b = take-add size size (drop (b * (size + size)) l)
    ∙ ap₂ (λ (s t : List ℕ). s ++ t) (ap (λ (j : ℕ). take size (drop j l)) first) (ap (take size) (drop-drop size (b * (size + size)) l ∙ ap (λ (j : ℕ). drop j l) second))
  where
    first : b * (size + size) ≡ (b + b) * size
    first = mul-add b size size ∙ sym (add-mul b b size)

    second : b * (size + size) + size ≡ (b + b + 1) * size
    second = omega (arith, first, add-mul (b + b) 1 size, one-mul size)

-- ---- numbers of all blocks

pub factor-positive : (n m j : ℕ) → j < n * m → 0 < m
factor-positive n zero j h = absurd (omega (arith, mul-zero n))
factor-positive n (suc m) j h = omega arith

pub blocks-below : (n size : ℕ) (f : ℕ → List ℕ) (l : List ℕ) → length l ≡ n * size → Blocks n size f l → ((b : ℕ) → b < n → Below (f b)) → Below l
blocks-below n size f l long same below j h =
    subst (λ (x : ℕ). x < p) found (below (j / size) inside (j % size) (omega (arith, ap length (sym (same (j / size) inside)), block-length l n size long (j / size) inside, part)))
  where
    some : 0 < size
    some = factor-positive n size j (omega arith)

    part : j % size < size
    part = mod-lt j some

    inside : j / size < n
    inside = (div-lt_iff_lt-mul some).1 (omega arith)

    found : get_or (f (j / size)) (j % size) 0 ≡ get_or l j 0
    found = ap (λ (t : List ℕ). get_or t (j % size) 0) (sym (same (j / size) inside)) ∙ block_at l size (j / size) (j % size) part ∙ ap (λ (m : ℕ). get_or l m 0) (div-add-mod' j size)
