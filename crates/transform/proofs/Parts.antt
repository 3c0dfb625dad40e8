-- The levels of the transform: n parts of the witness, block b with the codeword of every n-th number from its place on.
-- Assumes nothing.
use mathlib.Core.Path.{◌≡◌, refl, sym, ◌∙◌, ap, ap₂}
use mathlib.Core.Bool.{true}
use mathlib.Core.List.{List, map, ◌++◌}
use Prim.Native.Nat.{ℕ, zero, suc, ◌+◌, ◌*◌, ◌/◌, ◌^◌, ◌≤◌, ◌<◌}
use native.Mathlib.Nat.{mul_assoc, mul_comm, mul_left_comm, add-mul, mul-add, mul-one, one-mul, zero-mul, two-pow-succ}
use native.Mathlib.Omega.{arith}
use lib.ListN.{length, get_or, take, drop, replicate, length-drop, length-map}
use lib.Seq.{drop-drop, get_or-drop, take_all}
use Rattle.field.specs.BabyBear.{R, F, val, ofℕ}
use Rattle.field.specs.Numbers.{Below}
use Rattle.field.proofs.Numbers.{below-elements}
use Rattle.code.specs.Codeword.{codeword}
use Rattle.code.specs.Points.{is_witness_count, points}
use Rattle.code.proofs.Points.{points-length}
use Rattle.code.proofs.Sizes.{step-whole}
use Rattle.code.proofs.Taken.{taken, taken-all, taken-points}
use Rattle.transform.specs.Blocks.{block, Blocks, joint, place}
use Rattle.transform.proofs.PlaceLaws.{place-even, place-odd}
use Rattle.transform.proofs.Roots.{within}
use Rattle.transform.proofs.Levels.{first-number, level-joined}
use Rattle.transform.proofs.BlockLaws.{block_within, block-double, blocks-below}

-- The codeword of c numbers of w, every n-th from a place on, at v points, every step-th of the table.
abbrev part : (table w : List ℕ) (n v step c place : ℕ) → List ℕ
part table w n v step c place = map val (codeword R (taken table step v) (taken (drop place w) n c))

-- n blocks of v values are the codewords of n parts of w.
pub record Parts (table w : List ℕ) (n v step : ℕ) (out : List ℕ) : Type 0 where
  pub exponent : ℕ
  pub numbers : ℕ
  pub power : n ≡ 2 ^ exponent
  pub all : n * numbers ≡ length w
  pub four : v ≡ 4 * numbers
  pub spaced : step ≡ n * (64 / length w)
  pub long : length out ≡ n * v
  pub parts : Blocks n v (λ b. part table w n v step numbers (place exponent b)) out

module _ (table w : List ℕ) (whole : table ≡ map val (points 64)) (count : is_witness_count (length w) ≡ true) (below : Below w) where
  abbrev k : ℕ
  k = length w

  -- ---- the first level

  rest_below : (i : ℕ) → Below (drop i w)
  rest_below i j h = rw (get_or-drop i w j 0) (below (i + j) (omega (arith, length-drop i w)))

  module _ (e : ℕ) (power : 2 ^ e ≡ k) (inside : (b : ℕ) → b < k → place e b < k) where
    pub parts_first : (out : List ℕ) → length out ≡ 4 * k → Blocks k 4 (λ b. replicate 4 (get_or w (place e b) 0)) out → Parts table w k 4 64 out
    parts_first out long spread = record {
      exponent = e;
      numbers = 1;
      power = sym power;
      all = mul-one k;
      four = refl;
      spaced = sym (step-whole k count);
      long = long ∙ mul_comm 4 k;
      parts = λ b h. spread b h ∙ ap (replicate 4) (sym (get_or-drop (place e b) w 0 0 ∙ ap (λ (i : ℕ). get_or w i 0) (omega arith)))
          ∙ first-number (drop (place e b) w) table k 64 (omega (arith, length-drop (place e b) w, inside b h)) (rest_below (place e b));
    }

  -- ---- one level

  above : (e n : ℕ) → n ≡ 2 ^ e → 1 < n → (d : ℕ) × (e ≡ suc d)
  above zero n h more = absurd (omega arith)
  above (suc d) n h more = (d, refl)

  module _ (n v step : ℕ) (out : List ℕ) (more : 1 < n) (t : Parts table w n v step out) where
    d : ℕ
    d = (above t.exponent n t.power more).0

    exponent-suc : t.exponent ≡ suc d
    unfolding d
    exponent-suc = (above t.exponent n t.power more).1

    half-power : n / 2 ≡ 2 ^ d
    half-power = omega (arith, t.power, ap (λ (e : ℕ). 2 ^ e) exponent-suc, two-pow-succ d)

    twice : n ≡ n / 2 + n / 2
    twice = omega (arith, t.power, ap (λ (e : ℕ). 2 ^ e) exponent-suc, two-pow-succ d)

    step-half : step / 2 ≡ n / 2 * (64 / k)
    step-half = omega (arith, t.spaced, ap (λ (m : ℕ). m * (64 / k)) twice, add-mul (n / 2) (n / 2) (64 / k))

    step_twice : step ≡ 2 * (step / 2)
    step_twice = omega (arith, t.spaced, step-half, ap (λ (m : ℕ). m * (64 / k)) twice, add-mul (n / 2) (n / 2) (64 / k))

    half-all : n / 2 * t.numbers + n / 2 * t.numbers ≡ k
    half-all = sym (add-mul (n / 2) (n / 2) t.numbers) ∙ ap (λ (m : ℕ). m * t.numbers) (sym twice) ∙ t.all

    steps : t.numbers * (step / 2) ≡ 32
    steps = ap (λ (m : ℕ). t.numbers * m) step-half ∙ mul_left_comm t.numbers (n / 2) (64 / k) ∙ sym (mul_assoc (n / 2) t.numbers (64 / k))
        ∙ omega (arith, step-whole k count, ap (λ (m : ℕ). m * (64 / k)) half-all, add-mul (n / 2 * t.numbers) (n / 2 * t.numbers) (64 / k))

    values-size : (v + v) * (step / 2) ≡ 256
    values-size = ap (λ (m : ℕ). (m + m) * (step / 2)) t.four
        ∙ omega (arith, steps, add-mul (4 * t.numbers) (4 * t.numbers) (step / 2), mul_assoc 4 t.numbers (step / 2))

    pub parts-asked : (0 < n / 2) × (length out ≡ n / 2 * (v + v)) × ((i : ℕ) → i < v → i * (step / 2) < length table) × Below out
    parts-asked = (
      omega arith,
      t.long ∙ ap (λ (m : ℕ). m * v) twice ∙ add-mul (n / 2) (n / 2) v ∙ sym (mul-add (n / 2) v v),
      (λ i g. omega (arith, within (step / 2) (v + v) values-size i (omega arith), ap length whole, length-map (points 64) val, points-length 64)),
      blocks-below n v (λ b. part table w n v step t.numbers (place t.exponent b)) out t.long t.parts
          (λ b g. below-elements (codeword R (taken table step v) (taken (drop (place t.exponent b) w) n t.numbers))),
    )

    pub values-few : 2 * v ≤ length out
    values-few = omega (arith, parts-asked.1, block_within (n / 2) (v + v) 0 parts-asked.0)

    -- The places of the two parts that block b joins.
    place-first : (b : ℕ) → place t.exponent (b + b) ≡ place d b
    place-first b = ap (λ (e : ℕ). place e (b + b)) exponent-suc ∙ place-even d b

    place-second : (b : ℕ) → place t.exponent (b + b + 1) ≡ place d b + n / 2
    place-second b = ap (λ (e : ℕ). place e (b + b + 1)) exponent-suc ∙ place-odd d b ∙ ap (λ (m : ℕ). place d b + m) (sym half-power)

    -- A part in the words of one level.
    reworded : (i j : ℕ) → i ≡ j → part table w n v step t.numbers i ≡ part table w (2 * (n / 2)) (4 * t.numbers) (2 * (step / 2)) t.numbers j
    reworded i j e = ap₂ (λ (m s : ℕ). part table w m v s t.numbers i) (omega (arith, twice)) step_twice ∙ ap₂ (λ (u q : ℕ). part table w (2 * (n / 2)) u (2 * (step / 2)) t.numbers q) t.four e

    both : (b : ℕ) → b < n / 2 → block (v + v) b out ≡ part table w (2 * (n / 2)) (4 * t.numbers) (2 * (step / 2)) t.numbers (place d b) ++ part table w (2 * (n / 2)) (4 * t.numbers) (2 * (step / 2)) t.numbers (place d b + n / 2)
    both b g = block-double out v b ∙ ap₂ (λ (x y : List ℕ). x ++ y) (t.parts (b + b) (omega (arith, twice)) ∙ reworded _ _ (place-first b)) (t.parts (b + b + 1) (omega (arith, twice)) ∙ reworded _ _ (place-second b))

    pub parts_next : (new : List ℕ) → length new ≡ length out → Blocks (n / 2) (v + v) (λ b. joint table (step / 2) v (block (v + v) b out)) new → Parts table w (n / 2) (v * 2) (step / 2) new
    parts_next new same joins = record {
      exponent = d;
      numbers = t.numbers + t.numbers;
      power = half-power;
      all = mul-add (n / 2) t.numbers t.numbers ∙ half-all;
      four = omega (arith, t.four);
      spaced = step-half;
      long = same ∙ parts-asked.1 ∙ ap (λ (m : ℕ). n / 2 * m) (sym doubled);
      parts = λ b g. ap (λ (m : ℕ). block m b new) doubled ∙ joins b g ∙ level b g;
    }
      where
        doubled : v * 2 ≡ v + v
        doubled = omega arith

        values : 4 * t.numbers + 4 * t.numbers ≡ v * 2
        values = omega (arith, t.four)

        level : (b : ℕ) → b < n / 2 → joint table (step / 2) v (block (v + v) b out) ≡ part table w (n / 2) (v * 2) (step / 2) (t.numbers + t.numbers) (place d b)
        level b g = ap₂ (joint table (step / 2)) t.four (both b g
            ∙ ap (λ (l : List ℕ). part table w (2 * (n / 2)) (4 * t.numbers) (2 * (step / 2)) t.numbers (place d b) ++ map val (codeword R (taken table (2 * (step / 2)) (4 * t.numbers)) (taken l (2 * (n / 2)) t.numbers)))
            (sym (drop-drop (n / 2) (place d b) w)))
            ∙ level-joined table (drop (place d b) w) (n / 2) (step / 2) t.numbers whole steps
            ∙ ap (λ (m : ℕ). part table w (n / 2) m (step / 2) (t.numbers + t.numbers) (place d b)) values

  -- ---- the last level

  two-pow-positive : (e : ℕ) → 0 < 2 ^ e
  two-pow-positive zero = omega arith
  two-pow-positive (suc e) = omega (arith, two-pow-succ e, two-pow-positive e)

  single : (e n : ℕ) → n ≡ 2 ^ e → n ≤ 1 → e ≡ 0
  single zero n h less = refl
  single (suc e) n h less = absurd (omega (arith, two-pow-succ e, two-pow-positive e))

  pub parts_last : (n v step : ℕ) (out : List ℕ) → n ≤ 1 → Parts table w n v step out → out ≡ map val (codeword R (points k) (map ofℕ w))
  parts_last n v step out less t = sym (ap (take v) (ap (λ (i : ℕ). drop i out) (zero-mul v)) ∙ take_all v out (omega (arith, t.long, ap (λ (m : ℕ). m * v) one, one-mul v)))
      ∙ t.parts 0 (omega (arith, one))
      ∙ ap₂ (λ (m i : ℕ). part table w m v step t.numbers i) one (ap (λ (e : ℕ). place e 0) none)
      ∙ ap₂ (λ (s c : ℕ). part table w 1 v s c 0) (t.spaced ∙ ap (λ (m : ℕ). m * (64 / k)) one ∙ one-mul (64 / k)) all-numbers
      ∙ ap (λ (m : ℕ). part table w 1 m (64 / k) k 0) (t.four ∙ ap (λ (c : ℕ). 4 * c) all-numbers)
      ∙ ap₂ (λ (ps l : List F). map val (codeword R ps l)) (taken-points table whole k count) (taken-all w)
    where
      none : t.exponent ≡ 0
      none = single t.exponent n t.power less

      one : n ≡ 1
      one = t.power ∙ ap (λ (e : ℕ). 2 ^ e) none

      all-numbers : t.numbers ≡ k
      all-numbers = sym (one-mul t.numbers) ∙ ap (λ (m : ℕ). m * t.numbers) (sym one) ∙ t.all
