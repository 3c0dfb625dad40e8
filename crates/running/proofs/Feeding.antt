-- Bytes fed into a running hash: within the unfinished block, or filling it and whole blocks behind it.
use mathlib.Core.Path.{◌≡◌, sym, ap, ap₂, subst, ◌∙◌}
use mathlib.Core.List.{List, ◌++◌, append-nil, append_assoc}
use Prim.Native.Nat.{ℕ, ◌+◌, ◌-◌, ◌*◌, ◌/◌, ◌%◌, ◌<◌, ◌≤◌}
use native.Mathlib.Nat.{le_of_eq}
use native.Mathlib.Omega.{arith}
use lib.ListN.{length, take, drop, length-append, length-drop, drop_of_length-le, take-append-drop}
use lib.Seq.{take_at, drop_at, drop-drop, length-take-le, drop-append-le}
use Rattle.std.proofs.lemmas.List.{take_rest}
use Rattle.hash.specs.Sha256.{H₀, hash}
use Rattle.hash.proofs.Blocks.{hash-append, hash-drop}
use Rattle.running.specs.declared.Running.{Running}
use Rattle.running.specs.Fed.{Fed, Feeds}

-- The bytes behind the whole blocks: those since them, and s.
abbrev behind : Running → List ℕ → List ℕ
behind r s = take (r.len % 64) r.rest ++ s

module _ {r : Running} {m : List ℕ} (s : List ℕ) (fed : Fed r m) where
  whole : 64 * (r.len / 64) ≤ length m
  whole = omega (arith, fed.size)

  drop-behind : drop (64 * (r.len / 64)) (m ++ s) ≡ behind r s
  drop-behind = drop-append-le (64 * (r.len / 64)) m s whole ∙ ap (λ (t : List ℕ). t ++ s) (sym fed.since)

  -- i blocks more
  hash-behind : (i : ℕ) → hash H₀ (m ++ s) (r.len / 64 + i) ≡ hash r.value (behind r s) i
  hash-behind i =
      sym (hash-drop H₀ (m ++ s) (r.len / 64) i)
      ∙ ap₂ (λ (v t : List ℕ). hash v t i) (hash-append H₀ m s (r.len / 64) whole ∙ sym fed.blocks) drop-behind

  left_behind : (i : ℕ) → drop (64 * (r.len / 64 + i)) (m ++ s) ≡ drop (64 * i) (behind r s)
  left_behind i =
      let e : 64 * (r.len / 64 + i) ≡ 64 * (r.len / 64) + 64 * i = omega arith in
      ap (λ (n : ℕ). drop n (m ++ s)) e ∙ sym (drop-drop (64 * i) (64 * (r.len / 64)) (m ++ s)) ∙ ap (drop (64 * i)) drop-behind

  more : (r' : Running) (i : ℕ) → r'.len ≡ r.len + length s → r'.len / 64 ≡ r.len / 64 + i → r'.value ≡ hash r.value (behind r s) i
      → take (r'.len % 64) r'.rest ≡ drop (64 * i) (behind r s) → Fed r' (m ++ s)
  more r' i l e v t = record {
    blocks = v ∙ sym (hash-behind i) ∙ ap (hash H₀ (m ++ s)) (sym e);
    since = t ∙ sym (left_behind i) ∙ ap (λ (n : ℕ). drop (64 * n) (m ++ s)) (sym e);
    size = omega (arith, l, fed.size, length-append m s);
  }

-- ---- within the unfinished block

pub feeds-within : (r r' : Running) (s : List ℕ) → length r.rest ≡ 64 → length s < 64 - r.len % 64
    → r'.rest ≡ take (r.len % 64) r.rest ++ s ++ drop (r.len % 64 + length s) r.rest → r'.value ≡ r.value → r'.len ≡ r.len + length s → Feeds s r r'
unfolding hash
feeds-within r r' s size few copied same l = record {
  longer = l;
  follows = λ m fed.
      let e : r'.len / 64 ≡ r.len / 64 + 0 = omega arith in
      let n : r'.len % 64 ≡ r.len % 64 + length s = omega arith in
      let sum : length (behind r s) ≡ r.len % 64 + length s = length-append (take (r.len % 64) r.rest) s ∙ ap (λ (i : ℕ). i + length s) (length-take-le (r.len % 64) r.rest (omega arith)) in
      more s fed r' 0 l e same (ap₂ take n copied ∙ take_at (behind r s) (drop (r.len % 64 + length s) r.rest) (r.len % 64 + length s) sum);
}

-- ---- the unfinished block, whole blocks, and what is left

module _ (r : Running) (s : List ℕ) (size : length r.rest ≡ 64) (many : 64 - r.len % 64 ≤ length s) where
  abbrev at : ℕ
  at = r.len % 64

  abbrev room : ℕ
  room = 64 - at

  -- the rest of s, as the code's slice has it
  abbrev b : List ℕ
  b = take (length s - room) (drop room s)

  module _ (filled : List ℕ) (copied : filled ≡ take at r.rest ++ take room s ++ drop (at + length (take room s)) r.rest) where
    at_size : length (take at r.rest) ≡ at
    at_size = length-take-le at r.rest (omega arith)

    room-size : length (take room s) ≡ room
    room-size = length-take-le room s many

    filled_is : filled ≡ take at r.rest ++ take room s
    filled_is =
        copied ∙ ap (λ (t : List ℕ). take at r.rest ++ take room s ++ t) (drop_of_length-le r.rest {i = at + length (take room s)} (omega (arith, room-size)))
        ∙ append-nil (take at r.rest ++ take room s)

    filled-size : length filled ≡ 64
    filled-size = ap length filled_is ∙ length-append (take at r.rest) (take room s) ∙ omega (arith, at_size, room-size)

    -- The bytes behind the whole blocks are the filled block, and the rest of s.
    behind-is : behind r s ≡ filled ++ drop room s
    behind-is =
        ap (λ (t : List ℕ). take at r.rest ++ t) (sym (take-append-drop room s))
        ∙ sym (append_assoc (take at r.rest) (take room s) (drop room s))
        ∙ ap (λ (t : List ℕ). t ++ drop room s) (sym filled_is)

    left_is : drop 64 (behind r s) ≡ drop room s
    left_is = ap (drop 64) behind-is ∙ drop_at filled (drop room s) 64 filled-size

    -- t is what its whole blocks leave of it
    pub feeds-across : (r' : Running) (first t z : List ℕ) → first ≡ hash r.value filled (length filled / 64) → r'.value ≡ hash first b (length b / 64)
        → t ≡ take (length b - 64 * (length b / 64)) (drop (64 * (length b / 64)) b) → r'.rest ≡ t ++ z → r'.len ≡ r.len + length s → Feeds s r r'
    feeds-across r' first t z e-first e-all e-t e-rest l = record { longer = l; follows = λ m fed. more s fed r' (1 + blocks) l counted hashed since }
      where
        blocks : ℕ
        blocks = length b / 64

        e-b : b ≡ drop room s
        e-b = take_rest s room

        left : t ≡ drop (64 * blocks) b
        left = e-t ∙ take_rest b (64 * blocks)

        b-size : length b ≡ length s - room
        b-size = ap length e-b ∙ length-drop room s

        counted : r'.len / 64 ≡ r.len / 64 + (1 + blocks)
        counted = omega (arith, b-size)

        one : hash r.value (behind r s) 1 ≡ first
        one =
            let e : 1 ≡ length filled / 64 = omega (arith, filled-size) in
            ap (λ (x : List ℕ). hash r.value x 1) behind-is ∙ hash-append r.value filled (drop room s) 1 (le_of_eq (sym filled-size)) ∙ ap (hash r.value filled) e ∙ sym e-first

        hashed : r'.value ≡ hash r.value (behind r s) (1 + blocks)
        hashed =
            e-all ∙ ap (λ (x : List ℕ). hash first x blocks) (e-b ∙ sym left_is) ∙ ap (λ (v : List ℕ). hash v (drop 64 (behind r s)) blocks) (sym one)
            ∙ hash-drop r.value (behind r s) 1 blocks

        t-size : length t ≡ r'.len % 64
        t-size = ap length left ∙ length-drop (64 * blocks) b ∙ omega (arith, b-size)

        since : take (r'.len % 64) r'.rest ≡ drop (64 * (1 + blocks)) (behind r s)
        since =
            let e : 64 * (1 + blocks) ≡ 64 + 64 * blocks = omega arith in
            ap (take (r'.len % 64)) e-rest ∙ take_at t z (r'.len % 64) t-size ∙ left ∙ ap (drop (64 * blocks)) (e-b ∙ sym left_is)
            ∙ drop-drop (64 * blocks) 64 (behind r s) ∙ ap (λ (n : ℕ). drop n (behind r s)) (sym e)

-- ---- one field after the other

-- The bytes fed in are t.
pub feeds-as : {s t : List ℕ} {x y : Running} → s ≡ t → Feeds s x y → Feeds t x y
feeds-as {x = x} {y} e f = subst (λ (b : List ℕ). Feeds b x y) e f

-- Two fields fed in are one: the first and the second behind it.
pub feeds-both : {s t : List ℕ} {x y z : Running} → Feeds s x y → Feeds t y z → Feeds (s ++ t) x z
feeds-both {s} {t} {z = z} f g = record {
  longer = omega (arith, f.longer, g.longer, length-append s t);
  follows = λ m fed. subst (Fed z) (append_assoc m s t) (g.follows (m ++ s) (f.follows m fed));
}
