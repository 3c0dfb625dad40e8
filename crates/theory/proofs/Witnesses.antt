-- Any k values at k different positions of a code are those of the codeword of exactly one witness.
use mathlib.Core.Path.{◌≡◌, refl, sym, ◌∙◌}
use mathlib.Core.List.{List, map, Memᴰ}
use Prim.Native.Nat.{ℕ, ◌*◌, ◌<◌}
use native.Mathlib.Omega.{arith}
use lib.ListN.{length, get_or, length-map}
use Rattle.algebra.specs.Ring.{Field}
use Rattle.algebra.specs.Lists.{All, Distinct}
use Rattle.algebra.proofs.ListLaws.{All-map, map-agree, map-member}
use Rattle.code.specs.Codeword.{codeword, Takes}
use Rattle.code.proofs.Uniqueness.{unique-witness}
use Rattle.theory.specs.Items.{Code}
use Rattle.theory.proofs.Passing.{CodeLaws, HasValues}

module _ (F : Field) where
  open F use {ring as R}
  open R use {carrier as K, zero as 𝟘}

  module _ (C : Code K) (code_laws : CodeLaws K C) (ps : List ℕ) (size : length ps ≡ C.k) (distinct : Distinct ps) (inside : All (λ p. p < 4 * C.k) ps) where
    pub one-witness : (values : ℕ → K) → (w : List K) × HasValues F C ps values w × ((v : List K) → HasValues F C ps values v → v ≡ w)
    one-witness values = (
      found.0,
      record { size = found.1.count ∙ size; values-at = map-member (λ p. get_or (codeword R C.points found.0) p 𝟘) values ps found.1.values },
      λ v has. found.2 v (record { count = has.size ∙ sym size; values = map-agree (λ p. get_or (codeword R C.points v) p 𝟘) values ps has.values-at }),
    )
      where
        found : (w : List K) × Takes R C.points ps (map values ps) w × ((v : List K) → Takes R C.points ps (map values ps) v → v ≡ w)
        found = unique-witness F C.points code_laws.different ps (map values ps) distinct
            (All-map {P = λ p. p < 4 * C.k} (λ p h. omega (arith, code_laws.count)) ps inside) (length-map ps values)

    -- Witnesses of k numbers whose codewords agree at the positions are equal.
    pub agree-equal : (w v : List K) → length w ≡ C.k → length v ≡ C.k
        → ((p : ℕ) → Memᴰ p ps → get_or (codeword R C.points w) p 𝟘 ≡ get_or (codeword R C.points v) p 𝟘) → w ≡ v
    agree-equal w v w-size v-size agree =
        let one = one-witness (λ p. get_or (codeword R C.points v) p 𝟘) in
        one.2 w (record { size = w-size; values-at = agree }) ∙ sym (one.2 v (record { size = v-size; values-at = λ p m. refl }))
