-- Every starred case of paper 01 comes out as the paper says. An inverse is not computed: it is known by its product.
use mathlib.Core.Path.{◌≡◌, refl, sym, ◌∙◌, ap}
use mathlib.Core.List.{map, Memᴰ}
use Rattle.algebra.specs.Polynomial.{pow}
use Rattle.algebra.proofs.ListLaws.{map-member}
use Rattle.algebra.proofs.FieldLaws.{inv_unique}
use Rattle.field.specs.BabyBear.{baby_bear, R, F, val, ofℕ, 𝟘, 𝟙, ◌⊖◌, ⊝◌, inv}
use Rattle.field.proofs.Laws.{val_inj}
use Rattle.code.specs.Points.{point, points}
use Rattle.code.specs.Codeword.{value_at, codeword}
use Rattle.code.proofs.Points.{point-zero, point-step}
use Rattle.code.proofs.Generator.{generator-number}
use Rattle.theory.specs.Combination.{Z, node, item_at, quotient_of}
use Rattle.theory.specs.Cases.{Case, cases}

-- ---- inverses

inv-below : inv (𝟘 ⊖ 𝟙) ≡ ⊝ 𝟙
inv-below = inv_unique baby_bear (𝟘 ⊖ 𝟙) (⊝ 𝟙) (val_inj _ _ (unfold baby_bear val in refl))

inv-above : inv (𝟙 ⊖ 𝟘) ≡ 𝟙
inv-above = inv_unique baby_bear (𝟙 ⊖ 𝟘) 𝟙 (val_inj _ _ (unfold baby_bear val in refl))

-- Z(2) is 2, and 1006632961 is half of p + 1.
inv-Z : inv (Z baby_bear 2 (node baby_bear 2)) ≡ ofℕ 1006632961
inv-Z = inv_unique baby_bear (Z baby_bear 2 (node baby_bear 2)) (ofℕ 1006632961) (val_inj _ _ (unfold baby_bear val ofℕ in refl))

-- ---- the point of position 4, of 8: the 128th of 256, which is -1

half-way : point 2 4 ≡ ofℕ 2013265920
unfolding point
half-way = sym (point-step 2 4 refl) ∙ ap (λ (g : F). pow R g 128) generator-number ∙ val_inj (pow R (ofℕ 1732600167) 128) (ofℕ 2013265920) (unfold pow baby_bear val ofℕ in refl)

-- ---- the table

computed-is-expected : map (λ c. c.computed) cases ≡ map (λ c. c.expected) cases
unfolding item_at quotient_of codeword value_at points val
computed-is-expected = rw (inv-Z, inv-below, inv-above, half-way, point-zero 2) (unfold baby_bear val ofℕ pow in refl)

pub cases-hold : (c : Case) → Memᴰ c cases → c.computed ≡ c.expected
cases-hold = map-member (λ c. c.computed) (λ c. c.expected) cases computed-is-expected
