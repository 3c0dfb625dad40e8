-- A test that passes, as the code gives it and as the definition says it.
use mathlib.Core.Path.{◌≡◌, refl, sym, ◌∙◌}
use mathlib.Core.Bool.{Bool, true, false, ◌&&◌, false≢true}

-- The test's result t is what the definition s says.
pub passes : (s : Bool) {t : Bool} → t ≡ s → t ≡ true → s ≡ true
passes s e h = sym e ∙ h

pub both : (a b : Bool) → a && b ≡ true → (a ≡ true) × (b ≡ true)
both true b e = (refl, e)
both false b e = absurd (false≢true e)
