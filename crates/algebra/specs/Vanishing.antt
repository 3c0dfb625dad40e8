-- The polynomial that vanishes at given points.
-- Assumes nothing.
use Rattle.std.specs.Prelude.{List}
use Rattle.algebra.specs.Ring.{CommRing}
use Rattle.algebra.specs.Sums.{prod}

module _ (R : CommRing) where
  open R use {carrier as K, add as ◌⊕◌, neg as ⊝◌}

  infixl 60 ◌⊕◌
  infixl 80 ⊝◌
  -- The product of x - a over the points a.
  abbrev pub vanishing : List K → K → K
  vanishing ps x = prod R (λ a. x ⊕ ⊝ a) ps
