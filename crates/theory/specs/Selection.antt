-- The members of a list that pass a test, and the different members of a list.
use Rattle.std.specs.Prelude.{Bool, true, false, not, ◌&&◌, List, [], ◌∷◌, ℕ, eqb}
use Rattle.numbers.specs.Equality.{among}

-- The list with a before it where the test holds, and else the list alone.
abbrev pub keep_if : {A : Type 0} → Bool → A → List A → List A
keep_if true a l = a ∷ l
keep_if false a l = l

-- The members that pass the test, in order.
abbrev pub select : {A : Type 0} → (A → Bool) → List A → List A
select f [] = []
select f (a ∷ l) = keep_if (f a) a (select f l)

-- By a test of equality: the different members of a list, each once.
module _ {A : Type 0} (same : A → A → Bool) where
  abbrev pub once : List A → List A
  once [] = []
  once (a ∷ l) = keep_if (not (among same a (once l))) a (once l)

-- Whether each of the numbers ps is in the list.
abbrev pub all_among : List ℕ → List ℕ → Bool
all_among [] l = true
all_among (a ∷ ps) l = among eqb a l && all_among ps l
