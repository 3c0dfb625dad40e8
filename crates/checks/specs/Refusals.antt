-- A refusal as the number of the check that failed, and a verdict as the answer of a call.
use Rattle.std.specs.Prelude.{ℕ, Result, Ok, Err}
use Rattle.checks.specs.declared.refusal.Refusal.{Refusal}
use Rattle.checks.specs.declared.refusal.Refusal.TheVariants.{Lines, Sizes, Numbers, Entries, Challenge, Positions, NewItem, Openings, Values, Roots, Claims, Points, LeadingOne}

abbrev pub number_of : Refusal → ℕ
number_of Lines = 1
number_of Sizes = 2
number_of Numbers = 3
number_of Entries = 4
number_of Challenge = 5
number_of Positions = 6
number_of NewItem = 7
number_of Openings = 8
number_of Values = 9
number_of Roots = 10
number_of Claims = 11
number_of Points = 12
number_of LeadingOne = 13

-- 0 where nothing is refused.
abbrev pub answer_of : Result Unit Refusal → ℕ
answer_of (Ok _) = 0
answer_of (Err refusal) = number_of refusal
