-- Writing numbers, roots and lines in the form that a sheet has.
use Rattle.std.specs.Prelude.{cond, List, [], ◌∷◌, ◌++◌, ℕ, zero, suc, ◌+◌, ◌/◌, ◌%◌, ltb}

-- The last digits of a number, at most so many, without needless zeros.
unfoldable pub last_digits : ℕ → ℕ → List ℕ
last_digits zero x = []
last_digits (suc count) x = cond (ltb x 10) ((48 + x) ∷ []) (last_digits count (x / 10) ++ ((48 + x % 10) ∷ []))

-- A number up to 4294967295 in decimal.
abbrev pub write_number : ℕ → List ℕ
write_number x = last_digits 10 x

-- Bytes in hexadecimal, the higher digit first.
abbrev pub hex_digit : ℕ → ℕ
hex_digit v = cond (ltb v 10) (48 + v) (87 + v)

unfoldable pub write_hex : List ℕ → List ℕ
write_hex [] = []
write_hex (b ∷ bs) = hex_digit (b / 16) ∷ hex_digit (b % 16) ∷ write_hex bs

-- A line: the first field, a tab before each other field, and byte 10.
unfoldable pub write_fields : List (List ℕ) → List ℕ
write_fields [] = 10 ∷ []
write_fields (f ∷ fs) = 9 ∷ (f ++ write_fields fs)

abbrev pub write_line : List ℕ → List (List ℕ) → List ℕ
write_line f fs = f ++ write_fields fs
