-- Numbers, roots, fields and lines of a sheet (paper 01, "The sheet and its claims listing"). A text is the list of its bytes.
use Rattle.std.specs.Prelude.{Bool, true, cond, not, ◌&&◌, ◌||◌, List, [], ◌∷◌, ℕ, ◌+◌, ◌-◌, ◌*◌, length, get_or, eqb, leb}

-- Whether every member of a list passes the test.
unfoldable pub all_pass : {A : Type 0} → (A → Bool) → List A → Bool
all_pass test [] = true
all_pass test (x ∷ xs) = test x && all_pass test xs

-- ---- numbers: decimal, 1 to 10 digits, no needless leading zero, at most 4294967295

-- The bytes of the digits 0 to 9.
abbrev pub is_digit : ℕ → Bool
is_digit d = leb 48 d && leb d 57

-- The number that the digits ds write after those of v.
unfoldable pub decimal_from : ℕ → List ℕ → ℕ
decimal_from v [] = v
decimal_from v (d ∷ ds) = decimal_from (10 * v + (d - 48)) ds

abbrev pub decimal : List ℕ → ℕ
decimal f = decimal_from 0 f

abbrev pub needless_zero : List ℕ → Bool
needless_zero f = leb 2 (length f) && eqb (get_or f 0 0) 48

abbrev pub is_number : List ℕ → Bool
is_number f = leb 1 (length f) && leb (length f) 10 && not (needless_zero f) && all_pass is_digit f && leb (decimal f) 4294967295

-- ---- a root: 64 lower-case hexadecimal digits

-- The bytes of the digits 0 to 9 and a to f.
abbrev pub is_hex_digit : ℕ → Bool
is_hex_digit d = is_digit d || (leb 97 d && leb d 102)

abbrev pub hex_value : ℕ → ℕ
hex_value d = cond (is_digit d) (d - 48) (d - 87)

abbrev pub is_root : List ℕ → Bool
is_root f = eqb (length f) 64 && all_pass is_hex_digit f

-- The bytes that pairs of digits write, the higher digit first.
unfoldable pub hex_bytes : List ℕ → List ℕ
hex_bytes [] = []
hex_bytes (h ∷ []) = []
hex_bytes (h ∷ l ∷ rest) = (16 * hex_value h + hex_value l) ∷ hex_bytes rest

-- ---- fields and lines

-- x before the first piece.
abbrev pub grow : ℕ → List (List ℕ) → List (List ℕ)
grow x [] = (x ∷ []) ∷ []
grow x (piece ∷ pieces) = (x ∷ piece) ∷ pieces

-- The pieces of a text that the byte b parts; a rest without bytes gives the pieces `last`.
unfoldable pub pieces : ℕ → List (List ℕ) → List ℕ → List (List ℕ)
pieces b last [] = last
pieces b last (x ∷ xs) = cond (eqb x b) ([] ∷ pieces b last xs) (grow x (pieces b last xs))

-- One tab parts fields.
abbrev pub fields : List ℕ → List (List ℕ)
fields = pieces 9 ([] ∷ [])

-- Lines end in byte 10, which the last line may lack.
abbrev pub lines : List ℕ → List (List ℕ)
lines = pieces 10 []
