-- The byte string whose digest names a circuit. A circuit is three lists A, B and C of entries, each in a buffer of twelve bytes an entry.
-- Numbers have four bytes, lowest first.
use Rattle.std.specs.Prelude.{◌≡◌, List, [], ◌∷◌, ◌++◌, ℕ, ◌/◌, ◌%◌, ◌^◌, ◌<◌, length}
use Rattle.numbers.specs.Numbers.{bytes4}

-- a list: the count of its entries, and the entries as they lie
abbrev pub list_string : List ℕ → List ℕ
list_string b = bytes4 (length b / 12) ++ b

-- the byte 0x06, m, n and k
abbrev pub sizes_string : ℕ → ℕ → ℕ → List ℕ
sizes_string m n k = (0x06 ∷ []) ++ bytes4 m ++ bytes4 n ++ bytes4 k

-- and the lists A, B and C
unfoldable pub circuit_string : ℕ → ℕ → ℕ → List ℕ → List ℕ → List ℕ → List ℕ
circuit_string m n k a b c = sizes_string m n k ++ list_string a ++ list_string b ++ list_string c

-- ---- the string tells circuits apart

-- a buffer of whole entries, of as many as four bytes can count
pub record Whole (b : List ℕ) : Type 0 where
  pub whole : length b % 12 ≡ 0
  pub counted : length b / 12 < 2 ^ 32

-- sizes that four bytes hold, and lists of whole entries
pub record Nameable (m n k : ℕ) (a b c : List ℕ) : Type 0 where
  pub m-fits : m < 2 ^ 32
  pub n-fits : n < 2 ^ 32
  pub k-fits : k < 2 ^ 32
  pub a-whole : Whole a
  pub b-whole : Whole b
  pub c-whole : Whole c

pub record SameCircuit (m n k m' n' k' : ℕ) (a b c a' b' c' : List ℕ) : Type 0 where
  pub m-same : m ≡ m'
  pub n-same : n ≡ n'
  pub k-same : k ≡ k'
  pub a-same : a ≡ a'
  pub b-same : b ≡ b'
  pub c-same : c ≡ c'

-- equal strings are those of one circuit
abbrev pub CircuitsApart : Type 0
CircuitsApart =
    (m n k m' n' k' : ℕ) (a b c a' b' c' : List ℕ) → Nameable m n k a b c → Nameable m' n' k' a' b' c'
    → circuit_string m n k a b c ≡ circuit_string m' n' k' a' b' c' → SameCircuit m n k m' n' k' a b c a' b' c'
