-- What the harness answers: 0, or 1 where it refuses its input; a refusal writes nothing.
use Rattle.std.specs.Prelude.{ℕ, ◌^◌, Bool, true, false, ◌&&◌, leb, ltb}

-- 0 where the input is permitted, and 1 where it is not
abbrev pub permitted_answer : Bool → ℕ
permitted_answer true = 0
permitted_answer false = 1

-- SHA-256 takes messages below 2 ^ 61 bytes
abbrev pub digest_answer : ℕ → ℕ
digest_answer bytes = permitted_answer (ltb bytes (2 ^ 61))

-- a leaf takes a value of at most sixteen bytes
abbrev pub leaf_answer : ℕ → ℕ
leaf_answer bytes = permitted_answer (leb bytes 16)

-- and a running hash takes them in pieces of at least one byte
abbrev pub running_answer : ℕ → ℕ → ℕ
running_answer step bytes = permitted_answer (ltb bytes (2 ^ 61) && ltb 0 step)
