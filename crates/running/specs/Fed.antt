-- A running hash: what its state says of the message fed in so far, and what feeding in more makes of it.
-- `new` gives the state after the empty message, and feeding s into a state after m gives one after m ++ s. So every state that is made by `new` and
-- by feeding is one after some message, and closing it gives that message's digest. The fields are public, and a caller can write a state that is after
-- no message. Of such a state feeding promises the length alone (`longer`), and closing it gives thirty-two bytes of which nothing is said.
use Rattle.std.specs.Prelude.{◌≡◌, List, ◌++◌, ℕ, ◌+◌, ◌*◌, ◌/◌, ◌%◌, length, take, drop}
use Rattle.hash.specs.Sha256.{H₀, hash}
use Rattle.running.specs.declared.Running.{Running}

-- The state r after the bytes of m: the hash value after m's whole blocks, the bytes of m behind these at the front of `rest`, and the length of m.
-- What `rest` holds behind them is left free: no method reads it before writing it.
pub record Fed (r : Running) (m : List ℕ) : Type 0 where
  pub blocks : r.value ≡ hash H₀ m (r.len / 64)
  pub since : take (r.len % 64) r.rest ≡ drop (64 * (r.len / 64)) m
  pub size : r.len ≡ length m

-- The bytes s are fed into a state: whatever was fed in before, s now follows it.
pub record Feeds (s : List ℕ) (before after : Running) : Type 0 where
  pub longer : after.len ≡ before.len + length s
  pub follows : (m : List ℕ) → Fed before m → Fed after (m ++ s)
