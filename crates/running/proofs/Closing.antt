-- A running hash is closed: its last blocks are those of the padded message.
use mathlib.Core.Path.{◌≡◌, sym, ap, ◌∙◌}
use mathlib.Core.List.{List, ◌++◌}
use Prim.Native.Nat.{ℕ, ◌+◌, ◌-◌, ◌*◌, ◌/◌, ◌%◌}
use lib.ListN.{length, take, drop, replicate}
use Rattle.hash.specs.Sha256.{H₀, padding, hash, bytes, digest}
use Rattle.hash.proofs.Pad.{front_of, rest-is, last-is}
use Rattle.hash.proofs.Blocks.{all_blocks}
use Rattle.running.specs.declared.Running.{Running}
use Rattle.running.specs.Fed.{Fed}

-- the bytes of the last blocks of a message of n bytes
abbrev pub last-size : ℕ → ℕ
last-size n = 64 * ((n % 64 + 8) / 64 + 1)

-- b are the bytes since
pub closes : (r : Running) (m b last all d : List ℕ) → b ≡ take (r.len % 64) r.rest
    → last ≡ take (r.len % 64) (front_of b (r.len % 64)) ++ padding r.len ++ replicate (128 - r.len % 64 - length (padding r.len)) 0
    → all ≡ hash r.value (take (last-size r.len) last) (length (take (last-size r.len) last) / 64) → d ≡ bytes all 8 → Fed r m → d ≡ digest m
closes r m b last all d e-b e-last e-all e-d fed =
    let n = fed.size in
    all_blocks m r.value last (replicate (128 - r.len % 64 - length (padding r.len)) 0) all d (last-size r.len)
    (fed.blocks ∙ ap (λ (i : ℕ). hash H₀ m (i / 64)) n)
    (last-is m b (e-b ∙ fed.since ∙ ap (λ (i : ℕ). drop (64 * (i / 64)) m) n ∙ sym (rest-is m)) _ last
    (e-last ∙ ap (λ (i : ℕ). take (i % 64) (front_of b (i % 64)) ++ padding i ++ replicate (128 - r.len % 64 - length (padding r.len)) 0) n))
    (ap last-size n) e-all e-d
