-- `opened::opening_leads` meets its contract.
use native.Mathlib.Omega.{arith}
use Rattle.verifier.proofs.Places.{place-is, opening-within}
use Rattle.verifier.proofs.opened.opening_leads.Goals as goal

pub opening_root-hashed-requires : goal.opening_root-hashed-requires
opening_root-hashed-requires c =
    omega (arith, place-is c.args.fold.now c.args.q c.args.i c.opening_size.ensures.0, opening-within c.args.fold.now c.args.q c.args.i c.requires.0 (omega arith), c.depth.ensures.0)
