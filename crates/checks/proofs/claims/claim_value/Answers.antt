-- `claims::claim_value` meets its contract: r is loaded into one array, and x with w behind it into another.
use mathlib.Core.Path.{ap₂, ◌∙◌}
use mathlib.Core.List.{◌++◌}
use Prim.Native.Nat.{◌+◌}
use lib.ListN.{replicate, take, drop}
use Rattle.checks.proofs.ClaimLaws.{value-asked, value_read}
use Rattle.checks.proofs.Filled.{refilled-is}
use Rattle.checks.proofs.WitnessLaws.{loaded-length}
use Rattle.checks.proofs.claims.claim_value.Goals as goal

pub value-requires : goal.value-requires
value-requires c =
    let M = c.args.circuit.now in
    let h = c.requires.m_bound in
    let p = value-asked c.args.m c.args.n c.args.k M.a.now M.b.now M.c.now c.args.r.now c.args.x.now c.args.w.now h.0 h.3 h.4 h.5
    c.load.ensures
    (refilled-is {a = c.args.n} c.load-2.new.out (drop c.args.n (take (c.args.n + c.args.k) (replicate 128 0))) c.load-3.new.out (loaded-length c.args.n c.args.x.now h.4 c.load-2.ensures) ∙ ap₂ ◌++◌ c.load-2.ensures c.load-3.ensures)
    c.requires.r_value.0
    c.requires.r_value.1 in
    record { r_len_bound = p.0; entries_inside = p.1 }

pub returns : goal.returns
returns c =
    let M = c.args.circuit.now in
    let h = c.requires.m_bound in
    c.value.ensures
    ∙ value_read c.args.m c.args.n c.args.k M.a.now M.b.now M.c.now c.args.r.now c.args.x.now c.args.w.now h.0 h.3 h.4 h.5
    c.load.ensures
    (refilled-is {a = c.args.n} c.load-2.new.out (drop c.args.n (take (c.args.n + c.args.k) (replicate 128 0))) c.load-3.new.out (loaded-length c.args.n c.args.x.now h.4 c.load-2.ensures) ∙ ap₂ ◌++◌ c.load-2.ensures c.load-3.ensures)
