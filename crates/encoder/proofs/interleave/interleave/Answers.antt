-- `interleave` meets its contract: a refusal writes nothing.
use mathlib.Core.Path.{refl, sym, ◌∙◌}
use native.Mathlib.Omega.{arith}
use Rattle.std.proofs.Common.{rules}
use Rattle.theory.specs.Calls.{interleave as interleave_of}
use Rattle.checks.proofs.Calls.{fails, passes, check-failed, check-passed, refused, accepts}
use Rattle.encoder.proofs.OpeningLaws.{size_small}
use Rattle.encoder.proofs.Accepted.{interleave-fits}
use Rattle.encoder.proofs.Ordering.{taken-in-order, in_rows, in_parts}
use Rattle.encoder.proofs.interleave.interleave.Goals as goal

pub returns-in_err-ensure : goal.returns-in_err-ensure
unfolding interleave_of
returns-in_err-ensure c =
    let answer = fails 2 0 c.fits.ensures (check-failed _ _ _ c.in_err-ensure.ensures).0 in
    record { answer = search rules; openings = refused _ _ answer (omega arith) }

pub in_order-requires : goal.in_order-requires
in_order-requires c =
    let a = c.args in
    let h = interleave-fits a.k a.l a.t a.opened.now a.openings.now (sym c.fits.ensures ∙ check-passed _ _ _ c.in_ok-ensure.ensures) in (
      omega (arith, in_parts a.k a.t a.l _ c.opening_size-size.ensures _ h.opened-length),
      omega (arith, in_rows a.k a.t a.l _ c.opening_size-size.ensures _ h.openings-length),
      omega arith,
      omega (arith, h.few),
      rw c.opening_size-size.ensures (size_small a.k h.count),
    )

pub returns : goal.returns
unfolding interleave_of
returns c =
    let a = c.args in
    let passed = passes 2 c.fits.ensures (check-passed _ _ _ c.in_ok-ensure.ensures) refl in
    record { answer = passed; openings = accepts _ passed (c.in_order.ensures ∙ taken-in-order a.k a.t a.l _ c.opening_size-size.ensures a.opened.now) }
