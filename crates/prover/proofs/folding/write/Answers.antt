-- `folding::write` meets its contract.
use mathlib.Core.Path.{ap, ◌∙◌}
use Prim.Native.Nat.{ℕ}
use Rattle.field.specs.BabyBear.{ofℕ}
use Rattle.theory.specs.Fp.{element_bytes, item_bytes, list_quotient, new_witness, new_item}
use Rattle.numbers.specs.Numbers.{bytes}
use Rattle.prover.proofs.Written.{witness-fits, quotient-below, new-item-written}
use Rattle.prover.proofs.folding.write.Goals as goal

pub write_item-requires : goal.write_item-requires
write_item-requires c =
    let s = c.args.list.now in
    let wit = witness-fits s (ofℕ c.new-weights.result.at) c.write_witness.ensures in
    record {
      coefficients = (c.new-weights.ensures.0, quotient-below (list_quotient s.sizes.m s.sizes.n s.sizes.k s.l s.circuit.a.now s.circuit.b.now s.circuit.c.now s.items.now s.wits.now) c.quotient.ensures, c.requires.outputs.1);
      wit = (wit.0, wit.1, c.requires.fits.2);
    }

pub returns : goal.returns
returns c =
    let s = c.args.list.now in
    let q = list_quotient s.sizes.m s.sizes.n s.sizes.k s.l s.circuit.a.now s.circuit.b.now s.circuit.c.now s.items.now s.wits.now in
    record {
      q_after = c.store.ensures ∙ ap bytes c.quotient.ensures;
      item_after =
          new-item-written s (ofℕ c.new-weights.result.at) c.args.points.now q c.quotient.ensures c.write_witness.ensures c.write_item.ensures
          ∙ ap (λ (at : ℕ). item_bytes (new_item s.sizes.m s.sizes.n s.sizes.k s.l (ofℕ at) c.args.points.now s.items.now s.wits.now q)) c.new-weights.ensures.1;
      wit_after = c.write_witness.ensures ∙ ap (λ (at : ℕ). element_bytes (new_witness s.sizes.k s.l (ofℕ at) s.wits.now)) c.new-weights.ensures.1;
    }
