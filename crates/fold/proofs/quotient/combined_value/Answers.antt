-- `quotient::combined_value` meets its contract: three combinations, and the circuit's value at them.
use Rattle.fold.proofs.Scratch.{r-inside, x-inside, r-fits, entries-inside, value-is}
use Rattle.fold.proofs.quotient.combined_value.Goals as goal

pub combine-requires : goal.combine-requires
combine-requires c = r-inside c.args.list.now c.args.weights.now c.requires.1 c.as_slice-weights.ensures c.stride-stride.result c.stride-stride.ensures

pub combine-requires-2 : goal.combine-requires-2
combine-requires-2 c = x-inside c.args.list.now c.args.weights.now c.requires.1 c.as_slice-weights.ensures c.stride-stride.result c.stride-stride.ensures

pub value-requires : goal.value-requires
value-requires c =
    let s = c.args.list.now in
    record {
      r_len_bound = r-fits s c.args.weights.now c.requires.1 c.as_slice-weights.ensures c.stride-stride.result c.stride-stride.ensures c.combine-2.ensures c.combine.ensures c.combine-3.ensures;
      entries_inside = entries-inside s c.args.weights.now c.requires.1 c.as_slice-weights.ensures c.stride-stride.result c.stride-stride.ensures c.combine-2.ensures c.combine.ensures c.combine-3.ensures c.requires.0;
    }

pub returns : goal.returns
returns c = value-is c.args.list.now c.args.weights.now c.requires.1 c.as_slice-weights.ensures c.stride-stride.result c.stride-stride.ensures c.combine-2.ensures c.combine.ensures c.combine-3.ensures c.value.ensures
