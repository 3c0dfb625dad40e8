-- The five parts make the line.
use mathlib.Core.Path.{ap, ◌∙◌}
use mathlib.Core.List.{List, ◌++◌}
use Prim.Native.Nat.{ℕ}
use Rattle.listing.proofs.ListedLines.{claim-put}
use Rattle.listing.proofs.listing.put_claim.Goals as goal

pub returns-clause-line : goal.returns-clause-line
returns-clause-line c =
    claim-put c.args.text.now.bytes c.args.i c.args.value c.args.e c.put_field.ensures.field c.put_field-2.ensures.field c.put_field-3.ensures.field
    (c.push_str.ensures.bytes ∙ ap (λ (l : List ℕ). c.put_field-3.new.text.bytes ++ l) c.verdict_word.ensures.word) c.push_str-2.ensures.bytes
