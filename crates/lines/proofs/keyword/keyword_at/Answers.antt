-- `keyword::keyword_at` meets its contract: the bytes up to the field's end are the field.
use mathlib.Core.Path.{ap, ◌∙◌}
use native.Mathlib.Omega.{arith}
use Rattle.lines.specs.Lines.{keyword_of}
use Rattle.lines.proofs.FieldLaws.{field-inside, field-part}
use Rattle.lines.proofs.keyword.keyword_at.Goals as goal

pub slice_bounds-keyword_of-end : goal.slice_bounds-keyword_of-end
slice_bounds-keyword_of-end c = omega (arith, field-inside c.args.s.now c.args.at c.requires.0)

pub returns : goal.returns
returns c = c.keyword_of.ensures ∙ ap keyword_of (field-part c.args.s.now c.args.at c.args.end c.requires.1)
