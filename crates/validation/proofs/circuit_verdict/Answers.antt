-- `circuit_verdict` meets its contract: the entries are read into the buffers, and their fronts are tested as a list without items.
use mathlib.Core.Path.{refl, ◌∙◌}
use Rattle.lines.specs.declared.keyword.Keyword.TheVariants.{EntryA, EntryB, EntryC}
use Rattle.scan.proofs.Scanned.{entries-filled}
use Rattle.validation.proofs.AfterScan.{circuit-same}
use Rattle.validation.proofs.SheetCheckLaws.{rules-ordered, scratch-entries}
use Rattle.validation.proofs.circuit_verdict.Goals as goal

pub returns : goal.returns
returns c =
    let o = rules-ordered c.args.sheet.now c.requires.in-order in
    c.verdict.ensures
    ∙ circuit-same c.requires scratch-entries (entries-filled _ o EntryA refl refl _ c.scan_entries.ensures.a) (entries-filled _ o EntryB refl refl _ c.scan_entries.ensures.b) (entries-filled _ o EntryC refl refl _ c.scan_entries.ensures.c)
