-- `read::read` meets its contract: a refusal leaves the call's buffers, an acceptance fills them.
use mathlib.Core.Path.{refl}
use Rattle.std.specs.Prelude.{Ok, Err}
use Rattle.std.proofs.lemmas.Result.{err_from_is_err_and}
use Rattle.lines.specs.declared.keyword.Keyword.TheVariants.{EntryA, EntryB, EntryC, Item, Wit}
use Rattle.scan.proofs.Scanned.{scanned-filled}
use Rattle.sheet.proofs.SheetCall.{Called, calls, left, short, in-order, filled-all}
use Rattle.sheet.proofs.read.read.Goals as goal
use Rattle.sheet.proofs.read.read.Goals.{In_ok-reading}

pub returns-in_err-reading : goal.returns-in_err-reading
returns-in_err-reading c =
    let told = err_from_is_err_and c.from_residual.result c.from_residual.ensures.1 in
    let r = left (calls c.args.sheet.now c.args.a.now c.args.b.now c.args.c.now c.args.items.now c.args.wits.now (Err c.in_err-reading.field-0.0) c.buffers_fit-lengths.ensures c.in_err-reading.ensures) in
    rw (told.1, told.2) (record { result = r.0; a = r.1.0; b = r.1.1.0; c = r.1.1.1.0; items = r.1.1.1.1.0; wits = r.1.1.1.1.1 })

called : (c : In_ok-reading) → Called c.args.sheet.now c.args.a.now c.args.b.now c.args.c.now c.args.items.now c.args.wits.now (Ok c.in_ok-reading.reading)
called c = calls c.args.sheet.now c.args.a.now c.args.b.now c.args.c.now c.args.items.now c.args.wits.now (Ok c.in_ok-reading.reading) c.buffers_fit-lengths.ensures c.in_ok-reading.ensures

pub scan-requires : goal.scan-requires
scan-requires c = short (called (goal.at.scan-requires c).In_ok-reading)

pub returns : goal.returns
returns c =
    let h = called (goal.at.returns c).In_ok-reading in
    let o = in-order h in
    let r = filled-all h (scanned-filled _ o EntryA refl _ c.scan.ensures.a) (scanned-filled _ o EntryB refl _ c.scan.ensures.b) (scanned-filled _ o EntryC refl _ c.scan.ensures.c) (scanned-filled _ o Item refl _ c.scan.ensures.items) (scanned-filled _ o Wit refl _ c.scan.ensures.wits) in
    record { result = r.0; a = r.1.0; b = r.1.1.0; c = r.1.1.1.0; items = r.1.1.1.1.0; wits = r.1.1.1.1.1 }
