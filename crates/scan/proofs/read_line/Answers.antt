-- `scan::read_line` meets its contract. A keyword that may not follow, or that no tab ends, stops the scan; behind a tab the line is read by its keyword.
use mathlib.Core.Path.{refl, sym, ap, ◌∙◌}
use mathlib.Core.Logic.{inl, inr}
use Prim.Native.Nat.{ℕ}
use native.Mathlib.Omega.{arith}
use Rattle.lines.specs.declared.keyword.Keyword.TheVariants.{Size, EntryA, EntryB, EntryC, Item, Wit, End}
use Rattle.scan.specs.Sheet.{follows}
use Rattle.lines.proofs.FieldEnds.{end_before, is-tab, end-fields, newline-fields}
use Rattle.scan.proofs.ScanLaws.{follows-none}
use Rattle.scan.proofs.LineStates.{is-a, is_b, is_c, entry_read}
use Rattle.scan.proofs.LineReading.{AtTab, with-keyword, behind-tab, word-refused, alone-refused, line_read}
use Rattle.scan.proofs.read_line.Goals as goal
use Rattle.scan.proofs.read_line.Goals.{Else-s-end-eq10, in-EntryA, in-EntryB, in-EntryC}

-- Behind the tests a tab ends a keyword that may follow.
at-tab : (c : Else-s-end-eq10) → AtTab c.args.s.now c.args.st c.field_end-end.result c.in-Some.word
at-tab c =
    record {
      inside = c.requires.0;
      bounded = c.requires.2;
      is-end = c.field_end-end.ensures;
      word = sym c.in-Some.is ∙ c.keyword_at.ensures;
      may = sym c.follows.ensures ∙ c.if-not-follows.false;
      tab = is-tab c.args.s.now c.args.st.at c.field_end-end.result (omega arith) c.field_end-end.ensures c.if-end-s.false c.if-s-end-eq10.false;
    }

pub returns-in_default : goal.returns-in_default
returns-in_default c =
    word-refused c.args.s.now c.args.st _ c.stopped.ensures (ap (follows c.args.st.last) (sym c.keyword_at.ensures ∙ c.in_default.is) ∙ follows-none c.args.st.last) _ _ _ _ _ (refl, refl, refl, refl, refl)

pub returns-then-not-follows : goal.returns-then-not-follows
returns-then-not-follows c =
    word-refused c.args.s.now c.args.st _ c.stopped-then-not-follows.ensures (ap (follows c.args.st.last) (sym c.keyword_at.ensures ∙ c.in-Some.is) ∙ sym c.follows.ensures ∙ c.if-not-follows.true) _ _ _ _ _ (refl, refl, refl, refl, refl)

pub returns-then-end-s : goal.returns-then-end-s
returns-then-end-s c =
    alone-refused c.args.s.now c.args.st _ c.stopped-then-end-s.ensures (end-fields c.args.s.now c.args.st.at c.field_end-end.result (omega arith) c.field_end-end.ensures c.if-end-s.true) _ _ _ _ _ (refl, refl, refl, refl, refl)

pub bounds-s-end : goal.bounds-s-end
bounds-s-end c = end_before c.args.s.now c.args.st.at c.field_end-end.result (omega arith) c.field_end-end.ensures c.if-end-s.false

pub returns-then-s-end-eq10 : goal.returns-then-s-end-eq10
returns-then-s-end-eq10 c =
    alone-refused c.args.s.now c.args.st _ c.stopped-then-s-end-eq10.ensures (newline-fields c.args.s.now c.args.st.at c.field_end-end.result (omega (arith, c.requires)) c.field_end-end.ensures c.if-s-end-eq10.true) _ _ _ _ _ (refl, refl, refl, refl, refl)

pub overflow_add-at : goal.overflow_add-at
overflow_add-at c = omega (arith, behind-tab _ _ _ _ (at-tab (goal.at.overflow_add-at c).Else-s-end-eq10))

pub size-requires : goal.size-requires
size-requires c = omega (arith, behind-tab _ _ _ _ (at-tab (goal.at.size-requires c).Else-s-end-eq10))

pub entry-row-requires : goal.entry-row-requires
entry-row-requires c =
    let t = at-tab (goal.at.entry-row-requires c).Else-s-end-eq10 in
    omega (arith, t.bounded, behind-tab _ _ _ _ t)

pub entry-row-requires-in-EntryB : goal.entry-row-requires-in-EntryB
entry-row-requires-in-EntryB c =
    let t = at-tab (goal.at.entry-row-requires-in-EntryB c).Else-s-end-eq10 in
    omega (arith, t.bounded, behind-tab _ _ _ _ t)

pub entry-row-requires-in-EntryC : goal.entry-row-requires-in-EntryC
entry-row-requires-in-EntryC c =
    let t = at-tab (goal.at.entry-row-requires-in-EntryC c).Else-s-end-eq10 in
    omega (arith, t.bounded, behind-tab _ _ _ _ t)

pub item-requires : goal.item-requires
item-requires c = omega (arith, behind-tab _ _ _ _ (at-tab (goal.at.item-requires c).Else-s-end-eq10))

pub witness-requires : goal.witness-requires
witness-requires c = omega (arith, behind-tab _ _ _ _ (at-tab (goal.at.witness-requires c).Else-s-end-eq10))

pub end-requires : goal.end-requires
end-requires c = omega (arith, behind-tab _ _ _ _ (at-tab (goal.at.end-requires c).Else-s-end-eq10))

pub returns-in-Size : goal.returns-in-Size
returns-in-Size c =
    line_read _ _ _ _ Size (with-keyword _ _ _ _ _ c.in-Size.is (at-tab (goal.at.returns-in-Size c).Else-s-end-eq10)) c.size.ensures _ _ _ _ _ _ _ _ _ _ (inl (refl, refl)) (inl (refl, refl)) (inl (refl, refl)) (inl (refl, refl)) (inl (refl, refl)) (refl, refl, refl, refl, refl)

pub returns-in-Item : goal.returns-in-Item
returns-in-Item c =
    line_read _ _ _ _ Item (with-keyword _ _ _ _ _ c.in-Item.is (at-tab (goal.at.returns-in-Item c).Else-s-end-eq10)) c.item.ensures.state _ _ _ _ _ _ _ _ _ _ (inl (refl, refl)) (inl (refl, refl)) (inl (refl, refl)) (inr (refl, c.item.ensures.items)) (inl (refl, refl)) (refl, refl, refl, refl, refl)

pub returns-in-Wit : goal.returns-in-Wit
returns-in-Wit c =
    line_read _ _ _ _ Wit (with-keyword _ _ _ _ _ c.in-Wit.is (at-tab (goal.at.returns-in-Wit c).Else-s-end-eq10)) c.witness.ensures.state _ _ _ _ _ _ _ _ _ _ (inl (refl, refl)) (inl (refl, refl)) (inl (refl, refl)) (inl (refl, refl)) (inr (refl, c.witness.ensures.wits)) (refl, refl, refl, refl, refl)

pub returns-in-End : goal.returns-in-End
returns-in-End c =
    line_read _ _ _ _ End (with-keyword _ _ _ _ _ c.in-End.is (at-tab (goal.at.returns-in-End c).Else-s-end-eq10)) c.end.ensures _ _ _ _ _ _ _ _ _ _ (inl (refl, refl)) (inl (refl, refl)) (inl (refl, refl)) (inl (refl, refl)) (inl (refl, refl)) (refl, refl, refl, refl, refl)

pub returns : goal.returns
returns c =
    let tab = at-tab (goal.at.returns c).Else-s-end-eq10 in
    elim c.match-word.branch [
      | in-EntryA w ↦
          line_read _ _ _ _ EntryA (with-keyword _ _ _ _ _ w.in-EntryA.is tab)
          (entry_read EntryA c.args.st _ (is-a c.args.st) c.args.s.now _ c.args.st.entries.a _ (w.row-is ∙ w.entry-row.ensures.row) w.in-EntryA.is (w.entries-is ∙ ap (λ (x : ℕ). record { a = x; b = c.args.st.entries.b; c = c.args.st.entries.c }) w.entry-row.ensures.count) c.behind_entry.ensures) _ _ _ _ _ _ _ _ _ _ (inr (refl, ap (λ x. x.a.now) w.buffers-is ∙ w.entry-row.ensures.list)) (inl (refl, ap (λ x. x.b.now) w.buffers-is)) (inl (refl, ap (λ x. x.c.now) w.buffers-is)) (inl (refl, ap (λ x. x.items.now) w.buffers-is)) (inl (refl, ap (λ x. x.wits.now) w.buffers-is))
          (ap (λ x. x.a.ghost_name) w.buffers-is, ap (λ x. x.b.ghost_name) w.buffers-is, ap (λ x. x.c.ghost_name) w.buffers-is, ap (λ x. x.items.ghost_name) w.buffers-is, ap (λ x. x.wits.ghost_name) w.buffers-is)
      | in-EntryB w ↦
          line_read _ _ _ _ EntryB (with-keyword _ _ _ _ _ w.in-EntryB.is tab)
          (entry_read EntryB c.args.st _ (is_b c.args.st) c.args.s.now _ c.args.st.entries.b _ (w.row-is ∙ w.entry-row-in-EntryB.ensures.row) w.in-EntryB.is (w.entries-is ∙ ap (λ (x : ℕ). record { a = c.args.st.entries.a; b = x; c = c.args.st.entries.c }) w.entry-row-in-EntryB.ensures.count) c.behind_entry.ensures) _ _ _ _ _ _ _ _ _ _ (inl (refl, ap (λ x. x.a.now) w.buffers-is)) (inr (refl, ap (λ x. x.b.now) w.buffers-is ∙ w.entry-row-in-EntryB.ensures.list)) (inl (refl, ap (λ x. x.c.now) w.buffers-is)) (inl (refl, ap (λ x. x.items.now) w.buffers-is)) (inl (refl, ap (λ x. x.wits.now) w.buffers-is))
          (ap (λ x. x.a.ghost_name) w.buffers-is, ap (λ x. x.b.ghost_name) w.buffers-is, ap (λ x. x.c.ghost_name) w.buffers-is, ap (λ x. x.items.ghost_name) w.buffers-is, ap (λ x. x.wits.ghost_name) w.buffers-is)
      | in-EntryC w ↦
          line_read _ _ _ _ EntryC (with-keyword _ _ _ _ _ w.in-EntryC.is tab)
          (entry_read EntryC c.args.st _ (is_c c.args.st) c.args.s.now _ c.args.st.entries.c _ (w.row-is ∙ w.entry-row-in-EntryC.ensures.row) w.in-EntryC.is (w.entries-is ∙ ap (λ (x : ℕ). record { a = c.args.st.entries.a; b = c.args.st.entries.b; c = x }) w.entry-row-in-EntryC.ensures.count) c.behind_entry.ensures) _ _ _ _ _ _ _ _ _ _ (inl (refl, ap (λ x. x.a.now) w.buffers-is)) (inl (refl, ap (λ x. x.b.now) w.buffers-is)) (inr (refl, ap (λ x. x.c.now) w.buffers-is ∙ w.entry-row-in-EntryC.ensures.list)) (inl (refl, ap (λ x. x.items.now) w.buffers-is)) (inl (refl, ap (λ x. x.wits.now) w.buffers-is))
          (ap (λ x. x.a.ghost_name) w.buffers-is, ap (λ x. x.b.ghost_name) w.buffers-is, ap (λ x. x.c.ghost_name) w.buffers-is, ap (λ x. x.items.ghost_name) w.buffers-is, ap (λ x. x.wits.ghost_name) w.buffers-is)
    ]
