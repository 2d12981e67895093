use Rattle.std.proofs.Common.{◌+◌, ◌*◌, ◌++◌, ap, sym, subst, ◌∙◌, take}
use Rattle.std.specs.List.{All}
use Rattle.std.proofs.lemmas.List.Elements.{All-take, All-drop}
use Rattle.rate_table.specs.Table.{Table, IsSliceTable, IsChoice}
use Rattle.run_encode.specs.Encoding.{frame_line}
use Rattle.run_encode.proofs.Lining.{AreFirstLines, no-lines, all-lines, line-more, enough-slices, enough-choice, part-here, behind-next, from-first}
use Rattle.run_encode.proofs.lines.lines_for.Goals as goal

pub frames-init : goal.frames-init
frames-init c = record {
  slices = c.as_slice-slices.ensures.slices ∙ ap (λ (x : Table). x.slices) c.table.view_is ∙ from-first _ _;
  choice = from-first _ _;
  lines = subst (AreFirstLines c.args.job.now c.args.number c.slices_in-count.result 0 c.args.frames.now c.args.table.now.slices c.args.choice.now) (sym c.new-lines.ensures.items)
      (no-lines c.args.job.now c.args.number _ c.args.frames.now _ _);
}

pub split_at-requires : goal.split_at-requires
split_at-requires c = enough-slices _ _ c.args.table.now _ _ c.requires.frames c.requires.table c.slices_in-count.ensures.value c.frames-test.true _ c.frames.invariant.slices

pub split_at-requires-in-frames : goal.split_at-requires-in-frames
split_at-requires-in-frames c =
    let h = c.requires.choice in
    enough-choice _ _ c.args.table.now _ _ c.requires.frames c.requires.table c.slices_in-count.ensures.value c.frames-test.true _ _ h.entries h.is_choice h.has_indices c.frames.invariant.choice

pub part_sums-sums-requires-clause-each : goal.part_sums-sums-requires-clause-each
part_sums-sums-requires-clause-each c =
    let n = c.slices_in-count.result in
    subst (All IsSliceTable) (sym (c.split_at.ensures.front ∙ ap (take n) c.frames.invariant.slices))
    (All-take IsSliceTable n _ (All-drop IsSliceTable (n * c.frames.k) _ (subst (λ (x : Table). All IsSliceTable x.slices) c.table.view_is c.table.invariant.each)))

pub part_sums-sums-requires-clause-choice : goal.part_sums-sums-requires-clause-choice
part_sums-sums-requires-clause-choice c =
    let n = c.slices_in-count.result in
    let h = c.requires.choice in
    let p = part-here _ _ c.args.table.now n c.frames.k c.requires.frames c.requires.table c.slices_in-count.ensures.value c.frames-test.true _ h.entries h.is_choice h.has_indices in (
      p.0,
      subst (λ s. IsChoice s p.0) (sym (c.split_at.ensures.front ∙ ap (take n) c.frames.invariant.slices)) p.1,
      p.2 ∙ sym (c.split_at-in-frames.ensures.front ∙ ap (take n) c.frames.invariant.choice),
    )

pub frames-preserved : goal.frames-preserved
frames-preserved c =
    let n = c.slices_in-count.result in
    let here = c.split_at.ensures.front ∙ ap (take n) c.frames.invariant.slices in
    let chosen = c.split_at-in-frames.ensures.front ∙ ap (take n) c.frames.invariant.choice in
    record {
      slices = behind-next n c.frames.k _ _ _ c.frames.invariant.slices c.split_at.ensures.back;
      choice = behind-next n c.frames.k _ _ _ c.frames.invariant.choice c.split_at-in-frames.ensures.back;
      lines = line-more c.args.job.now c.args.number n c.args.frames.now c.frames.k c.args.table.now.slices c.args.choice.now _ _ c.part_sums-sums.result.0 c.part_sums-sums.result.1 c.frames-test.true c.frames.invariant.lines
          (λ entries is has. c.part_sums-sums.ensures.size entries (subst (λ s. IsChoice s entries) (sym here) is) (has ∙ sym chosen))
          (λ entries is has. c.part_sums-sums.ensures.error entries (subst (λ s. IsChoice s entries) (sym here) is) (has ∙ sym chosen))
          (c.in_ok-put_line.ensures ∙ ap (λ f. c.frames.lines.items ++ frame_line (c.args.number + c.frames.k) (f + c.part_sums-sums.result.0) c.part_sums-sums.result.1) (c.from-fixed.ensures ∙ c.fixed_size.ensures.value));
    }

pub returns : goal.returns
returns c = record { lines = all-lines c.args.job.now c.args.number _ c.args.frames.now c.frames.k _ _ _ _ c.slices_in-count.ensures.value c.frames-test.false c.frames.invariant.lines }
