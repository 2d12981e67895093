use Rattle.std.specs.List.{All}
use Rattle.std.proofs.Math.Nat.{mod-lt}
use Rattle.std.proofs.Common.{refl, ◌≡◌, ◌+◌, ◌/◌, ◌<◌, [], drop, length, ◌∙◌, append_assoc}
use Rattle.std.proofs.lemmas.List.{get_or_read}
use Rattle.rate_table.specs.Table.{IsSliceTable}
use Rattle.rate_table.specs.Choices.{width}
use Rattle.rate_table.proofs.Numbered.{width-div, number-below, choice_at-more, width-pos, rest_of_slices}
use Rattle.rate_table.proofs.small.choice_of.Goals as goal

pub bounds-entries-rest : goal.bounds-entries-rest
bounds-entries-rest c =
    let i = c.loop-slice.slice-index in
    let item = get_or_read c.args.slices.now i c.slice-item.result c.loop-slice-test.true c.slice-item.is [] in
    let below : c.loop-slice.rest < width (drop i c.args.slices.now) = rw (← c.loop-slice.invariant.width) c.loop-slice.invariant.rest in
    rw (c.entries-entries.ensures.entries, c.loop-slice.invariant.width, width-div c.args.slices.now i c.slice-item.result c.loop-slice-test.true item c.entries-entries.ensures.slice.some)
    (number-below c.args.slices.now i c.loop-slice.rest c.slice-item.result c.loop-slice-test.true item c.loop-slice.invariant.each below)

pub loop-slice-preserved : goal.loop-slice-preserved
loop-slice-preserved c =
    let i = c.loop-slice.slice-index in
    let slices = c.args.slices.now in
    let item = get_or_read slices i c.slice-item.result c.loop-slice-test.true c.slice-item.is [] in
    let below : c.loop-slice.rest < width (drop i slices) = rw (← c.loop-slice.invariant.width) c.loop-slice.invariant.rest in
    let later : All IsSliceTable (drop (i + 1) slices) = rest_of_slices slices i c.loop-slice-test.true c.loop-slice.invariant.each in
    let quotient : c.loop-slice.width / length c.entries-entries.result.now ≡ width (drop (i + 1) slices) =
    rw (c.entries-entries.ensures.entries, c.loop-slice.invariant.width) (width-div slices i c.slice-item.result c.loop-slice-test.true item c.entries-entries.ensures.slice.some) in
    let one = choice_at-more slices i c.loop-slice.rest c.slice-item.result (record { index = 0; size = 0; error = 0 }) c.loop-slice-test.true item c.loop-slice.invariant.each below in
    rw (quotient, c.in_ok-push.ensures.items) (record {
      width = refl;
      rest = mod-lt c.loop-slice.rest (width-pos (drop (i + 1) slices) later);
      each = later;
      choice = rw (quotient, c.entries-entries.ensures.entries) (append_assoc c.loop-slice.choice.items _ _ ∙ rw (← one) c.loop-slice.invariant.choice);
    })
