use Rattle.std.proofs.Common.{◌+◌, ◌<◌, length, drop, get_or, ap, sym, ◌∙◌, subst, arith}
use Rattle.pr_geom.specs.Slices.{no_slice}
use Rattle.pr_frame.specs.Forms.{places_in}
use Rattle.pr_frame.specs.Coded.{IsCodedSlice}
use Rattle.pr_frame.specs.Shown.{shown_part, all_shown}
use Rattle.pr_frame.specs.inner.Placing.{with_placed}
use Rattle.pr_frame.proofs.ShownParts.{layout_places, few_slices, coded_count, coded_at, shown_more, shown_end, part_written}
use Rattle.pr_frame.proofs.pictures.part_plane.Goals as goal

pub overflow_cast-number : goal.overflow_cast-number
overflow_cast-number c =
    let h = c.args.header.now in
    let x = c.args.picture.now in
    record { fits = omega (arith, c.loop-number-test.true, ap length c.as_slice-slices.ensures, coded_count h (places_in h x.log2) x.slices c.requires.slices, few_slices h x c.requires.layout) }

pub slice-place-requires : goal.slice-place-requires
slice-place-requires c =
    let h = c.args.header.now in
    let x = c.args.picture.now in
    omega (arith, c.loop-number-test.true, ap length c.as_slice-slices.ensures, coded_count h (places_in h x.log2) x.slices c.requires.slices, ap length (layout_places c.layout_of-layout.result h x.log2 c.layout_of-layout.ensures))

pub put_slice_part-requires-clause-slice : goal.put_slice_part-requires-clause-slice
put_slice_part-requires-clause-slice c =
    let h = c.args.header.now in
    let x = c.args.picture.now in
    let n = c.loop-number.number in
    let place = c.slice-place.ensures.value ∙ ap (λ l. get_or l n no_slice) (layout_places c.layout_of-layout.result h x.log2 c.layout_of-layout.ensures) in
    let slice = c.index-slices-number.is ∙ ap (λ l. get_or l n c.index-slices-number.result) c.as_slice-slices.ensures in
    let coded = coded_at h (places_in h x.log2) x.slices n no_slice c.index-slices-number.result c.requires.slices (omega (arith, c.loop-number-test.true, ap length c.as_slice-slices.ensures)) in
    subst (λ p. IsCodedSlice h p c.index-slices-number.result) (sym place) (subst (λ s. IsCodedSlice h (get_or (places_in h x.log2) n no_slice) s) (sym slice) coded)

pub loop-number-preserved : goal.loop-number-preserved
loop-number-preserved c =
    let h = c.args.header.now in
    let x = c.args.picture.now in
    let n = c.loop-number.number in
    let f = shown_part h c.args.depth c.args.part in
    let places = places_in h x.log2 in
    let none = c.index-slices-number.result in
    let place = c.slice-place.ensures.value ∙ ap (λ l. get_or l n no_slice) (layout_places c.layout_of-layout.result h x.log2 c.layout_of-layout.ensures) in
    let slice = c.index-slices-number.is ∙ ap (λ l. get_or l n none) c.as_slice-slices.ensures in
    let below : n < length x.slices = omega (arith, c.loop-number-test.true, ap length c.as_slice-slices.ensures) in
    let below_places : n < length places = omega (arith, below, coded_count h places x.slices c.requires.slices) in
    record {
      value = ap (λ p. with_placed p (all_shown f (drop (n + 1) places) (drop (n + 1) x.slices))) (c.put_slice_part.ensures ∙ (λ i. with_placed c.loop-number.plane (f (place i) (slice i))))
          ∙ sym (shown_more f places x.slices n no_slice none below_places below c.loop-number.plane) ∙ c.loop-number.invariant.value;
    }

pub returns : goal.returns
returns c =
    let h = c.args.header.now in
    let x = c.args.picture.now in
    let f = shown_part h c.args.depth c.args.part in
    sym (shown_end f (places_in h x.log2) x.slices c.loop-number.number (omega (arith, c.loop-number-test.false, ap length c.as_slice-slices.ensures)) c.loop-number.plane)
    ∙ c.loop-number.invariant.value ∙ part_written h c.args.depth c.args.part x c.requires
