use Rattle.std.proofs.Common.{◌≡◌, ◌+◌, ◌*◌, ◌<◌, length, drop, map, get_or, ap, sym, ◌∙◌, arith}
use Rattle.pr_geom.specs.Slices.{no_slice}
use Rattle.pr_frame.specs.Forms.{places_in}
use Rattle.pr_frame.specs.declared.coded.CodedSlice.{CodedSlice}
use Rattle.pr_geom.specs.declared.places.SlicePlace.{SlicePlace}
use Rattle.pr_geom.specs.declared.places.Part.TheVariants.{Y}
use Rattle.pr_geom.specs.Blocks.{blocks_of}
use Rattle.pr_frame.specs.Shown.{placed, value_block, shown_values, all_shown}
use Rattle.pr_frame.specs.inner.Placing.{with_placed}
use Rattle.pr_frame.proofs.ShownParts.{layout_places, few_slices, coded_count, coded_at, shown_more, shown_end, values_written, some_alpha}
use Rattle.pr_frame.proofs.pictures.alpha_plane.Goals as goal

pub overflow_cast-number : goal.overflow_cast-number
overflow_cast-number c =
    let h = c.args.header.now in
    let x = c.args.picture.now in
    record { fits = omega (arith, c.loop-number-test.true, ap length c.as_slice-slices.ensures, coded_count h (places_in h x.log2) x.slices c.requires.picture.slices, few_slices h x c.requires.picture.layout) }

pub slice-place-requires : goal.slice-place-requires
slice-place-requires c =
    let h = c.args.header.now in
    let x = c.args.picture.now in
    omega (arith, c.loop-number-test.true, ap length c.as_slice-slices.ensures, coded_count h (places_in h x.log2) x.slices c.requires.picture.slices, ap length (layout_places c.layout_of-layout.result h x.log2 c.layout_of-layout.ensures))

pub put_values-requires-clause-count : goal.put_values-requires-clause-count
put_values-requires-clause-count c =
    let h = c.args.header.now in
    let x = c.args.picture.now in
    let n = c.loop-number.number in
    let place = c.slice-place.ensures.value ∙ ap (λ l. get_or l n no_slice) (layout_places c.layout_of-layout.result h x.log2 c.layout_of-layout.ensures) in
    let slice = ap (λ l. get_or l n c.index-slices-number.result) c.as_slice-slices.ensures in
    let coded = coded_at h (places_in h x.log2) x.slices n no_slice c.index-slices-number.result c.requires.picture.slices (omega (arith, c.loop-number-test.true, ap length c.as_slice-slices.ensures)) in
    ap length c.as_slice.ensures ∙ ap (λ (s : CodedSlice). length s.alpha) slice ∙ coded.alpha ∙ some_alpha h.alpha (get_or (places_in h x.log2) n no_slice) c.requires.alpha
    ∙ ap (λ (p : SlicePlace). 256 * p.width) (sym place)

pub loop-number-preserved : goal.loop-number-preserved
unfolding shown_values
loop-number-preserved c =
    let h = c.args.header.now in
    let x = c.args.picture.now in
    let n = c.loop-number.number in
    let f = shown_values h in
    let places = places_in h x.log2 in
    let none = c.index-slices-number.result in
    let place = c.slice-place.ensures.value ∙ ap (λ l. get_or l n no_slice) (layout_places c.layout_of-layout.result h x.log2 c.layout_of-layout.ensures) in
    let slice = ap (λ l. get_or l n none) c.as_slice-slices.ensures in
    let corners : blocks_of c.layout_of-layout.result.chroma Y c.slice-place.result ≡ blocks_of h.chroma Y c.slice-place.result = ap (λ t. blocks_of t Y c.slice-place.result) c.layout_of-layout.ensures.chroma in
    let put = c.put_values.ensures
    ∙ (λ i. with_placed c.loop-number.plane (placed (corners i) (map (value_block c.slice-place.result (c.as_slice.ensures i)) (corners i)))) in
    let below : n < length x.slices = omega (arith, c.loop-number-test.true, ap length c.as_slice-slices.ensures) in
    let below_places : n < length places = omega (arith, below, coded_count h places x.slices c.requires.picture.slices) in
    record {
      value = ap (λ p. with_placed p (all_shown f (drop (n + 1) places) (drop (n + 1) x.slices))) (put ∙ (λ i. with_placed c.loop-number.plane (f (place i) (slice i))))
          ∙ sym (shown_more f places x.slices n no_slice none below_places below c.loop-number.plane) ∙ c.loop-number.invariant.value;
    }

pub returns : goal.returns
returns c =
    let h = c.args.header.now in
    let x = c.args.picture.now in
    let f = shown_values h in
    sym (shown_end f (places_in h x.log2) x.slices c.loop-number.number (omega (arith, c.loop-number-test.false, ap length c.as_slice-slices.ensures)) c.loop-number.plane)
    ∙ c.loop-number.invariant.value ∙ values_written h x c.requires.picture
