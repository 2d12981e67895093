use Rattle.std.proofs.Common.{◌≡◌, ℕ, ◌+◌, ◌/◌, ◌%◌, ◌<◌, ◌≤◌, ◌^◌, ◌∙◌, length, get_or, ap, arith, subst, sym, zero-add}
use Rattle.std.proofs.Math.Pow.{pow_mono}
use Rattle.std.proofs.lemmas.List.{get_or_default}
use Rattle.pr_geom.specs.declared.places.SlicePlace.{SlicePlace}
use Rattle.pr_geom.specs.Slices.{row_widths, no_slice}
use Rattle.pr_geom.specs.inner.Spots.{spot}
use Rattle.pr_geom.specs.Layout.{columns_of, rows_of, slices_of}
use Rattle.pr_geom.proofs.SliceLemmas.{some_slices, in_row, row_below, slice_is, slice_bounds, spot_width, height_small}
use Rattle.pr_geom.proofs.layout.Layout.slice.Goals as goal
use Rattle.pr_geom.proofs.layout.Layout.slice.Goals.{After-slices_in_row-count, After-spot_in_row-column}

count_is : (c : After-slices_in_row-count) → c.slices_in_row-count.result ≡ length (row_widths (columns_of c.args.self.now) c.args.self.now.log2)
count_is c = c.slices_in_row-count.ensures ∙ (λ i. length (row_widths (c.macroblocks_for-columns.ensures i) (c.from-log2.ensures i)))

count_is' : (c : After-spot_in_row-column) → c.slices_in_row-count.result ≡ length (row_widths (columns_of c.args.self.now) c.args.self.now.log2)
count_is' c = c.slices_in_row-count.ensures ∙ (λ i. length (row_widths (c.macroblocks_for-columns.ensures i) (c.from-log2.ensures i)))

spot_is : (c : After-spot_in_row-column) → c.spot_in_row-column.result ≡ spot (columns_of c.args.self.now) c.args.self.now.log2 (c.args.number % c.slices_in_row-count.result)
spot_is c = c.spot_in_row-column.ensures.value ∙ (λ i. spot (c.macroblocks_for-columns.ensures i) (c.from-log2.ensures i) (c.args.number % c.slices_in_row-count.result))

value : (c : After-spot_in_row-column) → (let s : SlicePlace = record { column = c.spot_in_row-column.result.0; row = c.args.number / c.slices_in_row-count.result; width = c.spot_in_row-column.result.1 } in s) ≡ get_or (slices_of c.args.self.now) c.args.number no_slice
value c =
    let l = c.args.self.now in
    let count = c.slices_in_row-count.result in
    (λ j. record { column = (spot_is c j).0; row = c.args.number / count; width = (spot_is c j).1 })
    ∙ ap (λ n. record { column = n; row = c.args.number / count; width = (spot (columns_of l) l.log2 (c.args.number % count)).1 }) (sym (zero-add _))
    ∙ slice_is (rows_of l) (columns_of l) l.log2 c.args.number count (count_is' c) c.requires

pub nonzero_rem-number : goal.nonzero_rem-number
nonzero_rem-number c =
    let l = c.args.self.now in
    some_slices (rows_of l) (columns_of l) l.log2 c.args.number c.slices_in_row-count.result (count_is c) c.requires

pub spot_in_row-column-requires-clause-number : goal.spot_in_row-column-requires-clause-number
spot_in_row-column-requires-clause-number c =
    let l = c.args.self.now in
    omega (arith, in_row (rows_of l) (columns_of l) l.log2 c.args.number c.slices_in_row-count.result (count_is c) c.requires, count_is c, c.slices_in_row-count.ensures)

pub nonzero_div-result : goal.nonzero_div-result
nonzero_div-result c =
    let l = c.args.self.now in
    some_slices (rows_of l) (columns_of l) l.log2 c.args.number c.slices_in_row-count.result (count_is' c) c.requires

pub overflow_cast-result-2 : goal.overflow_cast-result-2
overflow_cast-result-2 c =
    let l = c.args.self.now in
    omega (arith, row_below (rows_of l) (columns_of l) l.log2 c.args.number c.slices_in_row-count.result (count_is' c) c.requires, height_small l.interlace l.height, l.allowed.rows)

pub overflow_cast-result-3 : goal.overflow_cast-result-3
overflow_cast-result-3 c =
    let l = c.args.self.now in
    let i = c.args.number % c.slices_in_row-count.result in
    omega (arith, ap (λ (p : ℕ × ℕ). p.1) (spot_is c), spot_width (columns_of l) l.log2 i, pow_mono {i = l.log2} {j = 3} l.allowed.size)

pub returns-clause-value : goal.returns-clause-value
returns-clause-value c = value c

pub returns-clause-slice : goal.returns-clause-slice
returns-clause-slice c =
    (c.args.number, c.requires, get_or_default (slices_of c.args.self.now) c.args.number _ no_slice c.requires ∙ sym (value c))

pub returns-clause-inside : goal.returns-clause-inside
returns-clause-inside c =
    let l = c.args.self.now in
    let bounds = subst (λ (s : SlicePlace). (0 < s.width) × (s.width ≤ 2 ^ l.log2) × (s.column + s.width ≤ columns_of l) × (s.row < rows_of l)) (sym (value c))
    (slice_bounds (rows_of l) (columns_of l) l.log2 c.args.number c.requires) in
    record {
      some = bounds.0;
      size = omega (arith, bounds.1, pow_mono {i = l.log2} {j = 3} l.allowed.size);
      columns = bounds.2;
      row = bounds.3;
    }
