-- The table of coefficients is within the limits of tables.
use Rattle.std.proofs.Common.{◌≡◌, ℕ, zero, suc, ◌+◌, ◌-◌, ◌*◌, ◌^◌, ◌<◌, ◌≤◌, length, map, get_or, refl, sym, subst, arith}
use Rattle.std.specs.List.{range_with_len}
use Rattle.std.proofs.lemmas.Nat.{mul-le}
use Rattle.std.proofs.lemmas.List.{length-map}
use Rattle.std.proofs.lemmas.List.Elements.{All-map}
use Rattle.std.proofs.lemmas.List.FromFn.{get_or-map-range_with_len, length-map-range_with_len}
use Rattle.pw_planes.specs.declared.kinds.AlphaKind.{AlphaKind}
use Rattle.pw_planes.specs.declared.kinds.AlphaKind.TheVariants.{Absent, Eight, Sixteen}
use Rattle.pw_planes.specs.declared.kinds.Interlace.{Interlace}
use Rattle.pr_geom.specs.declared.places.TheConstants.{MAX_SLICES}
use Rattle.pr_geom.specs.declared.layout.Layout.{Layout}
use Rattle.pr_geom.specs.Faults.{slice_count}
use Rattle.pr_geom.specs.Layout.{slices_of, columns_of, rows_of}
use Rattle.pr_geom.specs.Slices.{pictures_of}
use Rattle.pr_geom.proofs.SliceLemmas.{picture_some, pictures_whole}
use Rattle.pr_head.specs.Slice.{least_slice_header}
use Rattle.pr_quant.specs.declared.weights.Weights.{Weights}
use Rattle.pr_frame.specs.Forms.{scan_of, has_alpha}
use Rattle.pr_frame.specs.Written.{component_bytes}
use Rattle.pr_frame.proofs.Short.{with-short}
use Rattle.rate_build.specs.Coding.{coded_slice}
use Rattle.rate_table.specs.Table.{IsEntry, IndicesRise, IsSliceTable}
use Rattle.rate_build.specs.declared.slices.SliceCoefficients.{SliceCoefficients}
use Rattle.rate_build.specs.Tables.{entry_of, entries_of, fixed_bytes, HasParts, AreWeights}
use Rattle.rate_build.specs.Laws.{AreMatrices, TableIsTable}
use Rattle.pr_frame.proofs.Standing.{scan-is}
use Rattle.rate_build.proofs.Small.{part_short, part_error_within}
use Rattle.rate_build.proofs.Whole.{parts_of, frame_slices, pictures_few}

-- ---- a slice

rises : (mode : Interlace) (alpha : AlphaKind) (w : Weights) (s : SliceCoefficients) (lo n : ℕ) → IndicesRise (map (entry_of mode alpha w s) (range_with_len lo n))
rises mode alpha w s lo zero = tt
rises mode alpha w s lo (suc zero) = tt
rises mode alpha w s lo (suc (suc n)) = (omega arith, rises mode alpha w s (lo + 1) (suc n))

header_small : (alpha : AlphaKind) → least_slice_header (has_alpha alpha) ≤ 8
header_small Absent = omega arith
header_small Eight = omega arith
header_small Sixteen = omega arith

module _ (mode : Interlace) (alpha : AlphaKind) (w : Weights) (whole : AreMatrices w) (weights : AreWeights w) (s : SliceCoefficients) (parts : HasParts s) where
  entry_within : (index : ℕ) → 1 ≤ index → index ≤ 224 → IsEntry (entry_of mode alpha w s index)
  entry_within index least most = record {
    index_from = least;
    index_to = most;
    size =
        let y = part_short w.luma index whole.luma weights.luma least most (scan_of mode) (scan-is mode) s.y parts.y in
        let cb = part_short w.chroma index whole.chroma weights.chroma least most (scan_of mode) (scan-is mode) s.cb parts.cb in
        let cr = part_short w.chroma index whole.chroma weights.chroma least most (scan_of mode) (scan-is mode) s.cr parts.cr in
        let coded = coded_slice w index s in
        let n = least_slice_header (has_alpha alpha) + length (component_bytes mode coded.y) + length (component_bytes mode coded.cb) + length (component_bytes mode coded.cr) in
        let short = with-short alpha s.alpha n parts.values (omega (arith, header_small alpha, y, cb, cr)) in
        omega (arith, short);
    error = omega (
      arith,
      part_error_within w.luma index whole.luma weights.luma least most s.y parts.y,
      part_error_within w.chroma index whole.chroma weights.chroma least most s.cb parts.cb,
      part_error_within w.chroma index whole.chroma weights.chroma least most s.cr parts.cr,
    );
  }

  pub slice_within : (lo hi : ℕ) → 1 ≤ lo → lo ≤ hi → hi ≤ 224 → IsSliceTable (entries_of mode alpha w lo hi s)
  unfolding entries_of
  slice_within lo hi least order most =
      let n = hi + 1 - lo in
      let f = entry_of mode alpha w s in
      let number : length (map f (range_with_len lo n)) ≡ n = length-map-range_with_len f lo n in
      record {
        some = omega (arith, number);
        rises = rises mode alpha w s lo n;
        limits = λ k d l. let h : k < n = omega (arith, l, number) in
            subst IsEntry (sym (get_or-map-range_with_len f lo n k (lo + k) d h refl)) (entry_within (lo + k) (omega arith) (omega arith));
      }

-- ---- a frame

slices_some : (l : Layout) → 1 ≤ length (slices_of l)
slices_some l =
    let a = l.allowed in
    let rows = pictures_whole l.interlace l.height a.some_rows a.whole in
    picture_some (rows_of l) (columns_of l) l.log2 (omega arith) (omega (arith, a.some_columns))

slices_few : (l : Layout) → length (slices_of l) ≤ MAX_SLICES
unfolding slice_count
slices_few l = l.allowed.slices

pub fixed_small : (l : Layout) → fixed_bytes l < 2 ^ 31
fixed_small l =
    let few = slices_few l in
    omega (arith, mul-le (pictures_of l.interlace) (8 + 2 * length (slices_of l)) 2 131078 (pictures_few l.interlace).1 (omega arith))

pub table_within : TableIsTable
table_within c w lo hi budget are whole weights least order most some_budget budget_limit =
    let f = entries_of c.layout.interlace c.alpha w lo hi in
    let number = frame_slices c are (slices_some c.layout) (slices_few c.layout) in
    let parts = parts_of _ _ _ _ are in
    let n = length-map c.slices f in
    record {
      some_budget = some_budget;
      budget_limit = budget_limit;
      fixed_limit = fixed_small c.layout;
      some = omega (arith, n, number.0);
      few = omega (arith, n, number.1);
      each = All-map IsSliceTable f c.slices (λ k d l. slice_within c.layout.interlace c.alpha w whole weights (get_or c.slices k d) (parts k d l) lo hi least order most);
    }
