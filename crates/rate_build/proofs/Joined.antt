-- The entries of a slice, joined from the measures of its parts.
use Rattle.std.proofs.Common.{◌≡◌, ℕ, ◌+◌, ◌-◌, ◌<◌, List, [], ◌∷◌, ◌++◌, length, map, take, get_or, ℤ, refl, sym, ap, ◌∙◌, arith}
use Rattle.std.specs.List.{range_with_len}
use Rattle.std.proofs.lemmas.List.{ext_get_or, get_or-take}
use Rattle.std.proofs.lemmas.List.FromFn.{map-range_with_len_more, get_or-map-range_with_len, length-map-range_with_len}
use Rattle.pw_planes.specs.declared.kinds.AlphaKind.{AlphaKind}
use Rattle.pw_planes.specs.declared.kinds.Interlace.{Interlace}
use Rattle.pr_quant.specs.declared.weights.Weights.{Weights}
use Rattle.pr_head.specs.Slice.{least_slice_header}
use Rattle.pr_frame.specs.Forms.{scan_of, has_alpha}
use Rattle.pr_frame.specs.Written.{component_bytes, alpha_size}
use Rattle.pr_frame.proofs.Short.{with-size}
use Rattle.rate_table.specs.declared.entry.Entry.{Entry}
use Rattle.rate_build.specs.declared.costs.Measure.{Measure}
use Rattle.rate_build.specs.declared.slices.SliceCoefficients.{SliceCoefficients}
use Rattle.rate_build.specs.Measures.{measured, all_measured, no_measure}
use Rattle.rate_build.specs.Coding.{coded_slice}
use Rattle.rate_build.specs.Tables.{slice_size, entry_of, entries_of, joined_entry}

pub joined_more : (beside : ℕ) (y cb cr : List Measure) (lo i k : ℕ) (entries : List Entry) (e : Entry) → k ≡ i → e.index ≡ lo + i
    → e.size ≡ beside + (get_or y k no_measure).bytes + (get_or cb k no_measure).bytes + (get_or cr k no_measure).bytes
    → e.error ≡ (get_or y k no_measure).error + (get_or cb k no_measure).error + (get_or cr k no_measure).error
    → entries ≡ map (joined_entry beside y cb cr lo) (range_with_len 0 i) → entries ++ e ∷ [] ≡ map (joined_entry beside y cb cr lo) (range_with_len 0 (i + 1))
joined_more beside y cb cr lo i k entries e same index size error so_far =
    let s = size ∙ ap (λ n. beside + (get_or y n no_measure).bytes + (get_or cb n no_measure).bytes + (get_or cr n no_measure).bytes) same in
    let r = error ∙ ap (λ n. (get_or y n no_measure).error + (get_or cb n no_measure).error + (get_or cr n no_measure).error) same in
    let entry : e ≡ joined_entry beside y cb cr lo i = λ j. record { index = index j; size = s j; error = r j } in
    let one : entries ++ e ∷ [] ≡ map (joined_entry beside y cb cr lo) (range_with_len 0 i) ++ joined_entry beside y cb cr lo i ∷ [] = λ j. so_far j ++ entry j ∷ [] in
    one ∙ sym (map-range_with_len_more (joined_entry beside y cb cr lo) 0 i i (omega arith))

-- the measure at index k is the one of quantisation index lo + k
measure_is : (scan weights : List ℕ) (blocks : List (List ℤ)) (lo hi : ℕ) (measures : List Measure) (k : ℕ) → take (hi + 1 - lo) measures ≡ all_measured scan weights blocks lo hi → k < hi + 1 - lo
    → get_or measures k no_measure ≡ measured scan weights blocks (lo + k)
measure_is scan weights blocks lo hi measures k is h =
    sym (get_or-take (hi + 1 - lo) measures k no_measure h) ∙ ap (λ ms. get_or ms k no_measure) is
    ∙ get_or-map-range_with_len (measured scan weights blocks) lo (hi + 1 - lo) k (lo + k) no_measure h refl

pub joined_is : (mode : Interlace) (alpha : AlphaKind) (w : Weights) (lo hi : ℕ) (s : SliceCoefficients) (beside : ℕ) (y cb cr : List Measure)
    → beside ≡ least_slice_header (has_alpha alpha) + alpha_size alpha s.alpha
    → take (hi + 1 - lo) y ≡ all_measured (scan_of mode) w.luma s.y lo hi → take (hi + 1 - lo) cb ≡ all_measured (scan_of mode) w.chroma s.cb lo hi
    → take (hi + 1 - lo) cr ≡ all_measured (scan_of mode) w.chroma s.cr lo hi → map (joined_entry beside y cb cr lo) (range_with_len 0 (hi + 1 - lo)) ≡ entries_of mode alpha w lo hi s
unfolding entries_of
joined_is mode alpha w lo hi s beside y cb cr beside_is y_is cb_is cr_is =
    let n = hi + 1 - lo in
    let none : Entry = record { index = 0; size = 0; error = 0 } in
    ext_get_or none (map (joined_entry beside y cb cr lo) (range_with_len 0 n)) (map (entry_of mode alpha w s) (range_with_len lo n))
    (length-map-range_with_len (joined_entry beside y cb cr lo) 0 n ∙ sym (length-map-range_with_len (entry_of mode alpha w s) lo n))
    (λ k l.
    let h : k < n = omega (arith, l, length-map-range_with_len (joined_entry beside y cb cr lo) 0 n) in
    let a = measure_is (scan_of mode) w.luma s.y lo hi y k y_is h in
    let b = measure_is (scan_of mode) w.chroma s.cb lo hi cb k cb_is h in
    let d = measure_is (scan_of mode) w.chroma s.cr lo hi cr k cr_is h in
    let coded = coded_slice w (lo + k) s in
    let own = least_slice_header (has_alpha alpha) + length (component_bytes mode coded.y) + length (component_bytes mode coded.cb) + length (component_bytes mode coded.cr) in
    let size : beside + (get_or y k no_measure).bytes + (get_or cb k no_measure).bytes + (get_or cr k no_measure).bytes ≡ slice_size mode alpha w s (lo + k) =
    omega (arith, beside_is, with-size alpha s.alpha own, ap (λ (m : Measure). m.bytes) a, ap (λ (m : Measure). m.bytes) b, ap (λ (m : Measure). m.bytes) d) in
    let e : joined_entry beside y cb cr lo k ≡ entry_of mode alpha w s (lo + k) =
    λ j. record { index = lo + k; size = size j; error = (a j).error + (b j).error + (d j).error } in
    get_or-map-range_with_len (joined_entry beside y cb cr lo) 0 n k k none h (omega arith) ∙ e ∙ sym (get_or-map-range_with_len (entry_of mode alpha w s) lo n k (lo + k) none h refl))

pub measures_told : (scan other weights : List ℕ) (blocks seen : List (List ℤ)) (lo hi : ℕ) (measures : List Measure) → other ≡ scan → seen ≡ blocks
    → take (hi + 1 - lo) measures ≡ all_measured other weights seen lo hi → take (hi + 1 - lo) measures ≡ all_measured scan weights blocks lo hi
measures_told scan other weights blocks seen lo hi measures e f h = h ∙ (λ j. all_measured (e j) weights (f j) lo hi)
