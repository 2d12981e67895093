-- The sums of a frame's part of a choice, and the length of the frame.
use Rattle.std.proofs.Common.{◌≡◌, refl, ℕ, ◌+◌, ◌≤◌, List, arith, length, ap, sym, subst, ◌∙◌}
use Rattle.std.specs.List.{All}
use Rattle.pr_frame.specs.Laws.{WrittenHasLength}
use Rattle.pr_frame.specs.Written.{coded_bytes}
use Rattle.rate_table.specs.declared.entry.Entry.{Entry}
use Rattle.rate_table.specs.Laws.{IndicesTellChoice}
use Rattle.rate_table.specs.Table.{Table, IsTable, IsSliceTable, IsChoice, HasSums, indices, size_of, error_of}
use Rattle.rate_build.specs.Coefficients.{FrameCoefficients}
use Rattle.rate_build.specs.Coding.{coded_frame}
use Rattle.rate_build.specs.Laws.{FrameHasTableSize}
use Rattle.rate_build.specs.Tables.{fixed_bytes}
use Rattle.run_encode.specs.declared.job.Job.{Job}
use Rattle.run_encode.specs.Groups.{IsJob, IsFrameOf, header_in, slice_tables}
use Rattle.run_encode.specs.inner.Over.{IsFrameChoice}

-- a choice with these indices has these sums
pub sums-one : IndicesTellChoice → (slices : List (List Entry)) → 1 ≤ length slices → length slices ≤ 131070 → All IsSliceTable slices → (chosen : List ℕ) (size error : ℕ) → HasSums slices chosen size error
    → (entries : List Entry) → IsChoice slices entries → indices entries ≡ chosen → (size ≡ size_of entries) × (error ≡ error_of entries)
sums-one tell slices some few each chosen size error (choice, is, has, s, e) entries is' has' =
    let t : Table = record { budget = 1; fixed = 0; slices = slices } in
    let table : IsTable t = record { some_budget = omega arith; budget_limit = omega arith; fixed_limit = omega arith; some = some; few = few; each = each } in
    let same : choice ≡ entries = tell t choice entries table is is' (has ∙ sym has') in
    (s ∙ ap size_of same, e ∙ ap error_of same)

-- a coded frame has the fixed bytes and the sizes of its part
pub sized : WrittenHasLength → FrameHasTableSize → (j : Job) (c : FrameCoefficients) (slices : List (List Entry)) (choice : List ℕ) → IsJob j → IsFrameOf j c → slices ≡ slice_tables j c
    → (h : IsFrameChoice j slices choice) → length (coded_bytes (coded_frame c (header_in j) choice)) ≡ fixed_bytes j.layout + size_of h.entries
sized long size j c slices choice job is e h =
    ap (λ x. length (coded_bytes (coded_frame c (header_in j) x))) (sym h.has_indices)
    ∙ long (coded_frame c (header_in j) (indices h.entries)) (record { encoder = refl; luma = job.matrices.luma; chroma_weights = job.matrices.chroma })
    ∙ size c (header_in j) j.lo j.hi 0 h.entries is.of is.header (subst (λ s. IsChoice s h.entries) e h.is_choice)
    ∙ ap (λ l. fixed_bytes l + size_of h.entries) is.layout
