-- The frames of a group's choice: their sizes, and that they stand for the coded frames.
use Rattle.std.proofs.Common.{◌≡◌, ℕ, ◌+◌, ◌*◌, ◌<◌, ◌≤◌, ◌^◌, List, [], ◌∷◌, arith, length, map, take, drop, ap, sym, subst, ◌∙◌}
use Rattle.std.specs.List.{flat_map, AllByRecursion, AllZip, sum_by}
use Rattle.std.proofs.lemmas.List.Sums.{sum_by-cons}
use Rattle.pr_frame.specs.Coded.{HasShape, IsWritable}
use Rattle.pr_frame.specs.Laws.{WrittenStands, WrittenHasLength}
use Rattle.pr_frame.specs.Stands.{FrameStands}
use Rattle.pr_frame.specs.Written.{coded_bytes, frame_length_of}
use Rattle.rate_table.specs.declared.entry.Entry.{Entry}
use Rattle.rate_table.specs.Table.{IsChoice, size_of, indices}
use Rattle.rate_build.specs.Coefficients.{FrameCoefficients}
use Rattle.rate_build.specs.Coding.{coded_frame}
use Rattle.rate_build.specs.Tables.{fixed_bytes}
use Rattle.rate_build.specs.Laws.{FrameHasTableSize}
use Rattle.run_encode.specs.declared.job.Job.{Job}
use Rattle.run_encode.specs.Groups.{header_in, frame_slices, slice_tables, coded_group, IsFrameOf}
use Rattle.run_encode.proofs.Shares.{part-of, frames-are, sizes-split}

-- facts of every frame of a choice
abbrev pub FrameIsReady : Job → FrameCoefficients → Type 0
FrameIsReady j c = (choice : List Entry) → IsChoice (slice_tables j c) choice
    → HasShape (coded_frame c (header_in j) (indices choice)) × IsWritable (coded_frame c (header_in j) (indices choice))

module _ (j : Job) where
  module _ (frame-size : FrameHasTableSize) (frame-length : WrittenHasLength) (frame-stands : WrittenStands) where
    -- the size of a frame
    pub one-size : (c : FrameCoefficients) (choice : List Entry) → IsFrameOf j c → FrameIsReady j c → IsChoice (slice_tables j c) choice
        → length (coded_bytes (coded_frame c (header_in j) (indices choice))) ≡ fixed_bytes j.layout + size_of choice
    one-size c choice is ready h =
        frame-length (coded_frame c (header_in j) (indices choice)) (ready choice h).0.header
        ∙ frame-size c (header_in j) j.lo j.hi 0 choice is.of is.header h
        ∙ ap (λ l. fixed_bytes l + size_of choice) is.layout

    pub all-sizes : (cs : List FrameCoefficients) (choice : List Entry) → AllByRecursion (IsFrameOf j) cs → AllByRecursion (FrameIsReady j) cs
        → IsChoice (flat_map (slice_tables j) cs) choice
        → sum_by length (map coded_bytes (coded_group j cs (indices choice))) ≡ length cs * fixed_bytes j.layout + size_of choice
    all-sizes [] [] is ready h = omega arith
    all-sizes [] (e ∷ choice) is ready h = absurd h
    all-sizes (c ∷ cs) choice is ready h =
        let n = frame_slices j in
        let p = part-of j c cs choice is.0 h in
        let one = one-size c (take n choice) is.0 ready.0 p.0 in
        let more = all-sizes cs (drop n choice) is.1 ready.1 p.1 in
        let first = coded_frame c (header_in j) (indices (take n choice)) in
        let others = coded_group j cs (indices (drop n choice)) in
        let cons = sum_by-cons (λ (l : List ℕ). length l) (coded_bytes first) (map coded_bytes others) in
        let times : length (c ∷ cs) * fixed_bytes j.layout ≡ fixed_bytes j.layout + length cs * fixed_bytes j.layout = omega arith in
        ap (λ fs. sum_by length (map coded_bytes fs)) (frames-are j c cs choice) ∙ omega (arith, one, more, cons, times, sizes-split j n choice)

    pub all-stand : (cs : List FrameCoefficients) (choice : List Entry) (room : ℕ) → room < 2 ^ 32 → AllByRecursion (IsFrameOf j) cs → AllByRecursion (FrameIsReady j) cs
        → IsChoice (flat_map (slice_tables j) cs) choice → length cs * fixed_bytes j.layout + size_of choice ≤ room
        → AllZip FrameStands (map coded_bytes (coded_group j cs (indices choice))) (coded_group j cs (indices choice))
    all-stand [] [] room small is ready h le = tt
    all-stand [] (e ∷ choice) room small is ready h le = absurd h
    all-stand (c ∷ cs) choice room small is ready h le =
        let n = frame_slices j in
        let p = part-of j c cs choice is.0 h in
        let first = coded_frame c (header_in j) (indices (take n choice)) in
        let others = coded_group j cs (indices (drop n choice)) in
        let r = ready.0 (take n choice) p.0 in
        let split = sizes-split j n choice in
        let times : length (c ∷ cs) * fixed_bytes j.layout ≡ fixed_bytes j.layout + length cs * fixed_bytes j.layout = omega arith in
        let len : frame_length_of first ≡ fixed_bytes j.layout + size_of (take n choice) =
        frame-size c (header_in j) j.lo j.hi 0 (take n choice) is.0.of is.0.header p.0 ∙ ap (λ l. fixed_bytes l + size_of (take n choice)) is.0.layout in
        let short : frame_length_of first < 2 ^ 32 = omega (arith, len, le, split, times, small) in
        let rest : length cs * fixed_bytes j.layout + size_of (drop n choice) ≤ room = omega (arith, le, split, times) in
        subst (λ fs. AllZip FrameStands (map coded_bytes fs) fs) (sym (frames-are j c cs choice))
        (frame-stands first r.0 (record { writable = r.1; short = short }), all-stand cs (drop n choice) room small is.1 ready.1 p.1 rest)
