use Rattle.std.proofs.Common.{◌+◌, ap, ◌∙◌}
use Rattle.pr_head.specs.Slice.{least_slice_header}
use Rattle.pr_frame.specs.Forms.{scan_of, has_alpha}
use Rattle.pr_frame.specs.Written.{alpha_size}
use Rattle.rate_build.proofs.Joined.{joined_is, measures_told}
use Rattle.rate_build.proofs.tables.slice_table.Goals as goal

pub returns-clause-value : goal.returns-clause-value
returns-clause-value c =
    c.joined.ensures.value
    ∙ joined_is c.args.interlace c.args.alpha c.args.weights.now c.args.lo c.args.hi c.args.slice.now c.bytes_beside-beside.result c.part_measures-y.result c.part_measures-cb.result c.part_measures-cr.result
    (c.bytes_beside-beside.ensures.value ∙ ap (λ l. least_slice_header (has_alpha c.args.alpha) + alpha_size c.args.alpha l) c.as_slice-4.ensures)
    (measures_told (scan_of c.args.interlace) _ c.args.weights.now.luma c.args.slice.now.y _ c.args.lo c.args.hi c.part_measures-y.result c.scan_of-scan.ensures c.as_slice.ensures c.part_measures-y.ensures.value)
    (measures_told (scan_of c.args.interlace) _ c.args.weights.now.chroma c.args.slice.now.cb _ c.args.lo c.args.hi c.part_measures-cb.result c.scan_of-scan.ensures c.as_slice-2.ensures c.part_measures-cb.ensures.value)
    (measures_told (scan_of c.args.interlace) _ c.args.weights.now.chroma c.args.slice.now.cr _ c.args.lo c.args.hi c.part_measures-cr.result c.scan_of-scan.ensures c.as_slice-3.ensures c.part_measures-cr.ensures.value)
