use Rattle.std.proofs.Common.{arith}
use Rattle.pr_geom.specs.Layout.{columns_of, rows_of}
use Rattle.pr_geom.proofs.SliceLemmas.{slice_inside}
use Rattle.pr_geom.proofs.BlockLemmas.{luma_count, narrow_count, wide_count}
use Rattle.pr_geom.proofs.layout.Layout.blocks.Goals as goal

pub overflow_mul-result : goal.overflow_mul-result
overflow_mul-result c =
    let l = c.args.self.now in
    omega (arith, (slice_inside (rows_of l) (columns_of l) l.log2 c.args.slice.now l.allowed.size c.requires).1)

pub overflow_mul-result-in-C422-default : goal.overflow_mul-result-in-C422-default
overflow_mul-result-in-C422-default c =
    let l = c.args.self.now in
    omega (arith, (slice_inside (rows_of l) (columns_of l) l.log2 c.args.slice.now l.allowed.size c.requires).1)

pub overflow_mul-result-in-C444-default : goal.overflow_mul-result-in-C444-default
overflow_mul-result-in-C444-default c =
    let l = c.args.self.now in
    omega (arith, (slice_inside (rows_of l) (columns_of l) l.log2 c.args.slice.now l.allowed.size c.requires).1)

pub returns-in_default-Y-clause-value : goal.returns-in_default-Y-clause-value
returns-in_default-Y-clause-value c = luma_count c.args.self.now.chroma c.args.part c.args.slice.now c.in_default-Y.is-1

pub returns-in-C422-default-clause-value : goal.returns-in-C422-default-clause-value
returns-in-C422-default-clause-value c = narrow_count c.args.self.now.chroma c.args.part c.args.slice.now c.in-C422-default.is-0 c.in-C422-default.not-Y-1

pub returns-in-C444-default-clause-value : goal.returns-in-C444-default-clause-value
returns-in-C444-default-clause-value c = wide_count c.args.self.now.chroma c.args.part c.args.slice.now c.in-C444-default.is-0

pub returns-in_default-Y-clause-some : goal.returns-in_default-Y-clause-some
returns-in_default-Y-clause-some c =
    let l = c.args.self.now in
    omega (arith, (slice_inside (rows_of l) (columns_of l) l.log2 c.args.slice.now l.allowed.size c.requires).0)

pub returns-in_default-Y-clause-limit : goal.returns-in_default-Y-clause-limit
returns-in_default-Y-clause-limit c =
    let l = c.args.self.now in
    omega (arith, (slice_inside (rows_of l) (columns_of l) l.log2 c.args.slice.now l.allowed.size c.requires).1)

pub returns-in-C422-default-clause-some : goal.returns-in-C422-default-clause-some
returns-in-C422-default-clause-some c =
    let l = c.args.self.now in
    omega (arith, (slice_inside (rows_of l) (columns_of l) l.log2 c.args.slice.now l.allowed.size c.requires).0)

pub returns-in-C422-default-clause-limit : goal.returns-in-C422-default-clause-limit
returns-in-C422-default-clause-limit c =
    let l = c.args.self.now in
    omega (arith, (slice_inside (rows_of l) (columns_of l) l.log2 c.args.slice.now l.allowed.size c.requires).1)

pub returns-in-C444-default-clause-some : goal.returns-in-C444-default-clause-some
returns-in-C444-default-clause-some c =
    let l = c.args.self.now in
    omega (arith, (slice_inside (rows_of l) (columns_of l) l.log2 c.args.slice.now l.allowed.size c.requires).0)

pub returns-in-C444-default-clause-limit : goal.returns-in-C444-default-clause-limit
returns-in-C444-default-clause-limit c =
    let l = c.args.self.now in
    omega (arith, (slice_inside (rows_of l) (columns_of l) l.log2 c.args.slice.now l.allowed.size c.requires).1)
