use Rattle.std.proofs.Common.{◌≡◌, ◌+◌, ap, ◌∙◌, arith}
use Rattle.pr_head.specs.inner.Steps.{table_in}
use Rattle.pw_outside.specs.Reading.{rest_of}
use Rattle.pr_head.specs.Faults.{told_fault}
use Rattle.pw_outside.proofs.Steps.{agrees-same}
use Rattle.pr_head.proofs.Whole.{table-same}
use Rattle.pr_head.proofs.picture.read_slice_sizes.Goals as goal

pub returns-clause-bytes : goal.returns-clause-bytes
returns-clause-bytes g c = λ enough.
    let place : c.from.result + c.from-2.result ≡ c.args.at + c.args.picture.now.header = omega arith in
    record {
      told = c.table_of.ensures.bytes.told;
      answer = λ h. (c.table_of.new.place, agrees-same told_fault _ _ _ (ap (λ at. table_in c.args.picture.now c.args.slices (rest_of at (g.S.ByteSource.left c.args.source.now))) place ∙ table-same c.args.picture.now c.args.slices (rest_of (c.args.at + c.args.picture.now.header) (g.S.ByteSource.left c.args.source.now)) (enough h)) (c.table_of.ensures.bytes.answer h));
    }
