use Rattle.std.proofs.Common.{◌≡◌, ◌+◌, Ok, subst, sym, ap}
use Rattle.pw_outside.specs.Reading.{rest_of}
use Rattle.pr_head.specs.Slice.{slice_at}
use Rattle.pr_frame.specs.Forms.{has_alpha}
use Rattle.pr_frame.proofs.Steps.{value-at}
use Rattle.pr_frame.proofs.Rests.{head-found}
use Rattle.pr_frame.proofs.slices.slice_header.Goals as goal

pub returns-clause-bytes : goal.returns-clause-bytes
returns-clause-bytes g c = λ enough.
    let r = c.in_ok-header.header in
    record {
      told = (c.in_ok-header.ensures.bytes enough).told;
      answer = λ h.
          let s = rest_of c.args.place.now (g.S.ByteSource.left c.args.source.now) in
          let new = g.S.ByteSource.left c.read_slice_header.new.source in
          let a = (c.in_ok-header.ensures.bytes enough).answer h in
          let read : slice_at c.args.size (has_alpha c.args.alpha) s ≡ Ok (r, rest_of a.0 new) = subst (λ alpha. slice_at c.args.size alpha s ≡ Ok (r, rest_of a.0 new)) c.has_alpha.ensures a.1 in
          value-at (slice_at c.args.size (has_alpha c.args.alpha) s) r a.0 r.header _ new s read (head-found (has_alpha c.args.alpha) c.args.size s (rest_of a.0 new) r read).rest (ap (λ n. c.args.place.now + n) (sym c.from.ensures));
    }
