use Rattle.std.proofs.Common.{◌≡◌, ◌+◌, ◌*◌, ◌-◌, sym, ap, subst, arith, Ok}
use Rattle.pw_outside.specs.Reading.{rest_of}
use Rattle.pr_head.specs.Picture.{table_at}
use Rattle.pr_frame.proofs.Steps.{value-at}
use Rattle.pr_frame.proofs.Rests.{table-rest}
use Rattle.pr_frame.proofs.read.slice_sizes.Goals as goal

pub returns-clause-bytes : goal.returns-clause-bytes
returns-clause-bytes g c = λ enough.
    let r = c.args.picture.now in
    let left = g.S.ByteSource.left c.args.source.now in
    let s = rest_of c.args.place.now left in
    let new = g.S.ByteSource.left c.read_slice_sizes.new.source in
    let sizes = c.in_ok-sizes.sizes.items in
    let whole = c.requires.header in
    let place : c.args.place.now - c.from.result + r.header ≡ c.args.place.now = omega (arith, c.from.ensures) in
    record {
      told = (c.in_ok-sizes.ensures.bytes enough).told;
      answer = λ h.
          let a = (c.in_ok-sizes.ensures.bytes enough).answer h in
          let e : table_at r c.args.slices s ≡ Ok (sizes, rest_of a.0 new) = subst (λ at. table_at r c.args.slices (rest_of at left) ≡ Ok (sizes, rest_of a.0 new)) place a.1 in
          value-at (table_at r c.args.slices s) sizes a.0 (2 * c.args.slices) _ new s e (table-rest r c.args.slices s sizes (rest_of a.0 new) e).1 (ap (λ n. c.args.place.now + 2 * n) (sym c.from-2.ensures));
    }
