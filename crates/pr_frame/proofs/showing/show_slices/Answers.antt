use Rattle.std.proofs.Common.{◌<◌, ◌≤◌, refl, ◌∙◌, subst, arith, length, get_or}
use Rattle.std.proofs.lemmas.Result.{err_from_is_err_and}
use Rattle.std.proofs.lemmas.List.{take_all}
use Rattle.pw_outside.specs.Reading.{rest_of}
use Rattle.pr_geom.specs.Layout.{slices_of}
use Rattle.pr_head.proofs.Bounds.{lowers_same, lowers_then}
use Rattle.pr_frame.specs.Coded.{AreCodedSlices}
use Rattle.pr_frame.proofs.Rests.{coded-rest}
use Rattle.pr_frame.proofs.SliceLoop.{sum-drop, slices-end, slices-all, ahead-length}
use Rattle.pr_frame.proofs.ShowSteps.{has_alpha_put, put_none, put_more}
use Rattle.pr_frame.proofs.showing.show_slices.Goals as goal

pub loop-number-init : goal.loop-number-init
loop-number-init g c = record {
  place = omega arith;
  told = λ e h. h;
  more = λ e h. e h;
  put = put_none c.args.header.now c.args.depth (slices_of c.args.layout.now) c.args.sizes.now c.in_ok-output.output _ (rest_of c.args.place.now (g.S.ByteSource.left c.args.source.now)) c.in_ok-output.ensures.value;
  most = lowers_same _;
  becomes = λ first h. h;
  cause = refl;
}

pub read_slice-requires-clause-room : goal.read_slice-requires-clause-room
read_slice-requires-clause-room g c =
    let i = c.loop-number.invariant in
    omega (arith, i.place, sum-drop c.args.sizes.now c.loop-number.number c.loop-number-test.true, c.requires.room)

pub put_slice-requires-clause-alpha : goal.put_slice-requires-clause-alpha
put_slice-requires-clause-alpha g c =
    let i = c.loop-number.invariant in
    has_alpha_put c.args.header.now c.args.depth (slices_of c.args.layout.now) i.put.front c.loop-number.output i.put.is

pub returns-in_err-slice-clause-found : goal.returns-in_err-slice-clause-found
returns-in_err-slice-clause-found g c =
    let p = err_from_is_err_and c.from_residual-in_err-slice.result c.from_residual-in_err-slice.ensures.1 in
    let i = c.loop-number.invariant in
    let n = c.loop-number.number in
    let lt = c.loop-number-test.true in
    let step = sum-drop c.args.sizes.now n lt in
    rw (p.1, p.2) (λ e h. slices-end c.args.header.now (slices_of c.args.layout.now) c.args.sizes.now n c.slice-spot.result (get_or c.args.sizes.now n 0) (rest_of c.loop-number.place (g.S.ByteSource.left c.loop-number.source)) _
    (omega (arith, lt, c.requires.count)) lt c.slice-spot.ensures.value refl c.in_err-slice.field-0.0 i.put.front
    ((c.in_err-slice.ensures.bytes (λ t. omega (arith, i.more e h, step))).answer (i.told e h)) (i.put.bytes (e, h)))

pub loop-number-preserved : goal.loop-number-preserved
loop-number-preserved g c =
    let i = c.loop-number.invariant in
    let n = c.loop-number.number in
    let lt = c.loop-number-test.true in
    let step = sum-drop c.args.sizes.now n lt in
    let places = slices_of c.args.layout.now in
    let x = c.in_ok-slice.slice in
    let size = get_or c.args.sizes.now n 0 in
    let s = rest_of c.loop-number.place (g.S.ByteSource.left c.loop-number.source) in
    let t = rest_of c.read_slice.new.place (g.S.ByteSource.left c.read_slice.new.source) in
    let in_places : n < length places = omega (arith, lt, c.requires.count) in
    record {
      place = omega (arith, i.place, step, c.in_ok-slice.ensures.place);
      told = λ e h. (c.in_ok-slice.ensures.bytes (λ k. omega (arith, i.more e h, step))).told (i.told e h);
      more = λ e h. omega (arith, i.more e h, step, ahead-length size s t (coded-rest c.args.header.now c.slice-spot.result size s x t ((c.in_ok-slice.ensures.bytes (λ k. omega (arith, i.more e h, step))).answer (i.told e h))));
      put = put_more c.args.header.now c.args.depth places c.args.sizes.now n c.loop-number.output _ _ s t _ c.slice-spot.result size x in_places lt c.slice-spot.ensures.value refl
          c.in_ok-slice.ensures.slice c.put_slice.ensures (λ a. (c.in_ok-slice.ensures.bytes (λ k. omega (arith, i.more a.0 a.1, step))).answer (i.told a.0 a.1)) i.put;
      most = lowers_then _ _ _ _ _ i.most c.in_ok-slice.ensures.most;
      becomes = λ first h. c.in_ok-slice.ensures.becomes first (i.becomes first h);
      cause = c.in_ok-slice.ensures.cause.kept ∙ i.cause;
    }

pub returns-clause-found : goal.returns-clause-found
returns-clause-found g c =
    let i = c.loop-number.invariant in
    let n = c.loop-number.number in
    let places = slices_of c.args.layout.now in
    let end : length places ≤ n = omega (arith, c.loop-number-test.false, c.requires.count) in (
      i.put.front,
      record { coded = subst (λ ps. AreCodedSlices c.args.header.now ps i.put.front) (take_all n places end) i.put.coded; is = i.put.is },
      λ e h. (i.told e h, slices-all c.args.header.now places c.args.sizes.now n (rest_of c.loop-number.place (g.S.ByteSource.left c.loop-number.source)) _ i.put.front end (i.put.bytes (e, h))),
    )
