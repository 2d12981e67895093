use Rattle.std.proofs.Common.{◌<◌, refl, ◌∙◌, subst, arith, length, get_or}
use Rattle.std.proofs.lemmas.Result.{err_from_is_err_and}
use Rattle.std.proofs.lemmas.List.{take_all}
use Rattle.pw_outside.specs.Reading.{rest_of}
use Rattle.pw_outside.proofs.Chains.{with_front_nil}
use Rattle.pr_geom.specs.Layout.{slices_of}
use Rattle.pr_head.proofs.Bounds.{lowers_same, lowers_then}
use Rattle.pr_frame.specs.Coded.{AreCodedSlices}
use Rattle.pr_frame.proofs.Rests.{coded-rest}
use Rattle.pr_frame.proofs.SliceLoop.{sum-drop, slices-more, slices-end, slices-all, coded-more, ahead-length}
use Rattle.pr_frame.proofs.slices.read_slices.Goals as goal

pub loop-number-init : goal.loop-number-init
loop-number-init g c = rw c.new-slices.ensures.items (record {
  place = omega arith;
  told = λ e h. h;
  bytes = λ e h. with_front_nil _;
  more = λ e h. e h;
  slices = tt;
  most = lowers_same _;
  becomes = λ first h. h;
  cause = refl;
})

pub returns-in_err-coded-clause-bytes : goal.returns-in_err-coded-clause-bytes
returns-in_err-coded-clause-bytes g c = λ e.
    let p = err_from_is_err_and c.from_residual.result c.from_residual.ensures.1 in
    let i = c.loop-number.invariant in
    let n = c.loop-number.number in
    let lt = c.loop-number-test.true in
    let step = sum-drop c.args.sizes.now n lt in
    rw (p.1, p.2) (record {
      told = λ h. tt;
      answer = λ h. slices-end c.args.header.now (slices_of c.args.layout.now) c.args.sizes.now n c.slice-slice.result (get_or c.args.sizes.now n 0) (rest_of c.loop-number.place (g.S.ByteSource.left c.loop-number.source)) _
          (omega (arith, lt, c.requires.count)) lt c.slice-slice.ensures.value refl c.in_err-coded.field-0.0 c.loop-number.slices.items
          ((c.in_err-coded.ensures.bytes (λ t. omega (arith, i.more e h, step))).answer (i.told e h)) (i.bytes e h);
    })

pub loop-number-preserved : goal.loop-number-preserved
loop-number-preserved g c =
    let i = c.loop-number.invariant in
    let n = c.loop-number.number in
    let lt = c.loop-number-test.true in
    let step = sum-drop c.args.sizes.now n lt in
    let places = slices_of c.args.layout.now in
    let x = c.in_ok-coded.coded in
    let size = get_or c.args.sizes.now n 0 in
    let s = rest_of c.loop-number.place (g.S.ByteSource.left c.loop-number.source) in
    let t = rest_of c.read_slice.new.place (g.S.ByteSource.left c.read_slice.new.source) in
    let in_places : n < length places = omega (arith, lt, c.requires.count) in
    rw c.in_ok-push.ensures.items (record {
      place = omega (arith, i.place, step, c.in_ok-coded.ensures.place);
      told = λ e h. (c.in_ok-coded.ensures.bytes (λ k. omega (arith, i.more e h, step))).told (i.told e h);
      bytes = λ e h. slices-more c.args.header.now places c.args.sizes.now n c.slice-slice.result size s _ in_places lt c.slice-slice.ensures.value refl c.loop-number.slices.items x t
          ((c.in_ok-coded.ensures.bytes (λ k. omega (arith, i.more e h, step))).answer (i.told e h)) (i.bytes e h);
      more = λ e h. omega (arith, i.more e h, step, ahead-length size s t (coded-rest c.args.header.now c.slice-slice.result size s x t ((c.in_ok-coded.ensures.bytes (λ k. omega (arith, i.more e h, step))).answer (i.told e h))));
      slices = coded-more c.args.header.now places c.loop-number.slices.items n c.slice-slice.result x in_places c.slice-slice.ensures.value i.slices c.in_ok-coded.ensures.slice;
      most = lowers_then _ _ _ _ _ i.most c.in_ok-coded.ensures.most;
      becomes = λ first h. c.in_ok-coded.ensures.becomes first (i.becomes first h);
      cause = c.in_ok-coded.ensures.cause.kept ∙ i.cause;
    })

pub returns-clause-bytes : goal.returns-clause-bytes
returns-clause-bytes g c = λ e.
    let i = c.loop-number.invariant in
    let n = c.loop-number.number in
    rw c.from_vec.ensures (record {
      told = i.told e;
      answer = λ h. slices-all c.args.header.now (slices_of c.args.layout.now) c.args.sizes.now n (rest_of c.loop-number.place (g.S.ByteSource.left c.loop-number.source)) _ c.loop-number.slices.items
          (omega (arith, c.loop-number-test.false, c.requires.count)) (i.bytes e h);
    })

pub returns-clause-slices : goal.returns-clause-slices
returns-clause-slices g c =
    let i = c.loop-number.invariant in
    let whole = take_all c.loop-number.number (slices_of c.args.layout.now) (omega (arith, c.loop-number-test.false, c.requires.count)) in
    rw c.from_vec.ensures (subst (λ ps. AreCodedSlices c.args.header.now ps c.loop-number.slices.items) whole i.slices)
