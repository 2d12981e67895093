use Rattle.std.proofs.Common.{◌*◌, ◌^◌, ◌<◌, refl, length, sym, ap, subst, ◌∙◌}
use Rattle.std.specs.List.{All}
use Rattle.std.proofs.lemmas.List.Elements.{All-take, All-drop}
use Rattle.pw_outside.specs.Writing.{sink_state, Puts, PutsFront}
use Rattle.pr_geom.specs.Layout.{slices_of}
use Rattle.pr_frame.specs.declared.coded.CodedPicture.{CodedPicture}
use Rattle.pr_frame.specs.Ready.{IsReadyAlpha}
use Rattle.pr_frame.specs.Written.{picture_bytes, picture_length}
use Rattle.std.proofs.lemmas.Result.{on_ok_weaker, on_err_weaker}
use Rattle.rate_build.specs.declared.slices.SliceCoefficients.{SliceCoefficients}
use Rattle.rate_build.specs.Coefficients.{FrameCoefficients, AreOfLayout}
use Rattle.rate_build.specs.Coding.{coded_slices, coded_picture, weights_in, IsIndex}
use Rattle.rate_build.specs.Tables.{HasParts}
use Rattle.rate_build.proofs.Whole.{parts_of}
use Rattle.rate_build.proofs.Alphas.{alphas_of}
use Rattle.rate_build.proofs.Limits.{fixed_small}
use Rattle.rate_build.proofs.Chosen.{picture_is}
use Rattle.rate_build.proofs.Straight.{chosen_range}
use Rattle.rate_build.proofs.Framed.{index_all, chosen, picture_short, part_same, chosen_same}
use Rattle.rate_build.proofs.writing.write_number.Goals as goal

pub write_picture-requires-clause-parts : goal.write_picture-requires-clause-parts
write_picture-requires-clause-parts g c = All-take HasParts _ _ (All-drop HasParts _ _ (subst (All HasParts) (sym c.as_slice-all.ensures) (parts_of _ _ _ _ c.coefficients.invariant)))

pub write_picture-requires-clause-alpha : goal.write_picture-requires-clause-alpha
write_picture-requires-clause-alpha g c =
    let P = λ (s : SliceCoefficients). IsReadyAlpha c.args.header.now.alpha s.alpha in
    let same = c.requires.header.alpha ∙ sym (ap (λ (v : FrameCoefficients). v.alpha) c.coefficients.view_is) in
    let all = subst (λ alpha. All (λ (s : SliceCoefficients). IsReadyAlpha alpha s.alpha) c.coefficients.inside.slices) (sym same) (alphas_of _ _ _ _ c.coefficients.invariant) in
    All-take P _ _ (All-drop P _ _ (subst (All P) (sym c.as_slice-all.ensures) all))

pub write_picture-requires-clause-chosen : goal.write_picture-requires-clause-chosen
write_picture-requires-clause-chosen g c =
    let v = c.args.coefficients.now in
    let h = c.args.header.now in
    let are = subst AreOfLayout c.coefficients.view_is c.coefficients.invariant in
    let n = length (slices_of v.layout) in
    let k = c.args.number in
    let count = c.slices-count.ensures.value ∙ ap (λ (v : FrameCoefficients). length (slices_of v.layout)) c.coefficients.view_is in
    let slices = c.as_slice-all.ensures ∙ ap (λ (v : FrameCoefficients). v.slices) c.coefficients.view_is in
    chosen_same h.interlace h.alpha (weights_in h) _ _ _ _ _ _
    (part_same _ _ c.slices-count.result c.from.result n k slices count c.from.ensures)
    (part_same c.args.tables.now c.args.tables.now c.slices-count.result c.from.result n k refl count c.from.ensures)
    (part_same c.args.choice.now c.args.choice.now c.slices-count.result c.from.result n k refl count c.from.ensures)
    (chosen_range h.interlace h.alpha (weights_in h) v.slices c.args.tables.now c.args.choice.now (chosen v h c.args.tables.now c.args.choice.now are c.requires.header c.requires.tables c.requires.choice) (n * k) n)

pub write_picture-requires-clause-indices : goal.write_picture-requires-clause-indices
write_picture-requires-clause-indices g c =
    let are = subst AreOfLayout c.coefficients.view_is c.coefficients.invariant in
    All-take IsIndex _ _ (All-drop IsIndex _ _ (index_all c.args.coefficients.now c.args.header.now c.args.tables.now c.args.choice.now are c.requires.header c.requires.tables c.requires.choice))

pub write_picture-requires-clause-short : goal.write_picture-requires-clause-short
write_picture-requires-clause-short g c =
    let v : FrameCoefficients = record { layout = c.coefficients.inside.layout; alpha = c.coefficients.inside.alpha; slices = c.coefficients.inside.slices } in
    let h = c.args.header.now in
    let choice = c.args.choice.now in
    let are = subst AreOfLayout c.coefficients.view_is c.coefficients.invariant in
    let same = c.requires.choice_number ∙ sym (ap (λ (v : FrameCoefficients). length v.slices) c.coefficients.view_is) in
    let picture =
    picture_is v h choice c.args.number c.slices-count.result c.from.result c.as_slice-all.result.now _ same c.slices-count.ensures.value c.from.ensures c.as_slice-all.ensures refl
    ∙ ap (λ (v : FrameCoefficients). coded_picture v (coded_slices (weights_in h) v.slices choice) c.args.number) c.coefficients.view_is in
    subst (λ (p : CodedPicture). picture_length h.interlace h.alpha p < 2 ^ 32) (sym picture)
    (picture_short c.args.coefficients.now h c.args.tables.now choice are c.requires.header c.requires.tables c.requires.choice c.args.number c.requires.number (fixed_small c.args.coefficients.now.layout))

pub returns-clause-ok : goal.returns-clause-ok
returns-clause-ok g c =
    let v : FrameCoefficients = record { layout = c.coefficients.inside.layout; alpha = c.coefficients.inside.alpha; slices = c.coefficients.inside.slices } in
    let h = c.args.header.now in
    let choice = c.args.choice.now in
    let same = c.requires.choice_number ∙ sym (ap (λ (v : FrameCoefficients). length v.slices) c.coefficients.view_is) in
    let picture =
    picture_is v h choice c.args.number c.slices-count.result c.from.result c.as_slice-all.result.now _ same c.slices-count.ensures.value c.from.ensures c.as_slice-all.ensures refl
    ∙ ap (λ (v : FrameCoefficients). coded_picture v (coded_slices (weights_in h) v.slices choice) c.args.number) c.coefficients.view_is in
    on_ok_weaker c.write_picture.result
    (subst (λ (p : CodedPicture). Puts (sink_state (g.K.ByteSink.held c.args.sink.now) (g.K.ByteSink.taken c.args.sink.now)) (sink_state (g.K.ByteSink.held c.write_picture.new.sink) (g.K.ByteSink.taken c.write_picture.new.sink)) (picture_bytes h.interlace h.alpha p)) picture)
    c.write_picture.ensures.ok

pub returns-clause-err : goal.returns-clause-err
returns-clause-err g c =
    let v : FrameCoefficients = record { layout = c.coefficients.inside.layout; alpha = c.coefficients.inside.alpha; slices = c.coefficients.inside.slices } in
    let h = c.args.header.now in
    let choice = c.args.choice.now in
    let same = c.requires.choice_number ∙ sym (ap (λ (v : FrameCoefficients). length v.slices) c.coefficients.view_is) in
    let picture =
    picture_is v h choice c.args.number c.slices-count.result c.from.result c.as_slice-all.result.now _ same c.slices-count.ensures.value c.from.ensures c.as_slice-all.ensures refl
    ∙ ap (λ (v : FrameCoefficients). coded_picture v (coded_slices (weights_in h) v.slices choice) c.args.number) c.coefficients.view_is in
    on_err_weaker c.write_picture.result
    (subst (λ (p : CodedPicture). PutsFront (sink_state (g.K.ByteSink.held c.args.sink.now) (g.K.ByteSink.taken c.args.sink.now)) (sink_state (g.K.ByteSink.held c.write_picture.new.sink) (g.K.ByteSink.taken c.write_picture.new.sink)) (picture_bytes h.interlace h.alpha p)) picture)
    c.write_picture.ensures.err
