use Rattle.std.proofs.Common.{◌≡◌, ◌∷◌, [], rules}
use Rattle.std.proofs.lemmas.Result.{err_from_is_err_and}
use Rattle.pw_planes.specs.declared.kinds.Interlace.TheVariants.{Progressive}
use Rattle.pw_outside.specs.Reading.{rest_of}
use Rattle.pr_frame.proofs.FrameSteps.{picture-ahead, end-kept}
use Rattle.pr_frame.proofs.ShowFrames.{field_size, one_picture, first_fails, read_one, second_fails, read_two, woven_found}
use Rattle.pr_frame.proofs.showing.show_pictures.Goals as goal

pub returns-in_err-first-clause-found : goal.returns-in_err-first-clause-found
returns-in_err-first-clause-found g c =
    let p = err_from_is_err_and c.from_residual.result c.from_residual.ensures.1 in
    let hd = c.args.header.now in
    rw (p.1, p.2) (λ enough h. first_fails c.args.frame hd (rest_of c.args.place.now (g.S.ByteSource.left c.args.source.now)) hd.interlace c.in_err-first.field-0.0 (c.in_err-first.ensures.found enough h))

pub returns-then-eq-clause-found : goal.returns-then-eq-clause-found
returns-then-eq-clause-found g c =
    let hd = c.args.header.now in
    let s = rest_of c.args.place.now (g.S.ByteSource.left c.args.source.now) in
    let t = rest_of c.show_picture.new.place (g.S.ByteSource.left c.show_picture.new.source) in
    let one : hd.interlace ≡ Progressive = search (rules, c.if-eq.ensures) in
    let found = c.in_ok-first.ensures.found in
    (found.0 ∷ [], one_picture hd c.args.depth c.in_ok-first.first found.0 one found.1, λ enough h. ((found.2 enough h).0, read_one c.args.frame hd s found.0 t (found.2 enough h).1 hd.interlace one))

pub returns-in_err-second-clause-found : goal.returns-in_err-second-clause-found
returns-in_err-second-clause-found g c =
    let p = err_from_is_err_and c.from_residual-in_err-second.result c.from_residual-in_err-second.ensures.1 in
    let F = c.args.frame in
    let hd = c.args.header.now in
    let s = rest_of c.args.place.now (g.S.ByteSource.left c.args.source.now) in
    let t = rest_of c.show_picture.new.place (g.S.ByteSource.left c.show_picture.new.source) in
    let two : hd.interlace ≡ Progressive → ⊥ = search (rules, c.if-eq.ensures) in
    let first = c.in_ok-first.ensures.found in
    rw (p.1, p.2) (λ enough h.
    let read = first.2 enough h in
    let a = picture-ahead F hd s first.0 t read.1 in
    second_fails F hd s first.0 t read.1 hd.interlace two c.in_err-second.field-0.0 (c.in_err-second.ensures.found (λ k. end-kept F a.0 s t a.1 (enough h)) read.0))

pub whole_output-requires-clause-first : goal.whole_output-requires-clause-first
whole_output-requires-clause-first g c =
    let found = c.in_ok-first.ensures.found in
    field_size c.args.header.now c.args.depth c.in_ok-first.first found.0 found.1.is

pub whole_output-requires-clause-second : goal.whole_output-requires-clause-second
whole_output-requires-clause-second g c =
    let found = c.in_ok-second.ensures.found in
    field_size c.args.header.now c.args.depth c.in_ok-second.second found.0 found.1.is

pub returns-clause-found : goal.returns-clause-found
returns-clause-found g c =
    let F = c.args.frame in
    let hd = c.args.header.now in
    let left = g.S.ByteSource.left c.args.source.now in
    let new = g.S.ByteSource.left c.show_picture-2.new.source in
    let s = rest_of c.args.place.now left in
    let t = rest_of c.show_picture.new.place (g.S.ByteSource.left c.show_picture.new.source) in
    let u = rest_of c.show_picture-2.new.place new in
    let two : hd.interlace ≡ Progressive → ⊥ = search (rules, c.if-eq.ensures) in
    let first = c.in_ok-first.ensures.found in
    let second = c.in_ok-second.ensures.found in
    woven_found hd c.args.depth F c.whole_output.result c.in_ok-first.first c.in_ok-second.second first.0 second.0 _ left new c.args.place.now c.show_picture-2.new.place two first.1 second.1
    (λ enough h.
    let read = first.2 enough h in
    let a = picture-ahead F hd s first.0 t read.1 in
    let behind = second.2 (λ k. end-kept F a.0 s t a.1 (enough h)) read.0 in
    (behind.0, read_two F hd s first.0 t read.1 second.0 u behind.1 hd.interlace two))
    c.whole_output.ensures.value c.whole_output.ensures.error
