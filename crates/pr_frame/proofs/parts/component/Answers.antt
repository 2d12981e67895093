use Rattle.std.proofs.Common.{◌≡◌, ◌≤◌, ◌∙◌, length, take, drop, ap, arith, rules, length-take-le}
use Rattle.std.proofs.lemmas.List.{take-append-le}
use Rattle.pw_outside.specs.Reading.{bytes_of}
use Rattle.pr_frame.proofs.Steps.{component-value, component-fault}
use Rattle.pr_frame.proofs.parts.component.Goals as goal

pub returns-clause-value : goal.returns-clause-value
returns-clause-value g c = λ h.
    let old = g.S.ByteSource.left c.args.source.now in
    let whole : length c.args.scratch.now.piece ≡ 65543 = search rules in
    let room : c.from.result ≤ length c.args.scratch.now.piece = omega (arith, c.from.ensures, c.ranges.size.fits, whole) in
    let size : length (take c.from.result c.args.scratch.now.piece) ≡ c.args.size = length-take-le c.from.result c.args.scratch.now.piece room ∙ c.from.ensures in
    component-value c.args.scan _ c.args.size c.args.at old (g.S.ByteSource.left c.next_bytes.new.source) _ c.read_held.new.blocks c.read_held.result
    (take-append-le c.in_ok-count.count c.next_bytes.new.piece _ c.in_ok-count.ensures.count ∙ c.in_ok-count.ensures.bytes h ∙ ap (λ n. take n (bytes_of old)) size)
    (c.in_ok-count.ensures.rest h ∙ ap (λ n. drop n (bytes_of old)) size)
    c.read_held.auto.blocks c.requires.count.1 c.read_held.ensures.stands

pub returns-clause-fault : goal.returns-clause-fault
returns-clause-fault g c = λ h.
    let old = g.S.ByteSource.left c.args.source.now in
    let whole : length c.args.scratch.now.piece ≡ 65543 = search rules in
    let room : c.from.result ≤ length c.args.scratch.now.piece = omega (arith, c.from.ensures, c.ranges.size.fits, whole) in
    let size : length (take c.from.result c.args.scratch.now.piece) ≡ c.args.size = length-take-le c.from.result c.args.scratch.now.piece room ∙ c.from.ensures in
    component-fault c.args.scan _ c.args.size c.args.at old _ c.read_held.result
    (take-append-le c.in_ok-count.count c.next_bytes.new.piece _ c.in_ok-count.ensures.count ∙ c.in_ok-count.ensures.bytes h ∙ ap (λ n. take n (bytes_of old)) size)
    c.read_held.ensures.fault
