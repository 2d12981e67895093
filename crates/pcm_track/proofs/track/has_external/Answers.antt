use Rattle.std.proofs.Common.{rules, arith, ap, ◌≡◌, ◌∙◌, Ok, true, false}
use Rattle.qt_atoms.proofs.Heads.{ok-is}
use Rattle.qt_movie.specs.Movie.{lies_here}
use Rattle.pcm_track.proofs.SoundTracks.{readable-end, readable-external, readable-more}
use Rattle.pcm_track.proofs.track.has_external.Goals as goal

pub returns-in-None-clause-value : goal.returns-in-None-clause-value
returns-in-None-clause-value g c h =
    let here = rw c.loop.invariant.bytes at c.in_ok-description.ensures.value in
    ap Ok (readable-end _ _ _ c.args.count c.loop.counter _ _ c.loop-test.true (ok-is _ _ (here h) ∙ c.in-None.is) (c.loop.invariant.value h))

pub returns-then-not-lies_here-clause-value : goal.returns-then-not-lies_here-clause-value
returns-then-not-lies_here-clause-value g c h =
    let here = rw c.loop.invariant.bytes at c.in_ok-description.ensures.value in
    let d = c.in-Some.description in
    let external : lies_here c.args.references.now d.reference ≡ false = search rules in
    ap Ok (readable-external _ _ _ c.args.count c.loop.counter _ d _ c.loop-test.true (ok-is _ _ (here h) ∙ c.in-Some.is) external (c.loop.invariant.value h))

pub loop-preserved : goal.loop-preserved
loop-preserved g c =
    let here = rw c.loop.invariant.bytes at c.in_ok-description.ensures.value in
    let within = rw c.in-Some.is at c.in_ok-description.ensures.within in
    let d = c.in-Some.description in
    let internal : lies_here c.args.references.now d.reference ≡ true = search rules in
    rw c.from-place.ensures (record {
      within = omega (arith, within);
      value = λ h. readable-more _ _ _ c.args.count c.loop.counter _ d _ c.loop-test.true (ok-is _ _ (here h) ∙ c.in-Some.is) internal (c.loop.invariant.value h);
      bytes = search rules;
      cause = search rules;
    })
