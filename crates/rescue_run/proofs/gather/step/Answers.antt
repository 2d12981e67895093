use Rattle.std.proofs.Common.{rules, ◌≤◌, arith, subst, sym}
use Rattle.std.specs.Prelude.{IsSome}
use Rattle.pw_outside.specs.Reading.{bytes_of}
use Rattle.pw_outside.specs.Writing.{SinkState, sink_state}
use Rattle.rescue_run.specs.inner.Windows.{NoMark, FindsMark}
use Rattle.rescue_run.specs.inner.Steps.{GatheredUpTo, GoesFrom}
use Rattle.rescue_run.proofs.Turning.{gathered_further, stopped_here}
use Rattle.rescue_run.proofs.gather.step.Goals as goal

pub returns-in-Ok-Some-clause-goes : goal.returns-in-Ok-Some-clause-goes
returns-in-Ok-Some-clause-goes g c = λ told start h.
    let file = bytes_of (g.M.ByteStore.bytes c.args.movie.now) in
    let before = sink_state (g.K.ByteSink.held c.args.out.now) (g.K.ByteSink.taken c.args.out.now) in
    let after = sink_state (g.K.ByteSink.held c.turn.new.out) (g.K.ByteSink.taken c.turn.new.out) in
    let finds = subst (FindsMark file c.args.place) c.in-Ok-Some.field-0-is (c.in-Ok-Some.ensures.finds told) in
    let order : c.args.place ≤ c.in-Ok-Some.found = search rules in
    let goes = subst (λ x. IsSome x → (start : SinkState) → GatheredUpTo (bytes_of x) c.in-Ok-Some.found c.args.gathering.now start before → GoesFrom (bytes_of x) c.turn.result c.turn.new.gathering start after) c.next_mark.ensures.bytes c.turn.ensures.goes in
    goes told start (gathered_further file c.args.place c.in-Ok-Some.found c.args.gathering.now start before order finds.1 h)

pub returns-in-Ok-None-clause-goes : goal.returns-in-Ok-None-clause-goes
returns-in-Ok-None-clause-goes g c = λ told start h.
    let file = bytes_of (g.M.ByteStore.bytes c.args.movie.now) in
    let finds = subst (FindsMark file c.args.place) c.in-Ok-None.field-0-is (c.in-Ok-None.ensures.finds told) in
    gathered_further file c.args.place c.args.total c.args.gathering.now start _ (omega (arith, c.requires.place)) (subst (NoMark file c.args.place) (sym (c.requires.whole told)) finds) h

pub returns-in-Err-clause-goes : goal.returns-in-Err-clause-goes
returns-in-Err-clause-goes g c = λ told start h.
    let file = bytes_of (g.M.ByteStore.bytes c.args.movie.now) in
    stopped_here file c.args.place c.args.gathering.now start _ (omega (arith, c.requires.place, c.requires.whole told)) h
