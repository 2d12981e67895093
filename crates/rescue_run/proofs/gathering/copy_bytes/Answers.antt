use Rattle.std.proofs.Common.{rules, ◌≡◌, ◌+◌, ◌≤◌, subst}
use Rattle.pw_outside.specs.Reading.{bytes_of}
use Rattle.pw_outside.proofs.Puts.{then_extends}
use Rattle.rescue_run.specs.inner.Windows.{Shows}
use Rattle.rescue_run.proofs.Copying.{more_bytes, part_copied, fewer_copied}
use Rattle.rescue_run.proofs.gathering.copy_bytes.Goals as goal

pub returns-in-Err-clause-err : goal.returns-in-Err-clause-err
returns-in-Err-clause-err g c =
    let e : c.args.place + c.from.result ≡ c.args.place + c.args.size = search rules in
    λ told. fewer_copied _ c.args.place c.loop-next.next _ c.args.size _ _ e c.loop-next.invariant.order c.loop-next.invariant.within (c.loop-next.invariant.copied told)

pub loop-next-preserved : goal.loop-next-preserved
loop-next-preserved g c =
    let shows = subst (λ b. Shows b c.args.total c.reach.new.window) c.loop-next.invariant.bytes c.in-Ok.ensures.shows in
    let file = bytes_of (g.M.ByteStore.bytes c.args.movie.now) in
    record {
      order = search rules;
      within = search rules;
      shows = shows;
      copied = λ told. more_bytes file c.args.place c.loop-next.next c.in-Ok-put_shown.stop _ _ _ c.loop-next.invariant.order (let le : c.loop-next.next ≤ c.in-Ok-put_shown.stop = search rules in le)
          (c.loop-next.invariant.copied told) (c.in-Ok-put_shown.ensures.ok file (shows.same told));
      extends = then_extends _ _ _ c.loop-next.invariant.extends c.put_shown.ensures.extends;
      bytes = search rules;
      source = search rules;
      sink = search rules;
    }

pub returns-in-Err-put_shown-clause-err : goal.returns-in-Err-put_shown-clause-err
returns-in-Err-put_shown-clause-err g c =
    let shows = subst (λ b. Shows b c.args.total c.reach.new.window) c.loop-next.invariant.bytes c.in-Ok.ensures.shows in
    let file = bytes_of (g.M.ByteStore.bytes c.args.movie.now) in
    let e : c.args.place + c.from.result ≡ c.args.place + c.args.size = search rules in
    λ told. part_copied file c.args.place c.loop-next.next _ c.args.size _ _ _ e c.loop-next.invariant.order c.loop-next.invariant.within (c.loop-next.invariant.copied told) (c.in-Err-put_shown.ensures.err file (shows.same told))

pub returns-in-Err-put_shown-clause-extends : goal.returns-in-Err-put_shown-clause-extends
returns-in-Err-put_shown-clause-extends g c = then_extends _ _ _ c.loop-next.invariant.extends c.put_shown.ensures.extends
