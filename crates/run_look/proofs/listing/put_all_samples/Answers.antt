use Rattle.std.proofs.Common.{rules, ◌≡◌, ◌-◌, ◌<◌, ◌≤◌, length, take, drop, arith, subst}
use Rattle.pw_outside.specs.Writing.{sink_state, Puts, PutsPart}
use Rattle.pw_outside.proofs.Puts.{part_front}
use Rattle.pw_outside.proofs.Results.{any_err}
use Rattle.pw_text.proofs.Numbered.{front_up_to, front_further, further, at_last}
use Rattle.qt_tables.specs.Samples.{samples, chunks, durations}
use Rattle.run_look.specs.Listing.{sample_lines, sample_line}
use Rattle.run_look.proofs.Numbers.{few_samples}
use Rattle.run_look.proofs.listing.put_all_samples.Goals as goal

pub returns-in_err-put_samples-clause-err : goal.returns-in_err-put_samples-clause-err
returns-in_err-put_samples-clause-err g c = any_err c.from_residual.result (front_up_to sample_line (samples c.args.reader.now.tables) c.loop-next.next c.loop-next.invariant.text)

pub returns-in_err-put_all-clause-err : goal.returns-in_err-put_all-clause-err
returns-in_err-put_all-clause-err g c =
    let ss = samples c.args.reader.now.tables in
    let next = c.loop-next.next in
    let end = c.min-end.result in
    let le : next ≤ end = search rules in
    let piece : c.deref.result.now ≡ sample_lines next (take (end - next) (drop next ss)) = search rules in
    any_err c.from_residual-in_err-put_all.result (front_further sample_line ss next end le c.loop-next.invariant.within c.loop-next.invariant.text
    (part_front (subst (λ l. PutsPart (sink_state (g.K.ByteSink.held c.loop-next.sink) (g.K.ByteSink.taken c.loop-next.sink)) (sink_state (g.K.ByteSink.held c.put_all.new.sink) (g.K.ByteSink.taken c.put_all.new.sink)) l)
    piece c.in_err-put_all.ensures.err)))

pub loop-next-preserved : goal.loop-next-preserved
loop-next-preserved g c =
    let ss = samples c.args.reader.now.tables in
    let next = c.loop-next.next in
    let end = c.min-end.result in
    let le : next ≤ end = search rules in
    let lt : next < end = search rules in
    let piece : c.deref.result.now ≡ sample_lines next (take (end - next) (drop next ss)) = search rules in
    record {
      order = search rules;
      within = c.in_ok-put_samples.ensures.within lt;
      text = further sample_line ss next end le c.loop-next.invariant.within c.loop-next.invariant.text
          (subst (λ l. Puts (sink_state (g.K.ByteSink.held c.loop-next.sink) (g.K.ByteSink.taken c.loop-next.sink)) (sink_state (g.K.ByteSink.held c.put_all.new.sink) (g.K.ByteSink.taken c.put_all.new.sink)) l)
          piece c.in_ok-put_all.ensures.ok);
      cause = search rules;
    }

pub returns-clause-ok : goal.returns-clause-ok
returns-clause-ok g c =
    let t = c.args.reader.now.tables in
    let few = few_samples (chunks t.runs t.offsets) t.sizes (durations t.times) in
    let past : length t.sizes ≤ c.loop-next.next = search rules in
    at_last sample_line (samples t) c.loop-next.next (omega (arith, few, past)) c.loop-next.invariant.text
