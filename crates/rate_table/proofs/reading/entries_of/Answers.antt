use Rattle.std.proofs.Common.{◌<◌, ◌≤◌, ◌∷◌, [], arith, rules, length-append}
use Rattle.std.proofs.lemmas.List.Elements.{All-push, All-weaker}
use Rattle.std.proofs.lemmas.Result.{err_from_is_err_and}
use Rattle.rate_table.specs.declared.entry.Entry.{Entry}
use Rattle.rate_table.specs.Table.{IsEntry}
use Rattle.rate_table.proofs.InTurn.{entries-more, entries-end, entries-all, rise-push}
use Rattle.rate_table.proofs.reading.entries_of.Goals as goal

pub returns-in_err-entry-clause-bytes : goal.returns-in_err-entry-clause-bytes
returns-in_err-entry-clause-bytes g c =
    let p = err_from_is_err_and c.from_residual.result c.from_residual.ensures.1 in
    rw (p.1, p.2) (record {
      told = λ h. tt;
      answer = λ h. entries-end c.in_err-entry.field-0.0 c.loop.entries.items c.args.count c.loop.counter c.loop.low _ _ c.loop-test.true (c.in_err-entry.ensures.bytes.answer (c.loop.invariant.told h)) (c.loop.invariant.bytes h);
    })

pub loop-preserved : goal.loop-preserved
loop-preserved g c =
    let items = c.loop.entries.items in
    let e = c.in_ok-entry.entry in
    let above : c.loop.low < e.index = c.in_ok-entry.ensures.above in
    let below = c.loop.invariant.below in
    rw c.push.ensures.items (record {
      count = omega (arith, length-append items (e ∷ []));
      place = search rules;
      rises = rise-push items e c.loop.invariant.rises (All-weaker (λ (x : Entry). x.index ≤ c.loop.low) (λ x. x.index < e.index) (λ x h. omega arith) items below);
      limits = All-push IsEntry items e c.loop.invariant.limits c.in_ok-entry.ensures.entry;
      below = All-push (λ x. x.index ≤ e.index) items e (All-weaker (λ (x : Entry). x.index ≤ c.loop.low) (λ x. x.index ≤ e.index) (λ x h. omega arith) items below) (omega arith);
      told = λ h. c.in_ok-entry.ensures.bytes.told (c.loop.invariant.told h);
      bytes = λ h. entries-more items c.args.count c.loop.counter c.loop.low _ _ e _ c.loop-test.true (c.in_ok-entry.ensures.bytes.answer (c.loop.invariant.told h)) (c.loop.invariant.bytes h);
      becomes = λ first h. c.in_ok-entry.ensures.becomes first (c.loop.invariant.becomes first h);
      cause = search rules;
    })

pub returns-clause-bytes : goal.returns-clause-bytes
returns-clause-bytes g c = record {
  told = c.loop.invariant.told;
  answer = λ h. entries-all c.loop.entries.items c.args.count c.loop.counter c.loop.low _ _ c.loop-test.false (c.loop.invariant.bytes h);
}
