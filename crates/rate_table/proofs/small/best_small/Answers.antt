use Rattle.std.proofs.Common.{◌≡◌, ◌<◌, ◌∙◌, length, ap, subst}
use Rattle.rate_table.specs.Table.{Table, IsTable, indices}
use Rattle.rate_table.proofs.Enumerated.{best_of-is_best, best_of-none}
use Rattle.rate_table.specs.declared.small.Sums.{Sums}
use Rattle.rate_table.specs.Small.{choice_at, all_sums}
use Rattle.rate_table.proofs.Numbered.{sums_read}
use Rattle.rate_table.proofs.small.best_small.Goals as goal

pub returns-in-None-clause-best : goal.returns-in-None-clause-best
returns-in-None-clause-best c = (best_of-none c.args.table.now c.in-None.ensures.best, c.least.ensures)

pub returns-clause-best : goal.returns-clause-best
returns-clause-best c =
    let slices = c.args.table.now.slices in
    let all = c.in_ok-all.all.items in
    let number = c.in-Some-best_at.number in
    let slices_are : c.as_slice-slices.result.now ≡ slices = c.as_slice-slices.ensures.slices ∙ ap (λ (t : Table). t.slices) c.table.view_is in
    let all_are : all ≡ all_sums slices = c.in_ok-all.ensures.sums ∙ ap all_sums slices_are in
    let within : number < length all = subst (λ l. number < length l) c.deref.ensures.value c.in-Some-best_at.ensures.number in
    let sums = sums_read slices all number c.index.result.now all_are within c.index.ensures in
    let errors = sums_read slices all number c.index-in-Some-best_at.result.now all_are within c.index-in-Some-best_at.ensures in
    record {
      best = choice_at slices number;
      is_best = best_of-is_best c.args.table.now (choice_at slices number) (subst (λ t. IsTable t) c.table.view_is c.table.invariant) c.in-Some-best_at.ensures.best;
      choice = c.in_ok-choice_of-in-Some-best_at.ensures ∙ ap (λ l. indices (choice_at l number)) slices_are;
      size = ap (λ (s : Sums). s.size) sums;
      error = ap (λ (s : Sums). s.error) errors;
    }
