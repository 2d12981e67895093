use Rattle.std.proofs.Common.{◌≡◌, ◌<◌, [], get_or, List, sym, ◌∙◌, subst, arith, Option, None, Some, length}
use Rattle.std.specs.Prelude.{IfNone}
use Rattle.std.specs.List.{Contains}
use Rattle.std.proofs.lemmas.List.{get_or_default}
use Rattle.std.proofs.lemmas.List.Elements.{All-contains}
use Rattle.rate_table.specs.declared.entry.Entry.{Entry}
use Rattle.rate_table.specs.Table.{IsEntry}
use Rattle.rate_table.proofs.Chosen.{no_choice-length, no_choice-entry, sums-more}
use Rattle.rate_table.proofs.sums.part_total.Goals as goal

if_none : {T : Type 0} (o : Option T) (P : Type 0) → P → IfNone o P
if_none None P p = p
if_none (Some x) P p = tt

pub returns-then-slices-choice-clause-none : goal.returns-then-slices-choice-clause-none
returns-then-slices-choice-clause-none c = no_choice-length c.args.slices.now c.args.choice.now (λ same. omega arith)

pub returns-in_err-entry-clause-none : goal.returns-in_err-entry-clause-none
returns-in_err-entry-clause-none c =
    let lt : c.loop-i.i < length c.args.slices.now = c.loop-i-test.true in
    let same : c.entries.result.now ≡ get_or c.args.slices.now c.loop-i.i [] = c.entries.ensures.entries ∙ c.index-slices-i.is ∙ get_or_default c.args.slices.now c.loop-i.i c.index-slices-i.result [] lt in
    if_none c.from_residual.result _ (no_choice-entry c.args.slices.now c.args.choice.now c.loop-i.i lt
    (λ e i. c.in_err-entry.ensures.none e (subst (λ (s : List Entry). Contains s e) (sym same) i)))

pub loop-i-preserved : goal.loop-i-preserved
loop-i-preserved c =
    let lt : c.loop-i.i < length c.args.slices.now = c.loop-i-test.true in
    let few : c.loop-i.i < length c.args.choice.now = omega arith in
    let e = c.in_ok-entry.entry in
    let found = c.in_ok-entry.ensures.some in
    let same : c.entries.result.now ≡ get_or c.args.slices.now c.loop-i.i [] = c.entries.ensures.entries ∙ c.index-slices-i.is ∙ get_or_default c.args.slices.now c.loop-i.i c.index-slices-i.result [] lt in
    let within : Contains c.index-slices-i.result e = subst (λ (s : List Entry). Contains s e) c.entries.ensures.entries found.0 in
    let limits : IsEntry e = All-contains IsEntry c.index-slices-i.result e c.entries.ensures.slice.limits within in
    let small = limits.size in
    let few_errors = limits.error in
    let size : c.from-size.result ≡ e.size = c.from-size.ensures in
    record {
      sums = rw size (sums-more c.args.slices.now c.args.choice.now c.loop-i.i c.loop-i.size c.loop-i.error e lt few (subst (λ (s : List Entry). Contains s e) same found.0) found.1 c.loop-i.invariant.sums);
      size = omega arith;
      error = omega arith;
    }
