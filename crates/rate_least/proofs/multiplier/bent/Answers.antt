use Rattle.std.proofs.Common.{subst, take, get_or, refl}
use Rattle.std.specs.List.{All}
use Rattle.std.proofs.lemmas.List.{take_all}
use Rattle.std.proofs.lemmas.List.Elements.{All-contains, All-more, All-weaker, Contains-get_or}
use Rattle.std.proofs.lemmas.Bool.{false≢true}
use Rattle.rate_table.specs.declared.entry.Entry.{Entry}
use Rattle.rate_least.specs.inner.Bent.{Wins}
use Rattle.rate_least.proofs.Bends.{bent_wins, wins_trans, wins_self}
use Rattle.rate_least.proofs.multiplier.bent.Goals as goal
use Rattle.rate_least.proofs.multiplier.bent.Goals.{then-not-is_better, else-not-is_better}

no_entry : Entry
no_entry = record { index = 0; size = 0; error = 0 }

pub loop-x-preserved : goal.loop-x-preserved
unfolding no_entry
loop-x-preserved c =
    let xs = c.args.entries.now in
    let m = c.args.multiplier in
    let k = c.loop-x.x-index in
    let e = get_or xs k no_entry in
    let best = c.loop-x.best in
    let i = c.loop-x.invariant in
    elim c.if-not-is_better.branch [
      | then-not-is_better w ↦
          rw (w.best-is, w.least-is) (record {
            within = Contains-get_or xs k no_entry c.loop-x-test.true;
            wins = All-more (λ y. Wins m e y) xs k no_entry c.loop-x-test.true
                (All-weaker (λ y. Wins m best y) (λ y. Wins m e y) (λ y h. wins_trans m e best y (w.if-not-is_better.ensures.no m i.least c.cost_of-cost.ensures.value false≢true) h) (take k xs) i.wins) (wins_self m e e refl);
            least = c.cost_of-cost.ensures.value;
          })
      | else-not-is_better w ↦
          rw (w.best-is, w.least-is) (record {
            within = i.within;
            wins = All-more (λ y. Wins m best y) xs k no_entry c.loop-x-test.true i.wins (w.if-not-is_better.ensures.yes m i.least c.cost_of-cost.ensures.value refl);
            least = i.least;
          })
    ]

pub returns : goal.returns
returns c =
    bent_wins c.args.multiplier c.args.entries.now c.loop-x.best c.loop-x.invariant.within (λ y i.
    All-contains (λ (y : Entry). Wins c.args.multiplier c.loop-x.best y) c.args.entries.now y (subst (λ xs. All (λ (y : Entry). Wins c.args.multiplier c.loop-x.best y) xs) (take_all c.loop-x.x-index c.args.entries.now c.loop-x-test.false) c.loop-x.invariant.wins) i)
