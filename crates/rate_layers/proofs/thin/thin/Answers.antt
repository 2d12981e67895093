use Rattle.std.proofs.Common.{◌-◌, ◌≤◌, length, get_or, refl, subst, arith}
use Rattle.std.specs.List.{Contains}
use Rattle.std.proofs.lemmas.List.Elements.{All-push}
use Rattle.rate_table.specs.declared.entry.Entry.{Entry}
use Rattle.rate_table.specs.Table.{IsEntry}
use Rattle.rate_layers.proofs.Thinning.{back_push, back_skip}
use Rattle.rate_layers.proofs.thin.thin.Goals as goal
use Rattle.rate_layers.proofs.thin.thin.Goals.{then-not-is_beaten+in_ok-push, else-not-is_beaten}

no_entry : Entry
no_entry = record { index = 0; size = 0; error = 0 }

pub loop-k-preserved : goal.loop-k-preserved
unfolding no_entry
loop-k-preserved c =
    let xs = c.args.entries.now in
    let k = c.loop-k.k in
    let i = c.loop-k.invariant in
    elim c.if-not-is_beaten.branch [
      | then-not-is_beaten+in_ok-push w ↦ rw (w.few-is, w.in_ok-push.ensures.items) (record {
        thinned = back_push xs k no_entry c.loop-k.few.items c.loop-k-test.true i.thinned;
        entries = All-push IsEntry c.loop-k.few.items (get_or xs (length xs - 1 - k) no_entry) i.entries (c.requires.entries (length xs - 1 - k) no_entry (omega (arith, c.loop-k-test.true)));
      })
      | else-not-is_beaten w ↦ rw w.few-is (record {
        thinned = back_skip xs k no_entry c.loop-k.few.items c.loop-k-test.true (subst (λ l. (y : Entry) × Contains l y × (y.size ≤ (get_or xs (length xs - 1 - k) no_entry).size) × (y.error ≤ (get_or xs (length xs - 1 - k) no_entry).error)) c.deref.ensures.value (w.if-not-is_beaten.ensures refl)) i.thinned;
        entries = i.entries;
      })
    ]
