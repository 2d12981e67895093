use Rattle.std.proofs.Common.{Vec, Global, ◌+◌, [], ◌∷◌, ◌++◌, sym, ap, subst, take, get_or}
use Rattle.std.proofs.lemmas.List.{take_more, take_all}
use Rattle.rate_table.specs.declared.entry.Entry.{Entry}
use Rattle.rate_table.specs.declared.entry.Pair.{Pair}
use Rattle.rate_layers.specs.inner.Bound.{IsNext}
use Rattle.rate_layers.specs.inner.Merge.{Merged}
use Rattle.rate_layers.proofs.Merges.{next_none, next_push}
use Rattle.rate_layers.proofs.merge.merge_all.Goals as goal

no_entry : Entry
no_entry = record { index = 0; size = 0; error = 0 }

pub loop-x-init : goal.loop-x-init
loop-x-init c = subst (λ n. IsNext c.args.bound.now c.args.layer.now [] n) (sym c.clear.ensures.items) (next_none c.args.bound.now c.args.layer.now)

pub loop-x-preserved : goal.loop-x-preserved
unfolding no_entry
loop-x-preserved c =
    let b = c.args.bound.now in
    let layer = c.args.layer.now in
    let x = get_or c.args.slice.now c.loop-x.x-index no_entry in
    let new = c.merge_one.new.out.items in
    let merged : Merged b c.loop-x.next.items layer x new = subst (λ o. Merged b o layer x new) c.deref.ensures.value (c.in_ok-merge_one.ensures) in
    let more : IsNext b layer (take c.loop-x.x-index c.args.slice.now ++ x ∷ []) new = next_push b layer (take c.loop-x.x-index c.args.slice.now) x c.loop-x.next.items new c.loop-x.invariant merged in
    subst (λ n. IsNext b layer (take (c.loop-x.x-index + 1) c.args.slice.now) n) (sym (ap (λ (v : Vec Pair Global). v.items) c.swap.ensures.x_after))
    (subst (λ xs. IsNext b layer xs new) (sym (take_more c.args.slice.now c.loop-x.x-index no_entry c.loop-x-test.true)) more)

pub returns : goal.returns
returns c = subst (λ xs. IsNext c.args.bound.now c.args.layer.now xs c.loop-x.next.items) (take_all c.loop-x.x-index c.args.slice.now c.loop-x-test.false) c.loop-x.invariant
