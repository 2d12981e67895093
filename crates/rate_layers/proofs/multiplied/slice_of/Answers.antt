use Rattle.std.proofs.Common.{◌≡◌, ◌+◌, ◌-◌, ◌<◌, [], ◌∷◌, ◌++◌, get_or, map, take, sym, ap, ◌∙◌, arith}
use Rattle.std.proofs.lemmas.List.{get_or_default, map_more}
use Rattle.std.proofs.lemmas.List.Elements.{All-push}
use Rattle.rate_table.specs.declared.entry.Entry.{Entry}
use Rattle.rate_table.specs.Table.{IsEntry}
use Rattle.rate_table.specs.Body.{last_index}
use Rattle.rate_table.proofs.Behind.{last_index-behind, slice-behind}
use Rattle.rate_layers.specs.inner.Multiplied.{counted}
use Rattle.rate_layers.proofs.Onward.{indices_at}
use Rattle.rate_layers.proofs.multiplied.slice_of.Goals as goal

no_entry : Entry
no_entry = record { index = 0; size = 0; error = 0 }

pub loop-i-init : goal.loop-i-init
unfolding no_entry
loop-i-init c =
    let xs = c.args.entries.now in
    let e = c.entry_of.result in
    rw c.one-slice.ensures (record {
      from = omega arith;
      counted = ap (λ x. x ∷ []) c.entry_of.ensures.counted ∙ sym (map_more (counted c.args.times) xs 0 no_entry c.requires.some);
      slice = record { some = omega arith; rises = tt; limits = All-push IsEntry [] e (λ k d l. absurd (omega arith)) c.entry_of.ensures.entry };
      last = λ d. ap (λ (x : Entry). x.index) c.entry_of.ensures.counted ∙ ap (λ (x : Entry). x.index) (get_or_default xs 0 no_entry d c.requires.some);
    })

pub add-requires-clause-above : goal.add-requires-clause-above
unfolding no_entry
add-requires-clause-above c =
    let i = c.loop-i.i in
    omega (arith, c.loop-i.invariant.from, c.loop-i.invariant.last no_entry, ap (λ (x : Entry). x.index) c.entry_of-in-loop-i.ensures.counted, indices_at c.args.entries.now (i - 1) i no_entry c.requires.rises (omega (arith, c.loop-i.invariant.from)) c.loop-i-test.true)

pub loop-i-preserved : goal.loop-i-preserved
unfolding no_entry
loop-i-preserved c =
    let i = c.loop-i.i in
    let xs = c.args.entries.now in
    let e = c.entry_of-in-loop-i.result in
    let above : last_index c.loop-i.slice < e.index = omega (arith, c.loop-i.invariant.from, c.loop-i.invariant.last no_entry, ap (λ (x : Entry). x.index) c.entry_of-in-loop-i.ensures.counted, indices_at xs (i - 1) i no_entry c.requires.rises (omega (arith, c.loop-i.invariant.from)) c.loop-i-test.true) in
    let same : i ≡ i + 1 - 1 = omega arith in
    rw c.add.ensures (record {
      from = omega arith;
      counted = ap (λ l. l ++ e ∷ []) c.loop-i.invariant.counted ∙ ap (λ x. map (counted c.args.times) (take i xs) ++ x ∷ []) c.entry_of-in-loop-i.ensures.counted ∙ sym (map_more (counted c.args.times) xs i no_entry c.loop-i-test.true);
      slice = slice-behind c.loop-i.slice e c.loop-i.invariant.slice c.entry_of-in-loop-i.ensures.entry above;
      last = λ d. last_index-behind c.loop-i.slice e ∙ ap (λ (x : Entry). x.index) c.entry_of-in-loop-i.ensures.counted ∙ ap (λ (x : Entry). x.index) (get_or_default xs i no_entry d c.loop-i-test.true ∙ ap (λ j. get_or xs j d) same);
    })
