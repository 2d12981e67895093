use Rattle.std.proofs.Common.{[], ◌∷◌, ◌++◌, sym, subst, take, arith}
use Rattle.std.proofs.lemmas.List.{take_more}
use Rattle.std.proofs.lemmas.List.Elements.{All-contains}
use Rattle.rate_layers.proofs.Grown.{sum_push}
use Rattle.rate_table.specs.declared.entry.Entry.{Entry}
use Rattle.rate_table.specs.Table.{IsEntry}
use Rattle.rate_least.specs.Held.{IsBent, IsBend}
use Rattle.rate_least.proofs.Bends.{bend_push}
use Rattle.rate_least.proofs.multiplier.sums_of.Goals as goal

pub loop-slice-preserved : goal.loop-slice-preserved
loop-slice-preserved c =
    let m = c.args.multiplier in
    let slices = c.args.slices.now in
    let k = c.loop-slice.slice-index in
    let s = c.slice-item.result in
    let x = c.bent-x.result in
    let i = c.loop-slice.invariant.bend in
    let p : IsBent m s x = subst (λ l. IsBent m l x) c.entries.ensures.entries c.bent-x.ensures in
    let entry : IsEntry x = All-contains IsEntry s x c.entries.ensures.slice.limits p.in_slice in
    let q = subst (λ l. IsBend m (take k slices ++ l ∷ []) (i.0 ++ x ∷ [])) c.slice-item.is (bend_push m (take k slices) s i.0 x i.1 p) in
    record {
      sizes = omega (arith, c.loop-slice.invariant.sizes);
      errors = omega (arith, c.loop-slice.invariant.errors, entry.error);
      bend = (
        i.0 ++ x ∷ [],
        subst (λ l. IsBend m l (i.0 ++ x ∷ [])) (sym (take_more slices k s c.loop-slice-test.true)) q,
        omega (arith, sum_push (λ (x : Entry). x.size) i.0 x, i.2),
        omega (arith, sum_push (λ (x : Entry). x.error) i.0 x, i.3),
      );
    }
