use Rattle.std.proofs.Common.{◌≡◌, ◌+◌, ◌-◌, ◌/◌, ◌≤◌, List, sym, ap, ◌∙◌, subst, arith}
use Rattle.std.specs.List.{All}
use Rattle.std.proofs.lemmas.Bool.{false≢true}
use Rattle.rate_table.specs.declared.entry.Entry.{Entry}
use Rattle.rate_table.specs.Table.{Table, IsSliceTable, IsChoice, size_of}
use Rattle.rate_layers.specs.Multiplier.{ArePicks}
use Rattle.rate_layers.proofs.Picks.{top_picks, none_lower, multiplier_end}
use Rattle.rate_layers.proofs.multiplier.least_multiplier.Goals as goal

pub loop-low-init : goal.loop-low-init
loop-low-init c =
    let slices = c.as_slice-slices.result.now in
    let same : slices ≡ c.args.table.now.slices = c.as_slice-slices.ensures.slices ∙ ap (λ (t : Table). t.slices) c.table.view_is in
    let ok : All IsSliceTable slices = subst (λ l. All IsSliceTable l) (sym c.as_slice-slices.ensures.slices) c.as_slice-slices.ensures.each in
    let budget = ap (λ (t : Table). t.budget) c.table.view_is in
    let fixed = ap (λ (t : Table). t.fixed) c.table.view_is in
    let d = c.requires.fits in
    record {
      ends = omega arith;
      limit = omega arith;
      fits = top_picks slices (c.from.result - c.from-2.result) ok d.0 (subst (λ l. IsChoice l d.0) (sym same) d.1) (omega (arith, budget, fixed, c.from.ensures, c.from-2.ensures, d.2));
      least = λ n d h f. omega arith;
    }

pub loop-low-preserved : goal.loop-low-preserved
loop-low-preserved c =
    let i = c.loop-low.invariant in
    let slices = c.as_slice-slices.result.now in
    let ok : All IsSliceTable slices = subst (λ l. All IsSliceTable l) (sym c.as_slice-slices.ensures.slices) c.as_slice-slices.ensures.each in
    record {
      ends = omega arith;
      limit = i.limit;
      fits = i.fits;
      least = none_lower slices (c.from.result - c.from-2.result) (c.loop-low.low + (c.loop-low.high - c.loop-low.low) / 2) ok (λ q. false≢true (c.if-picks_fit.ensures.1 q));
    }

pub returns-clause-multiplier : goal.returns-clause-multiplier
returns-clause-multiplier c =
    let t = c.args.table.now in
    let i = c.loop-low.invariant in
    let slices = c.as_slice-slices.result.now in
    let same : slices ≡ t.slices = c.as_slice-slices.ensures.slices ∙ ap (λ (t : Table). t.slices) c.table.view_is in
    let budget = ap (λ (t : Table). t.budget) c.table.view_is in
    let fixed = ap (λ (t : Table). t.fixed) c.table.view_is in
    let room = c.from.result - c.from-2.result in
    let m = c.loop-low.high in
    multiplier_end t room m (omega (arith, budget, fixed, c.from.ensures, c.from-2.ensures, c.requires.fits.2))
    (subst (λ l. (c : List Entry) × ArePicks m l c × (size_of c ≤ room)) same i.fits)
    (λ n d h f. omega (arith, i.least n d (subst (λ l. ArePicks n l d) (sym same) h) f))
