use Rattle.std.proofs.Common.{◌≡◌, ◌-◌, ◌/◌, sym, ap, ◌∙◌, subst, arith}
use Rattle.std.specs.List.{All}
use Rattle.std.proofs.lemmas.Bool.{false≢true}
use Rattle.rate_table.specs.Table.{Table, IsSliceTable, IsChoice}
use Rattle.rate_least.specs.Held.{IsGreatestMultiplier}
use Rattle.rate_least.proofs.Bends.{first_bend, none_higher}
use Rattle.rate_least.proofs.multiplier.greatest_multiplier.Goals as goal

pub loop-low-init : goal.loop-low-init
loop-low-init c =
    let slices = c.as_slice-slices.result.now in
    let same : slices ≡ c.args.table.now.slices = c.as_slice-slices.ensures.slices ∙ ap (λ (t : Table). t.slices) c.table.view_is in
    let ok : All IsSliceTable slices = subst (λ l. All IsSliceTable l) (sym c.as_slice-slices.ensures.slices) c.as_slice-slices.ensures.each in
    let d = c.requires.meets in
    record {
      ends = omega arith;
      limit = omega arith;
      meets = first_bend slices c.args.cap ok d.0 (subst (λ l. IsChoice l d.0) (sym same) d.1) d.2;
      greatest = λ n l h. l;
    }

pub loop-low-preserved : goal.loop-low-preserved
loop-low-preserved c =
    let i = c.loop-low.invariant in
    let slices = c.as_slice-slices.result.now in
    let ok : All IsSliceTable slices = subst (λ l. All IsSliceTable l) (sym c.as_slice-slices.ensures.slices) c.as_slice-slices.ensures.each in
    record {
      ends = omega arith;
      limit = omega (arith, i.limit);
      meets = i.meets;
      greatest = λ n l h. let a = none_higher slices c.args.cap (c.loop-low.high - (c.loop-low.high - c.loop-low.low) / 2) ok (λ q. false≢true (c.if-bend_meets.ensures.1 q)) n h in omega (arith, a);
    }

pub returns : goal.returns
returns c =
    let i = c.loop-low.invariant in
    let slices = c.as_slice-slices.result.now in
    let same : slices ≡ c.args.table.now.slices = c.as_slice-slices.ensures.slices ∙ ap (λ (t : Table). t.slices) c.table.view_is in
    subst (λ l. IsGreatestMultiplier l c.args.cap c.loop-low.low) same (record {
      meets = i.meets;
      limit = omega (arith, i.ends, i.limit);
      greatest = λ n l h. omega (arith, c.loop-low-test.false, i.greatest n l h);
    })
