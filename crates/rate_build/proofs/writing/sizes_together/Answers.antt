use Rattle.std.proofs.Common.{sum, ap, ◌∙◌, arith}
use Rattle.std.proofs.lemmas.List.{take_all}
use Rattle.std.proofs.lemmas.Slice.Zip.{AllZip-long}
use Rattle.rate_build.specs.Chosen.{Reaches, sizes_in}
use Rattle.rate_build.proofs.Straight.{reach_item, size_item, size_within, sizes_number, sum_more}
use Rattle.rate_build.proofs.writing.sizes_together.Goals as goal

pub bounds-choice-i : goal.bounds-choice-i
bounds-choice-i c = omega (arith, c.loop-i-test.true, AllZip-long Reaches c.args.tables.now c.args.choice.now c.requires.each)

pub size_at-requires : goal.size_at-requires
size_at-requires c = reach_item c.args.tables.now c.args.choice.now c.loop-i.i _ c.index-tables-i.result c.requires.each c.loop-i-test.true c.index-tables-i.is

pub loop-i-preserved : goal.loop-i-preserved
loop-i-preserved c =
    let tables = c.args.tables.now in
    let choice = c.args.choice.now in
    let n = c.loop-i.i in
    let inv = c.loop-i.invariant in
    let item = size_item tables choice n _ c.index-tables-i.result c.requires.each c.loop-i-test.true c.index-tables-i.is in
    let more = sum_more (sizes_in tables choice) n _ (size_within tables choice n c.requires.each c.loop-i-test.true) item in
    record {
      value = omega (arith, inv.value, more, c.size_at.ensures.value, c.from-size.ensures);
      short = omega (arith, inv.short, c.size_at.ensures.short, c.from-size.ensures);
    }

pub returns-clause-value : goal.returns-clause-value
returns-clause-value c =
    let tables = c.args.tables.now in
    let choice = c.args.choice.now in
    c.loop-i.invariant.value ∙ ap sum (take_all c.loop-i.i (sizes_in tables choice) (omega (arith, c.loop-i-test.false, sizes_number tables choice c.requires.each)))
