use Rattle.std.proofs.Common.{refl, get_or, ◌∙◌, arith}
use Rattle.std.specs.Int.{w16, to_be_bytes}
use Rattle.std.proofs.lemmas.Slice.Zip.{AllZip-long}
use Rattle.pw_outside.specs.Writing.{sink_state}
use Rattle.pw_outside.proofs.Puts.{puts_none}
use Rattle.pw_outside.proofs.Results.{any_err}
use Rattle.pr_frame.proofs.PutSteps.{list-more, list-front, list-all}
use Rattle.rate_build.specs.Chosen.{Reaches, sizes_in, size_in}
use Rattle.rate_build.proofs.Straight.{reach_item, size_item, size_within, sizes_number}
use Rattle.rate_build.proofs.writing.write_sizes.Goals as goal

pub loop-i-init : goal.loop-i-init
loop-i-init g c = record {
  puts = puts_none (sink_state (g.K.ByteSink.held c.args.sink.now) (g.K.ByteSink.taken c.args.sink.now)) (g.met.K.ByteSink.counts c.args.sink.now).1;
  settled = omega arith;
  cause = refl;
}

pub bounds-choice-i : goal.bounds-choice-i
bounds-choice-i g c = omega (arith, c.loop-i-test.true, AllZip-long Reaches c.args.tables.now c.args.choice.now c.requires.each)

pub write_size-requires : goal.write_size-requires
write_size-requires g c = reach_item c.args.tables.now c.args.choice.now c.loop-i.i _ c.index-tables-i.result c.requires.each c.loop-i-test.true c.index-tables-i.is

pub returns-in_err-write_size-clause-err : goal.returns-in_err-write_size-clause-err
returns-in_err-write_size-clause-err g c =
    let tables = c.args.tables.now in
    let choice = c.args.choice.now in
    let n = c.loop-i.i in
    let item = size_item tables choice n _ c.index-tables-i.result c.requires.each c.loop-i-test.true c.index-tables-i.is in
    any_err c.from_residual.result
    (list-front (to_be_bytes w16) (sizes_in tables choice) n (size_in c.index-tables-i.result (get_or choice n 0)) (size_within tables choice n c.requires.each c.loop-i-test.true) item c.loop-i.invariant.puts c.in_err-write_size.ensures.err)

pub loop-i-preserved : goal.loop-i-preserved
loop-i-preserved g c =
    let tables = c.args.tables.now in
    let choice = c.args.choice.now in
    let n = c.loop-i.i in
    let i = c.loop-i.invariant in
    let item = size_item tables choice n _ c.index-tables-i.result c.requires.each c.loop-i-test.true c.index-tables-i.is in
    record {
      puts = list-more (to_be_bytes w16) (sizes_in tables choice) n (size_in c.index-tables-i.result (get_or choice n 0)) (size_within tables choice n c.requires.each c.loop-i-test.true) item i.puts c.in_ok-write_size.ensures.ok;
      settled = omega (arith, i.settled, c.in_ok-write_size.ensures.settled);
      cause = c.in_ok-write_size.ensures.cause.kept ∙ i.cause;
    }

pub returns-clause-ok : goal.returns-clause-ok
returns-clause-ok g c =
    let tables = c.args.tables.now in
    let choice = c.args.choice.now in
    list-all (to_be_bytes w16) (sizes_in tables choice) c.loop-i.i (omega (arith, c.loop-i-test.false, sizes_number tables choice c.requires.each)) c.loop-i.invariant.puts
