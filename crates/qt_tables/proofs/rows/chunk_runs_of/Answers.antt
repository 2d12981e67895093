use Rattle.std.proofs.Common.{rules, arith, length-append, [], ◌∷◌}
use Rattle.pw_outside.specs.Reading.{bytes_of}
use Rattle.qt_tables.specs.Tables.{chunk_run_at}
use Rattle.qt_tables.proofs.Loops.{rows-read}
use Rattle.qt_tables.proofs.rows.chunk_runs_of.Goals as goal

pub rows-preserved : goal.rows-preserved
rows-preserved g c =
    let here = rw c.rows.invariant.bytes at c.in_ok-row.ensures.value in
    rw c.in_ok-push.ensures.items (record {
      count = omega (arith, length-append c.rows.found.items (c.in_ok-row.row ∷ []));
      value = λ h. rows-read (chunk_run_at (bytes_of (g.M.ByteStore.bytes c.args.store.now))) c.rows.found.items c.args.from 12 c.args.count c.rows.i c.in_ok-row.row _ c.rows-test.true (here h) (c.rows.invariant.value h);
      end = search rules;
      shows = search rules;
      bytes = search rules;
      cause = search rules;
    })
