use Rattle.std.proofs.Common.{rules, arith, length-append, [], ◌∷◌}
use Rattle.pw_outside.specs.Reading.{bytes_of}
use Rattle.std.specs.Int.{w32}
use Rattle.qt_atoms.specs.Atoms.{number_in}
use Rattle.qt_tables.proofs.Loops.{rows-read}
use Rattle.qt_tables.proofs.rows.numbers_of.Goals as goal

pub rows-preserved : goal.rows-preserved
rows-preserved g c =
    let here = rw c.rows.invariant.bytes at c.in_ok-row.ensures.value in
    rw c.in_ok-push.ensures.items (record {
      count = omega (arith, length-append c.rows.found.items (c.in_ok-row.row ∷ []));
      value = λ h. rows-read (number_in w32 (bytes_of (g.M.ByteStore.bytes c.args.store.now))) c.rows.found.items c.args.from 4 c.args.count c.rows.i c.in_ok-row.row _ c.rows-test.true (here h) (c.rows.invariant.value h);
      end = search rules;
      shows = search rules;
      bytes = search rules;
      cause = search rules;
    })
