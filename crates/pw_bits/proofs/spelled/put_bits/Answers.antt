use Rattle.pw_bits.proofs.SpelledLemmas.{joined_fits, put_spelled}
use Rattle.pw_bits.proofs.spelled.put_bits.Goals as goal

pub overflow_add-all : goal.overflow_add-all
overflow_add-all c = record { fits = joined_fits c.args.cursor.low c.args.cursor.count c.args.value c.args.n c.args.cursor.fits c.args.cursor.few c.requires.few.0 c.requires.few.1 c.requires.fits }

pub returns-clause-bits : goal.returns-clause-bits
returns-clause-bits c =
    put_spelled c.args.cursor.low c.args.cursor.count c.args.value c.args.n c.args.cursor.fits c.args.cursor.few c.requires.few.0 c.requires.few.1 c.requires.fits c.args.out.now c.store.new.out c.args.cursor.at c.store.ensures
