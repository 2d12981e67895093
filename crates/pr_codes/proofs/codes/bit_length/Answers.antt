use Rattle.pr_codes.proofs.WordsLemmas.{length_by_leading}
use Rattle.pr_codes.proofs.codes.bit_length.Goals as goal

pub returns : goal.returns
returns c = let l = length_by_leading c.args.value c.requires c.ranges.value.fits in record { low = l.1; high = l.2; size = (l.0, l.3) }
