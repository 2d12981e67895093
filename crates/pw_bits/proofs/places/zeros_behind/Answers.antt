use Rattle.pw_bits.proofs.PlacesLemmas.{byte_zeros, byte_one}
use Rattle.pw_bits.proofs.places.zeros_behind.Goals as goal

pub returns-clause-zeros : goal.returns-clause-zeros
returns-clause-zeros c = byte_zeros c.args.byte c.ranges.byte.fits

pub returns-clause-one : goal.returns-clause-one
returns-clause-one c = byte_one c.args.byte c.requires c.ranges.byte.fits
