use Rattle.pw_bits.proofs.PlacesLemmas.{eight_bits}
use Rattle.pw_bits.proofs.places.eight.Goals as goal

pub returns : goal.returns
returns c = eight_bits c.args.bytes.now c.args.from c.from_be_bytes.result c.requires (λ i. (c.type_inv.bytes i).fits) c.from_be_bytes.ensures
