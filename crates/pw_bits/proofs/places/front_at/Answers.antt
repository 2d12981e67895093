use Rattle.pw_bits.specs.Bits.{bits}
use Rattle.pw_bits.proofs.PlacesLemmas.{window_front}
use Rattle.pw_bits.proofs.places.front_at.Goals as goal

pub returns : goal.returns
returns c = record { front = λ k h. window_front (bits c.args.padded.now) c.args.at c.eight.result k c.eight.ensures h }
