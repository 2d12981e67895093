use Rattle.pic_synth.specs.Pictures.{synthetic_head, synthetic_pictures}
use Rattle.pic_synth.proofs.Wholes.{pictures-whole, pictures-few}
use Rattle.pic_synth.proofs.laws.synthetic_is_meant.Goals as goal

pub returns : goal.returns
returns c = λ s ok. c.written_is_meant.ensures (synthetic_head s) (synthetic_pictures s) (pictures-few s ok) (pictures-whole s ok)
