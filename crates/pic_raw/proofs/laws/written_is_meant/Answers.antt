use Rattle.std.proofs.Common.{refl, arith}
use Rattle.pic_raw.specs.Raw.{started}
use Rattle.pic_raw.specs.Any.{pictures_of}
use Rattle.pw_outside.specs.Reading.{bind}
use Rattle.pic_raw.proofs.Again.{pictures-again}
use Rattle.pic_raw.proofs.laws.written_is_meant.Goals as goal

pub returns : goal.returns
unfolding pictures_of bind
returns c = λ h ps few whole. rw (pictures-again (started h) ps (omega (arith, few)) whole) refl
