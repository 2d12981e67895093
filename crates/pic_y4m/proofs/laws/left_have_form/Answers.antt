use Rattle.std.proofs.Common.{◌+◌, ◌-◌}
use Rattle.pic_y4m.specs.declared.head.TheConstants.{MAX_FRAMES}
use Rattle.pic_y4m.specs.Frames.{pictures_left}
use Rattle.pic_y4m.proofs.Forms.{left-form}
use Rattle.pic_y4m.proofs.laws.left_have_form.Goals as goal

pub returns : goal.returns
unfolding pictures_left
returns c = λ r s w few. left-form (MAX_FRAMES + 1 - r.frames) r s w.alpha few
