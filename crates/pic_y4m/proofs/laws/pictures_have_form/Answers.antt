use Rattle.pic_y4m.proofs.Forms.{pictured-form}
use Rattle.pic_y4m.proofs.laws.pictures_have_form.Goals as goal

pub returns : goal.returns
returns c = pictured-form
