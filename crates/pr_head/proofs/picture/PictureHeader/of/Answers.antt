use Rattle.pr_head.specs.Picture.{picture_of}
use Rattle.pr_head.proofs.picture.PictureHeader.of.Goals as goal

pub returns-clause-value : goal.returns-clause-value
unfolding picture_of
returns-clause-value c = cc
