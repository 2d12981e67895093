-- A picture, written plane by plane.
use Rattle.std.proofs.Common.{◌≡◌, ℕ, List, ◌++◌}
use Rattle.pw_planes.specs.declared.picture.Picture.{Picture}
use Rattle.pic_y4m.specs.declared.samples.SampleSize.TheVariants.{Pair}
use Rattle.pic_y4m.specs.Samples.{plane_bytes}
use Rattle.pic_raw.specs.Writing.{alpha_bytes, raw_bytes}

pub picture-whole : (p : Picture) (y cb cr : List ℕ) → y ≡ p.y.samples → cb ≡ p.cb.samples → cr ≡ p.cr.samples
    → plane_bytes Pair y ++ plane_bytes Pair cb ++ plane_bytes Pair cr ++ alpha_bytes p.alpha ≡ raw_bytes p
unfolding raw_bytes
picture-whole p y cb cr y_is cb_is cr_is = λ j. plane_bytes Pair (y_is j) ++ plane_bytes Pair (cb_is j) ++ plane_bytes Pair (cr_is j) ++ alpha_bytes p.alpha
