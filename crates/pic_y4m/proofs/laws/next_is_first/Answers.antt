use Rattle.std.proofs.Common.{◌≡◌, suc, ◌+◌, ◌-◌, refl, arith}
use Rattle.pic_y4m.specs.declared.head.TheConstants.{MAX_FRAMES}
use Rattle.pic_y4m.specs.Frames.{pictures_left, pictures_in}
use Rattle.pic_y4m.proofs.laws.next_is_first.Goals as goal

pub returns : goal.returns
unfolding pictures_left pictures_in
returns c = λ r s few.
    let one : MAX_FRAMES + 1 - r.frames ≡ suc (MAX_FRAMES + 1 - (r.frames + 1)) = omega arith in
    rw one refl
