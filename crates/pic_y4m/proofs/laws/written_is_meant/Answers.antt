use Rattle.std.proofs.Common.{length, false, refl, arith}
use Rattle.pic_y4m.specs.Frames.{pictured, started}
use Rattle.pic_y4m.specs.Writing.{head_bytes, frames_bytes}
use Rattle.pw_outside.specs.Reading.{bind}
use Rattle.pic_y4m.proofs.Again.{pictures-again}
use Rattle.pic_y4m.proofs.HeadAgain.{head-again}
use Rattle.pic_y4m.proofs.laws.written_is_meant.Goals as goal

pub returns : goal.returns
unfolding pictured bind
returns c = λ h ps w alpha few whole.
    let first = head-again h (frames_bytes h.depth ps) w alpha in
    let others = pictures-again (started (record { head = h; shares_rows = false }) (length (head_bytes h))) ps refl (omega arith) whole in
    rw (first, others) refl
