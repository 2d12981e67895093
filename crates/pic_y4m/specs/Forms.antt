-- Laws of the pictures of an input: their form and their number.
use Rattle.std.specs.Prelude.{◌≡◌, ℕ, ◌+◌, ◌≤◌, List, length, Ok}
use Rattle.std.specs.List.{All}
use Rattle.pw_outside.specs.Reading.{Rest}
use Rattle.pic_y4m.specs.declared.head.Head.{Head}
use Rattle.pic_y4m.specs.declared.head.TheConstants.{MAX_FRAMES}
use Rattle.pic_y4m.specs.HeadLine.{IsStream}
use Rattle.pic_y4m.specs.Frames.{State, Pictures, HasForm, pictures_left, pictured}

-- The pictures that remain for a reader have its head's form; with those read before they are at most `MAX_FRAMES`.
abbrev pub LeftHaveForm : Type 0
LeftHaveForm = (r : State) (s : Rest) → IsStream r.form → r.frames ≤ MAX_FRAMES
    → All (HasForm r.form.head) (pictures_left r s).pictures × (r.frames + length (pictures_left r s).pictures ≤ MAX_FRAMES)

-- The pictures of an input have its head's form, and are at most `MAX_FRAMES`.
abbrev pub PicturesHaveForm : Type 0
PicturesHaveForm = (bytes : List ℕ) (head : Head) (ps : Pictures) → pictured bytes ≡ Ok (head, ps) → All (HasForm head) ps.pictures × (length ps.pictures ≤ MAX_FRAMES)
