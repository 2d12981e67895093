-- Which outcomes an iteration of the loop has. Our own definitions.
use Rattle.std.specs.Prelude.{◌≡◌, ℕ, ◌≤◌, ◌<◌, Bool, true, false, Result, Ok, Err}
use Rattle.pic_y4m.specs.declared.head.TheConstants.{MAX_FRAMES}
use Rattle.pic_raw.specs.declared.any.AnyReader.{AnyReader}
use Rattle.pic_raw.specs.Any.{head_of, frames_of}
use Rattle.run_encode.specs.declared.turn.Turn.{Turn}
use Rattle.run_encode.specs.declared.turn.Turn.TheVariants as turns
use Rattle.run_encode.specs.declared.end.EncodeEnd.{EncodeEnd}
use Rattle.run_encode.specs.Encoding.{is_done, is_read_fault, is_write_fault}
use Rattle.run_encode.specs.inner.Steps.{Counts}

-- whether a whole group was written, and the loop continues
abbrev pub goes_on : Turn → Bool
goes_on turns.Whole = true
goes_on turns.Last = false
goes_on turns.End = false
goes_on (turns.Ended _) = false

-- whether the pictures ended
abbrev pub is_last : Turn → Bool
is_last turns.Whole = false
is_last turns.Last = true
is_last turns.End = true
is_last (turns.Ended _) = false

abbrev pub is_read_turn : Turn → Bool
is_read_turn (turns.Ended end) = is_read_fault end
is_read_turn turns.Whole = false
is_read_turn turns.Last = false
is_read_turn turns.End = false

abbrev pub is_write_turn : Turn → Bool
is_write_turn (turns.Ended end) = is_write_fault end
is_write_turn turns.Whole = false
is_write_turn turns.Last = false
is_write_turn turns.End = false

abbrev pub is_done_turn : Turn → Bool
is_done_turn (turns.Ended end) = is_done end
is_done_turn turns.Whole = false
is_done_turn turns.Last = false
is_done_turn turns.End = false

-- the same of an iteration's result
abbrev pub is_done_end : {X : Type 0} → Result X EncodeEnd → Bool
is_done_end (Err end) = is_done end
is_done_end (Ok _) = false

abbrev pub is_read_end : {X : Type 0} → Result X EncodeEnd → Bool
is_read_end (Err end) = is_read_fault end
is_read_end (Ok _) = false

abbrev pub is_write_end : {X : Type 0} → Result X EncodeEnd → Bool
is_write_end (Err end) = is_write_fault end
is_write_end (Ok _) = false

-- At least one picture was read, and the counts are those of the frames.
pub record Moves (old new : AnyReader) (now : Counts) (frames : ℕ) : Type 0 where
  pub more : frames_of old < frames_of new
  pub few : frames_of new ≤ MAX_FRAMES
  pub head : head_of new ≡ head_of old
  pub frames_are : frames ≡ frames_of new
  pub records_few : now.records ≤ frames_of new
