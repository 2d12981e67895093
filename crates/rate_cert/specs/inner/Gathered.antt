-- Bytes that are buffered before a sink takes them.
use Rattle.std.specs.Prelude.{◌≡◌, ℕ, List, ◌++◌}
use Rattle.pw_outside.specs.Writing.{SinkState, Puts}

-- The sink took a prefix of the buffered bytes and these bytes, and the rest of them is buffered.
pub record Gathers (before after : SinkState) (old new bytes : List ℕ) : Type 0 where
  pub gone : List ℕ
  pub puts : Puts before after gone
  pub whole : gone ++ new ≡ old ++ bytes
