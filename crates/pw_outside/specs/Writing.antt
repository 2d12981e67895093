-- What a writing call does to a sink: the sink took all of the call's bytes, or a prefix of them.
use Rattle.std.specs.Prelude.{◌≡◌, ℕ, ◌<◌, List, length, take, Option}
use Rattle.std.specs.Io.KnownBytes.{Appends}
use Rattle.pw_outside.specs.Ports.{taken_more}

-- a sink's state: the bytes that it holds, where they are visible, and the number of bytes taken
pub record SinkState : Type 0 where
  pub held : Option (List ℕ)
  pub taken : ℕ

abbrev pub sink_state : Option (List ℕ) → ℕ → SinkState
sink_state held taken = record { held = held; taken = taken }

-- the sink took exactly these bytes
pub record Puts (before after : SinkState) (bytes : List ℕ) : Type 0 where
  pub bytes_held : Appends before.held after.held bytes
  pub count : after.taken ≡ taken_more before.taken (length bytes)

-- the sink took a prefix of these bytes, perhaps all of them
pub record PutsFront (before after : SinkState) (bytes : List ℕ) : Type 0 where
  pub out : ℕ
  pub front : Puts before after (take out bytes)

-- the sink took a prefix of these bytes, and not all of them
pub record PutsPart (before after : SinkState) (bytes : List ℕ) : Type 0 where
  pub out : ℕ
  pub short : out < length bytes
  pub front : Puts before after (take out bytes)

-- the sink took some bytes: what it holds is extended by them
abbrev pub Extends : SinkState → SinkState → Type 0
Extends before after = (bytes : List ℕ) × Puts before after bytes
