-- What writing bits does to a sink and to the bits that wait for a whole byte (our own).
use Rattle.std.specs.Prelude.{◌≡◌, ℕ, Bool, List, ◌++◌, length, Option}
use Rattle.std.specs.Io.KnownBytes.{Appends}
use Rattle.pw_outside.specs.Ports.{taken_more}
use Rattle.pw_bits.specs.Bits.{whole, left}

-- a writer of bits: the bits that fill no byte yet, and whether a call failed
pub record Writer : Type 0 where
  pub pending : List Bool
  pub spoiled : Bool

-- what was written so far: the bytes that the sink holds, where they are visible, the number of bytes taken, and
-- the pending bits
pub record Written : Type 0 where
  pub held : Option (List ℕ)
  pub taken : ℕ
  pub pending : List Bool

abbrev pub written : Option (List ℕ) → ℕ → List Bool → Written
written held taken pending = record { held = held; taken = taken; pending = pending }

-- Bits were put after the pending ones: the sink took the bytes that these fill together, and the others are
-- pending.
pub record Writes (before after : Written) (l : List Bool) : Type 0 where
  pub bytes : Appends before.held after.held (whole (before.pending ++ l))
  pub taken : after.taken ≡ taken_more before.taken (length (whole (before.pending ++ l)))
  pub pending : after.pending ≡ left (before.pending ++ l)

-- The sink took only a prefix of these bytes.
pub record Begins (before after : Written) (l : List Bool) : Type 0 where
  pub front : List ℕ
  pub rest : List ℕ
  pub parts : front ++ rest ≡ whole (before.pending ++ l)
  pub bytes : Appends before.held after.held front
  pub taken : after.taken ≡ taken_more before.taken (length front)
