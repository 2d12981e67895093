-- The contents and counts of the ports of a run's parts.
use Rattle.std.proofs.Common.{arith, le_refl}
use Rattle.std.specs.Prelude.{ℕ, ◌≤◌, min, List, drop, length, Option, None, Some}
use Rattle.pw_outside.specs.Ports.{last, IsBound}
use Rattle.run_synth.specs.declared.ports.Input.{Input}
use Rattle.run_synth.specs.declared.ports.Input.TheVariants as inputs
use Rattle.run_synth.specs.declared.ports.Output.{Output}
use Rattle.run_synth.specs.declared.ports.Output.TheVariants as outputs

-- the bytes that are left
abbrev pub left_in : Input → Option (List ℕ)
left_in (inputs.Synthetic bytes) = Some bytes
left_in (inputs.Held m) = Some (drop m.at m.bytes.items)

-- their number
abbrev pub most_in : Input → Option ℕ
most_in (inputs.Synthetic bytes) = Some (length bytes)
most_in (inputs.Held m) = Some (length (drop m.at m.bytes.items))

pub most_bound : (i : Input) → IsBound (most_in i) (left_in i)
most_bound (inputs.Synthetic bytes) = le_refl (length bytes)
most_bound (inputs.Held m) = le_refl (length (drop m.at m.bytes.items))

-- the stored bytes
abbrev pub held_in : Output → Option (List ℕ)
held_in (outputs.Held m) = Some m.bytes.items
held_in (outputs.Counted n) = None

-- the number of bytes taken, all of which are flushed
abbrev pub taken_in : Output → ℕ
taken_in (outputs.Held m) = min (length m.bytes.items) last
taken_in (outputs.Counted n) = min n last

abbrev pub faults_in : Output → ℕ
faults_in (outputs.Held m) = min m.faults last
faults_in (outputs.Counted n) = 0

pub counts_hold : (o : Output) → (taken_in o ≤ taken_in o) × (taken_in o ≤ last)
counts_hold (outputs.Held m) = (omega arith, omega arith)
counts_hold (outputs.Counted n) = (omega arith, omega arith)

pub faults_last : (o : Output) → faults_in o ≤ last
faults_last (outputs.Held m) = omega arith
faults_last (outputs.Counted n) = omega arith
