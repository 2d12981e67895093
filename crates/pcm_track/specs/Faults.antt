-- Which errors of a call report a fault of a WAV.
use Rattle.std.specs.Prelude.{Bool, true, false, Option, Some, None, Result, Err}
use Rattle.pw_outside.specs.Reading.{Fault}
use Rattle.pcm_track.specs.declared.fault.SoundKind.{SoundKind}
use Rattle.pcm_track.specs.declared.fault.SoundFault.{SoundFault}
use Rattle.pcm_track.specs.declared.fault.SoundFault.TheVariants as faults
use Rattle.pcm_track.specs.declared.fault.CopyFault.{CopyFault}
use Rattle.pcm_track.specs.declared.fault.CopyFault.TheVariants as copies

-- the fault that an error of reading reports
abbrev pub told_fault : SoundFault → Option (Fault SoundKind)
told_fault (faults.Bad kind place) = Some (record { kind = kind; place = place })
told_fault faults.Failed = None

-- whether the source failed
abbrev pub is_failed : {X : Type 0} → Result X SoundFault → Bool
is_failed (Err faults.Failed) = true
is_failed _ = false

-- the fault that an error of copying reports
abbrev pub told_copy : CopyFault → Option (Fault SoundKind)
told_copy (copies.Sound e) = told_fault e
told_copy (copies.Sink e) = None

-- whether the source failed in copying
abbrev pub is_source_failed : {X : Type 0} → Result X CopyFault → Bool
is_source_failed (Err (copies.Sound faults.Failed)) = true
is_source_failed _ = false

-- whether the sink failed in copying
abbrev pub is_sink_failed : {X : Type 0} → Result X CopyFault → Bool
is_sink_failed (Err (copies.Sink e)) = true
is_sink_failed _ = false
