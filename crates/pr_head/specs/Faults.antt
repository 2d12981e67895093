-- The faults of the bytes that errors of a call report.
use Rattle.std.specs.Prelude.{Option, None, Some, Bool, true, false, Result, Err}
use Rattle.pw_outside.specs.Reading.{Fault}
use Rattle.pr_head.specs.declared.fault.FrameKind.{FrameKind}
use Rattle.pr_head.specs.declared.fault.FrameFault.{FrameFault}
use Rattle.pr_head.specs.declared.fault.FrameFault.TheVariants as faults

-- the fault that an error of reading reports
abbrev pub told_fault : FrameFault → Option (Fault FrameKind)
told_fault (faults.Bad kind place) = Some (record { kind = kind; place = place })
told_fault faults.Failed = None
told_fault faults.NoMemory = None

-- whether the source failed
abbrev pub is_failed : {X : Type 0} → Result X FrameFault → Bool
is_failed (Err faults.Failed) = true
is_failed _ = false

-- whether memory ran out
abbrev pub is_out_of_memory : {X : Type 0} → Result X FrameFault → Bool
is_out_of_memory (Err faults.NoMemory) = true
is_out_of_memory _ = false
