-- The faults that errors of reading report.
use Rattle.std.specs.Prelude.{Bool, true, false, Option, None, Some, Result, Err}
use Rattle.pw_outside.specs.Reading.{Fault}
use Rattle.pic_y4m.specs.declared.fault.PictureKind.{PictureKind}
use Rattle.pic_y4m.specs.declared.fault.PictureFault.{PictureFault}
use Rattle.pic_y4m.specs.declared.fault.PictureFault.TheVariants as faults

-- the fault that an error reports
abbrev pub told_fault : PictureFault → Option (Fault PictureKind)
told_fault (faults.Bad kind place) = Some (record { kind = kind; place = place })
told_fault faults.Failed = None
told_fault faults.NoMemory = None

-- whether the source failed
abbrev pub is_failed : {X : Type 0} → Result X PictureFault → Bool
is_failed (Err faults.Failed) = true
is_failed _ = false

-- whether memory ran out
abbrev pub is_out_of_memory : {X : Type 0} → Result X PictureFault → Bool
is_out_of_memory (Err faults.NoMemory) = true
is_out_of_memory _ = false
