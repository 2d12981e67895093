-- What the call that reads a frame returns.
use Rattle.std.proofs.Common.{◌≡◌, ℕ, List, length, Option, Some, Result, Ok, Err, ap}
use Rattle.std.specs.Prelude.{IfOk, IfErr, IfSome}
use Rattle.std.specs.Result.{result_err}
use Rattle.pw_outside.specs.Reading.{Fails, Gives, Told, bytes_of, rest_of}
use Rattle.pr_head.specs.declared.fault.FrameFault.{FrameFault}
use Rattle.pr_head.specs.declared.fault.FrameFault.TheVariants as faults
use Rattle.pr_head.specs.Faults.{told_fault}
use Rattle.pr_frame.specs.declared.coded.CodedFrame.{CodedFrame}
use Rattle.pr_frame.specs.Reading.{frame_at, frame_of, frame_fault}
use Rattle.pr_frame.specs.Stands.{FrameStands}
use Rattle.pr_frame.proofs.FrameSteps.{sample-value, sample-fault}
use Rattle.pr_frame.proofs.WholeStanding.{frame-found}

pub answers-stand : (result : Result CodedFrame FrameFault) (size place : ℕ) (left new : Option (List ℕ)) → Told left (λ bytes. length bytes ≡ size)
    → Gives told_fault (λ (f : CodedFrame). f) left new 0 place result (frame_at size) → IfOk result (λ f. Told left (λ sample. FrameStands sample f))
answers-stand (Ok f) size place left new told g = λ h. frame-found (bytes_of left) f (sample-value size (bytes_of left) f (rest_of place new) (told h) (g.answer h))
answers-stand (Err e) size place left new told g = tt

pub fault-told : (e : FrameFault) (sample : List ℕ) → Fails told_fault e (frame_of sample) → IfSome (told_fault e) (λ fault. frame_fault sample ≡ Some fault)
fault-told (faults.Bad kind place) sample told = ap result_err told
fault-told faults.Failed sample told = tt
fault-told faults.NoMemory sample told = tt

pub answers-fault : (result : Result CodedFrame FrameFault) (size place : ℕ) (left new : Option (List ℕ)) → Told left (λ bytes. length bytes ≡ size)
    → Gives told_fault (λ (f : CodedFrame). f) left new 0 place result (frame_at size) → IfErr result (λ e. Told left (λ sample. IfSome (told_fault e) (λ fault. frame_fault sample ≡ Some fault)))
answers-fault (Ok f) size place left new told g = tt
answers-fault (Err e) size place left new told g = λ h. fault-told e (bytes_of left) (sample-fault size (bytes_of left) e (told h) (g.answer h))
