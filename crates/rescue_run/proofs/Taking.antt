-- Taking one frame.
use Rattle.std.proofs.Common.{◌≡◌, refl, false, ℕ, ◌≤◌, ◌<◌, List, [], ◌∷◌, ◌++◌, length, arith, ap, sym, subst, ◌∙◌}
use Rattle.std.specs.Prelude.{Option, Some, None, Result, Ok, Err, OnOk, OnErr, IfErr}
use Rattle.std.proofs.lemmas.List.{length-map}
use Rattle.pw_outside.specs.Ports.{last}
use Rattle.pw_outside.specs.Writing.{SinkState, Puts, PutsFront}
use Rattle.pw_outside.proofs.Puts.{puts_none}
use Rattle.qt_tables.specs.declared.tables.TheConstants.{MAX_SAMPLES}
use Rattle.qt_tables.specs.declared.writer.Extent.{Extent}
use Rattle.qt_tables.specs.declared.fault.MovieKind.TheVariants.{TooManySamples}
use Rattle.qt_movie.specs.MovieBytes.{ftyp_bytes, frame_bytes}
use Rattle.rescue_run.specs.declared.form.Rate.{Rate}
use Rattle.rescue_run.specs.declared.gathering.Gathering.{Gathering}
use Rattle.rescue_run.specs.declared.end.RescueEnd.{RescueEnd}
use Rattle.rescue_run.specs.declared.end.RescueEnd.TheVariants as ends
use Rattle.rescue_run.specs.Rescuing.{is_done}
use Rattle.rescue_run.specs.inner.Steps.{IsPortsEnd, IsCopyEnd, IsKept, AreKept, extents_in, TakingIs, step_bytes}

pub taking_err : (frame : List ℕ) (place : ℕ) (es : List Extent) (end : RescueEnd) (a b : SinkState) → length es < MAX_SAMPLES → IsPortsEnd end → PutsFront a b (step_bytes es frame) → TakingIs frame place es (Err end) a b
taking_err frame place es ends.NoMemory a b few e p = (p, few)
taking_err frame place es ends.ReadFault a b few e p = (p, few)
taking_err frame place es ends.WriteFault a b few e p = (p, few)
taking_err frame place es ends.Done a b few e p = absurd e
taking_err frame place es (ends.BadMovie kind at) a b few e p = absurd e

taking_more : (frame : List ℕ) (place : ℕ) (es : List Extent) (r : Result (Unit {0}) RescueEnd) (a b : SinkState) → length es < MAX_SAMPLES → OnOk r (Puts a b (step_bytes es frame)) → OnErr r (PutsFront a b (step_bytes es frame)) → IfErr r IsPortsEnd
    → TakingIs frame place es r a b
taking_more frame place es (Ok _) a b few ok err end = (ok, few)
taking_more frame place es (Err e) a b few ok err end = taking_err frame place es e a b few end err

-- a frame after others
pub taking_add : (frame : List ℕ) (place : ℕ) (es : List Extent) (r : Result (Unit {0}) RescueEnd) (a b : SinkState) → 1 ≤ length es → length es < MAX_SAMPLES → OnOk r (Puts a b (frame_bytes frame)) → OnErr r (PutsFront a b (frame_bytes frame)) → IfErr r IsPortsEnd
    → TakingIs frame place es r a b
taking_add frame place [] r a b some few ok err end = absurd (omega (arith, some))
taking_add frame place (e ∷ es) r a b some few ok err end = taking_more frame place (e ∷ es) r a b few ok err end

-- as many frames as the writer has
pub kept_count : (rate : Rate) (g : Gathering) → IsKept rate g → length g.writer.sizes ≡ length g.extents.items
kept_count rate g k = ap length k.sizes ∙ length-map g.extents.items (λ (e : Extent). e.size)

-- the first frame
pub taking_first : (frame : List ℕ) (place : ℕ) (g : Option Gathering) (r : Result (Unit {0}) RescueEnd) (end : RescueEnd) (a b : SinkState) → g ≡ None → r ≡ Err end → IsPortsEnd end → PutsFront a b (ftyp_bytes ++ frame_bytes frame)
    → TakingIs frame place (extents_in g) r a b
taking_first frame place g r end a b n e h p = subst (λ x. TakingIs frame place (extents_in x) r a b) (sym n) (subst (λ x. TakingIs frame place [] x a b) (sym e) (taking_err frame place [] end a b (omega arith) h p))

pub took_first : (frame : List ℕ) (place : ℕ) (g : Option Gathering) (a b : SinkState) → g ≡ None → Puts a b (ftyp_bytes ++ frame_bytes frame) → TakingIs frame place (extents_in g) (Ok tt) a b
took_first frame place g a b n p = subst (λ x. TakingIs frame place (extents_in x) (Ok tt) a b) (sym n) (p, omega arith)

-- a later frame
pub taking_later : (rate : Rate) (frame : List ℕ) (place : ℕ) (g : Option Gathering) (x : Gathering) (r : Result (Unit {0}) RescueEnd) (a b : SinkState) → g ≡ Some x → AreKept rate g → length x.writer.sizes < MAX_SAMPLES
    → OnOk r (Puts a b (frame_bytes frame)) → OnErr r (PutsFront a b (frame_bytes frame)) → IfErr r IsPortsEnd → TakingIs frame place (extents_in g) r a b
taking_later rate frame place g x r a b e kept few ok err end =
    let k = subst (AreKept rate) e kept in
    subst (λ o. TakingIs frame place (extents_in o) r a b) (sym e) (taking_add frame place x.extents.items r a b k.1 (omega (arith, few, kept_count rate x k.0)) ok err end)
