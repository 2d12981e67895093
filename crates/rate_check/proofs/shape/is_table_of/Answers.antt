use Rattle.std.proofs.Common.{◌≡◌, ℕ, ◌*◌, ◌/◌, ◌<◌, length, sym, ap, ◌∙◌, arith}
use Rattle.std.proofs.Math.Nat.{mul-div_cancel}
use Rattle.rate_table.specs.Table.{Table}
use Rattle.rate_cert.specs.declared.settings.Settings.{Settings}
use Rattle.rate_cert.specs.Settings.{frame_slices}
use Rattle.rate_cert.specs.Records.{IsTableOf}
use Rattle.rate_check.proofs.Answered.{no}
use Rattle.rate_check.proofs.shape.is_table_of.Goals as goal
use Rattle.rate_check.proofs.shape.is_table_of.Goals.{then-frames-lt1-via-then-frames-lt1, then-frames-lt1-via-else-frames-lt1+then-from-frames}

-- the number of frames is unique
frames_are : (s : Settings) (t : Table) (n count : ℕ) → n ≡ frame_slices s → 0 < n → count ≡ length t.slices → (i : IsTableOf s t) → (count / n ≡ i.frames) × (i.frames * n ≡ count)
frames_are s t n count e some c i =
    let w : i.frames * n ≡ count = ap (λ x. i.frames * x) e ∙ sym i.slices ∙ sym c in
    (sym (ap (λ x. x / n) w) ∙ mul-div_cancel i.frames {n = n} some, w)

pub returns-then-frames-of_frame : goal.returns-then-frames-of_frame
returns-then-frames-of_frame c = no (λ i.
    let same = ap length (c.as_slice-slices.ensures.slices ∙ ap (λ (t : Table). t.slices) c.table.view_is) in
    let f = frames_are c.args.settings.now c.args.table.now c.frame_slices-of_frame.result (length c.as_slice-slices.result.now) c.frame_slices-of_frame.ensures.value c.frame_slices-of_frame.ensures.some same i in
    c.if-frames-of_frame.true (ap (λ x. x * c.frame_slices-of_frame.result) f.0 ∙ f.1))

pub returns-then-frames-lt1 : goal.returns-then-frames-lt1
returns-then-frames-lt1 c = no (λ i.
    let same = ap length (c.as_slice-slices.ensures.slices ∙ ap (λ (t : Table). t.slices) c.table.view_is) in
    let f = frames_are c.args.settings.now c.args.table.now c.frame_slices-of_frame.result (length c.as_slice-slices.result.now) c.frame_slices-of_frame.ensures.value c.frame_slices-of_frame.ensures.some same i in
    elim c.then-frames-lt1.branch [
      | then-frames-lt1-via-then-frames-lt1 w ↦ omega (arith, f.0, i.some, w.if-frames-lt1.true)
      | then-frames-lt1-via-else-frames-lt1+then-from-frames w ↦ omega (arith, f.0, i.few, w.if-from-frames.true, w.from.ensures)
    ])
