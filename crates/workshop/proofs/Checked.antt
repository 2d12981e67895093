-- What a run that checks a proof implies for the status.
use Rattle.std.proofs.Common.{◌≡◌, ℕ, ◌⊎◌, inl, inr, refl, ap}
use Rattle.pw_outside.specs.Writing.{SinkState}
use Rattle.run_look.specs.declared.end.LookEnd.{LookEnd}
use Rattle.run_look.specs.declared.end.LookEnd.TheVariants as ends
use Rattle.run_look.specs.Ends.{AnswersEnd}
use Rattle.run_look.specs.Checking.{PrintsCheck, CompletesCheck}
use Rattle.workshop.specs.declared.status.Status.TheVariants as s
use Rattle.workshop.specs.Listing.{status_of}
use Rattle.workshop.specs.Checking.{Ending, AnswersCheck, PrintsChecked}

-- ---- the status and the text, by the run's outcome

pub answers_check : (Is : Ending) (end : LookEnd) → AnswersEnd end (λ end. (records : ℕ) × Is end records) → AnswersCheck Is (status_of end)
answers_check Is ends.NoMemory h = tt
answers_check Is ends.ReadFault h = tt
answers_check Is ends.WriteFault h = tt
answers_check Is ends.Done h = (_, h.0, h.1, refl)
answers_check Is (ends.BadPictures kind place) h = (_, h.0, h.1, refl)
answers_check Is (ends.BadMovie kind place) h = (_, h.0, h.1, refl)
answers_check Is (ends.BadFrame sample kind place) h = (_, h.0, h.1, refl)
answers_check Is (ends.BadProof kind place) h = (_, h.0, h.1, refl)
answers_check Is (ends.Refused frame clause) h = (_, h.0, h.1, refl)

pub prints_checked : (Is : Ending) (end : LookEnd) (before after : SinkState) → PrintsCheck end (Is ends.Done) before after → PrintsChecked Is (status_of end) before after
prints_checked Is ends.NoMemory before after h = h
prints_checked Is ends.ReadFault before after h = h
prints_checked Is ends.WriteFault before after h = h
prints_checked Is ends.Done before after h = h
prints_checked Is (ends.BadPictures kind place) before after h = h
prints_checked Is (ends.BadMovie kind place) before after h = h
prints_checked Is (ends.BadFrame sample kind place) before after h = h
prints_checked Is (ends.BadProof kind place) before after h = h
prints_checked Is (ends.Refused frame clause) before after h = h

-- ---- if no port failed

pub completes : (end : LookEnd) → CompletesCheck end → (status_of end ≡ s.Done) ⊎ (status_of end ≡ s.NoMemory)
completes end (inl e) = inl (ap status_of e)
completes end (inr e) = inr (ap status_of e)
