-- What a run that rewrites a proof implies for the status.
use Rattle.std.proofs.Common.{ℕ, List, ap}
use Rattle.pw_outside.specs.Writing.{SinkState}
use Rattle.run_look.specs.declared.end.LookEnd.{LookEnd}
use Rattle.run_look.specs.declared.end.LookEnd.TheVariants as ends
use Rattle.run_look.specs.Ends.{AnswersUnlessOutside}
use Rattle.run_look.specs.Reproofing.{reproofed, PutsUntil}
use Rattle.workshop.specs.Listing.{status_of}
use Rattle.workshop.specs.Reproofing.{AnswersReproof, WritesUntil}

pub answers_reproof : (bytes : List ℕ) (end : LookEnd) → AnswersUnlessOutside end (reproofed bytes).end → AnswersReproof bytes (status_of end)
answers_reproof bytes ends.NoMemory h = tt
answers_reproof bytes ends.ReadFault h = tt
answers_reproof bytes ends.WriteFault h = tt
answers_reproof bytes ends.Done h = ap status_of h
answers_reproof bytes (ends.BadPictures kind place) h = ap status_of h
answers_reproof bytes (ends.BadMovie kind place) h = ap status_of h
answers_reproof bytes (ends.BadFrame sample kind place) h = ap status_of h
answers_reproof bytes (ends.BadProof kind place) h = ap status_of h
answers_reproof bytes (ends.Refused frame clause) h = ap status_of h

pub writes_until : (end : LookEnd) (bytes : List ℕ) (before after : SinkState) → PutsUntil end bytes before after → WritesUntil (status_of end) bytes before after
writes_until ends.NoMemory bytes before after h = h
writes_until ends.ReadFault bytes before after h = h
writes_until ends.WriteFault bytes before after h = h
writes_until ends.Done bytes before after h = h
writes_until (ends.BadPictures kind place) bytes before after h = h
writes_until (ends.BadMovie kind place) bytes before after h = h
writes_until (ends.BadFrame sample kind place) bytes before after h = h
writes_until (ends.BadProof kind place) bytes before after h = h
writes_until (ends.Refused frame clause) bytes before after h = h
