-- What a run over sound implies for the status.
use Rattle.std.proofs.Common.{◌≡◌, ℕ, List, true, refl, ap, sym, subst, inl, inr}
use Rattle.pw_outside.specs.Writing.{SinkState}
use Rattle.pcm_track.specs.declared.end.SoundEnd.{SoundEnd}
use Rattle.pcm_track.specs.declared.end.SoundEnd.TheVariants as ends
use Rattle.pcm_track.specs.Adding.{added}
use Rattle.pcm_track.specs.Ends.{AnswersUnlessOutside, Completes, PutsUntil, is_read_fault, is_write_fault}
use Rattle.sound_round.specs.Laws.{AddedIsReadAgain}
use Rattle.workshop.specs.declared.status.Status.{Status}
use Rattle.workshop.specs.Sounding.{status_of, AnswersSound, WritesUntilDone, ReadsAgain, CompletesSound}

pub answers_sound : (known end : SoundEnd) → AnswersUnlessOutside end known → AnswersSound known (status_of end)
answers_sound known ends.NoMemory h = tt
answers_sound known ends.ReadFault h = tt
answers_sound known ends.WriteFault h = tt
answers_sound known ends.Done h = ap status_of h
answers_sound known (ends.BadMovie kind place) h = ap status_of h
answers_sound known (ends.BadSound kind place) h = ap status_of h

pub writes_until : (end : SoundEnd) (bytes : List ℕ) (before after : SinkState) → PutsUntil end bytes before after → WritesUntilDone (status_of end) bytes before after
writes_until ends.NoMemory bytes before after h = h
writes_until ends.ReadFault bytes before after h = h
writes_until ends.WriteFault bytes before after h = h
writes_until ends.Done bytes before after h = h
writes_until (ends.BadMovie kind place) bytes before after h = h
writes_until (ends.BadSound kind place) bytes before after h = h

reads_back : AddedIsReadAgain → (file wav : List ℕ) (end : SoundEnd) (before after : SinkState) → AnswersUnlessOutside end (added file wav).end
    → PutsUntil end (added file wav).out before after → ReadsAgain (status_of end) file wav before after
reads_back law file wav ends.NoMemory before after h p = tt
reads_back law file wav ends.ReadFault before after h p = tt
reads_back law file wav ends.WriteFault before after h p = tt
reads_back law file wav ends.Done before after h p = λ bytes. ((added file wav).out, p, law file wav bytes (sym h))
reads_back law file wav (ends.BadMovie kind place) before after h p = tt
reads_back law file wav (ends.BadSound kind place) before after h p = tt

-- the contract of adding sound, by the law of written movies with sound
pub reads_again : AddedIsReadAgain → (file wav : List ℕ) (end : SoundEnd) (status : Status) (before after : SinkState) → status ≡ status_of end
    → AnswersUnlessOutside end (added file wav).end → PutsUntil end (added file wav).out before after → ReadsAgain status file wav before after
reads_again law file wav end status before after e h p = subst (λ s. ReadsAgain s file wav before after) (sym e) (reads_back law file wav end before after h p)

-- ---- if no port failed

-- the same for a known end
pub completes : (known end : SoundEnd) → Completes known end → CompletesSound known (status_of end)
completes known end (inl e) = inl (ap status_of e)
completes known end (inr e) = inr (ap status_of e)

pub complete : (known end : SoundEnd) → AnswersUnlessOutside end known
    → (is_read_fault end ≡ true → ⊥) → (is_write_fault end ≡ true → ⊥) → CompletesSound known (status_of end)
complete known ends.NoMemory h nr nw = inr refl
complete known ends.ReadFault h nr nw = absurd (nr refl)
complete known ends.WriteFault h nr nw = absurd (nw refl)
complete known ends.Done h nr nw = inl (ap status_of h)
complete known (ends.BadMovie kind place) h nr nw = inl (ap status_of h)
complete known (ends.BadSound kind place) h nr nw = inl (ap status_of h)
