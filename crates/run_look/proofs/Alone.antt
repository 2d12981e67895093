-- Checking the records of a proof one after the other.
use Rattle.std.proofs.Common.{◌≡◌, ℕ, suc, ◌+◌, ◌-◌, ◌≤◌, inl, inr, Option, None, Some, Result, Ok, Err, refl, sym, ap, subst, arith, ◌<◌, ◌∙◌}
use Rattle.std.specs.Prelude.{IfSome}
use Rattle.pw_outside.specs.Reading.{Fault, Rest}
use Rattle.rate_table.specs.declared.fault.ProofKind.{ProofKind}
use Rattle.rate_cert.specs.declared.settings.Settings.{Settings}
use Rattle.rate_cert.specs.Records.{Record, IsGood}
use Rattle.rate_cert.specs.Files.{Progress, no_records, after, next_at, most_records}
use Rattle.run_look.specs.declared.end.LookEnd.{LookEnd}
use Rattle.run_look.specs.declared.end.LookEnd.TheVariants as ends
use Rattle.run_look.specs.Ends.{AnswersEnd}
use Rattle.run_look.specs.Checking.{frames_in, Step, went, RecordIs, NextIs, RecordsAre, Alone, done_at_end, RecordsAlone, EndsThere, NextGood, Counts}

-- a fact of an outcome, in other words
pub answers_end : (end : LookEnd) (P Q : LookEnd → Type 0) → ((e : LookEnd) → P e → Q e) → AnswersEnd end P → AnswersEnd end Q
answers_end ends.NoMemory P Q h p = tt
answers_end ends.ReadFault P Q h p = tt
answers_end ends.WriteFault P Q h p = tt
answers_end ends.Done P Q h p = h _ p
answers_end (ends.BadPictures kind place) P Q h p = h _ p
answers_end (ends.BadMovie kind place) P Q h p = h _ p
answers_end (ends.BadFrame sample kind place) P Q h p = h _ p
answers_end (ends.BadProof kind place) P Q h p = h _ p
answers_end (ends.Refused frame clause) P Q h p = h _ p

-- the records of a proof by itself, if at most this many are read
abbrev pub AloneFrom : ℕ → ℕ → Settings → Progress → ℕ → Rest → LookEnd → ℕ → Type 0
AloneFrom most format s p frames rest end n = RecordsAre Alone done_at_end most format s p frames rest tt end n

-- the number of marks that may still be read
abbrev pub marks_left : Progress → ℕ
marks_left p = suc most_records - p.count

pub suc_left : (p : Progress) → p.count ≤ most_records → marks_left p ≡ suc (most_records - p.count)
suc_left p le = omega (arith, le)

-- a good record was read
pub alone-more : (format : ℕ) (s : Settings) (p : Progress) (frames : ℕ) (rest behind : Rest) (r : Record) (end : LookEnd) (n : ℕ) → p.count ≤ most_records
    → next_at format p rest ≡ Ok (Some r, behind) → IsGood s r
    → AloneFrom (marks_left (after s p (Some r))) format s (after s p (Some r)) (frames + frames_in s r) behind end n → AloneFrom (marks_left p) format s p frames rest end n
unfolding RecordsAre
alone-more format s p frames rest behind r end n le e good more =
    let left : marks_left (after s p (Some r)) ≡ most_records - p.count = omega arith in
    let others : AloneFrom (most_records - p.count) format s (after s p (Some r)) (frames + frames_in s r) behind end n =
    subst (λ (k : ℕ). AloneFrom k format s (after s p (Some r)) (frames + frames_in s r) behind end n) left more in
    subst (λ (k : ℕ). AloneFrom k format s p frames rest end n) (sym (suc_left p le)) (rw e (inr (good, went tt, refl, others)))

-- the end was read
pub alone-end : (format : ℕ) (s : Settings) (p : Progress) (frames : ℕ) (rest behind : Rest) → p.count ≤ most_records
    → next_at format p rest ≡ Ok (None, behind) → AloneFrom (marks_left p) format s p frames rest ends.Done p.count
unfolding RecordsAre
alone-end format s p frames rest behind le e =
    subst (λ (k : ℕ). AloneFrom k format s p frames rest ends.Done p.count) (sym (suc_left p le)) (rw e (refl, refl))

pub stops : {X : Type 0} (s : Settings) (frames : ℕ) (next : Result (Option Record × Rest) (Fault ProofKind)) (end : LookEnd) (Whole : Type 0) (Beside : Record → Step X → Type 0) (Behind : Record → Rest → X → Type 0)
    → EndsThere s frames next end → NextIs end Whole (λ r behind. RecordIs s frames end r (Beside r) (Behind r behind)) next
stops s frames (Err f) end Whole Beside Behind h = h
stops s frames (Ok (None, behind)) end Whole Beside Behind h = absurd h
stops s frames (Ok (Some r, behind)) end Whole Beside Behind h = inl h

-- checking ended at what was read
pub alone-stop : (format : ℕ) (s : Settings) (p : Progress) (frames : ℕ) (rest : Rest) (end : LookEnd) → p.count ≤ most_records
    → EndsThere s frames (next_at format p rest) end → AloneFrom (marks_left p) format s p frames rest end 0
unfolding RecordsAre
alone-stop format s p frames rest end le h =
    subst (λ (k : ℕ). AloneFrom k format s p frames rest end 0) (sym (suc_left p le))
    (stops s frames (next_at format p rest) end ((end ≡ ends.Done) × (0 ≡ p.count)) (λ r. Alone s r frames tt)
    (λ r behind more. RecordsAre Alone done_at_end (most_records - p.count) format s (after s p (Some r)) (frames + frames_in s r) behind more end 0) h)

-- the same for numbers of the code that equal these
pub alone-further : (format format' : ℕ) (s s' : Settings) (p p' : Progress) (frames frames' : ℕ) (rest behind : Rest) (r : Record) (end : LookEnd) (n : ℕ)
    → format' ≡ format → s' ≡ s → p' ≡ after s p (Some r) → frames' ≡ frames + frames_in s r → p.count ≤ most_records
    → next_at format p rest ≡ Ok (Some r, behind) → IsGood s r
    → AloneFrom (marks_left p') format' s' p' frames' behind end n → AloneFrom (marks_left p) format s p frames rest end n
alone-further format format' s s' p p' frames frames' rest behind r end n ef es ep en le e good more =
    let a : AloneFrom (marks_left p') format s' p' frames' behind end n = subst (λ (f : ℕ). AloneFrom (marks_left p') f s' p' frames' behind end n) ef more in
    let b : AloneFrom (marks_left p') format s p' frames' behind end n = subst (λ (x : Settings). AloneFrom (marks_left p') format x p' frames' behind end n) es a in
    let c : AloneFrom (marks_left (after s p (Some r))) format s (after s p (Some r)) frames' behind end n =
    subst (λ (q : Progress). AloneFrom (marks_left q) format s q frames' behind end n) ep b in
    let d : AloneFrom (marks_left (after s p (Some r))) format s (after s p (Some r)) (frames + frames_in s r) behind end n =
    subst (λ (k : ℕ). AloneFrom (marks_left (after s p (Some r))) format s (after s p (Some r)) k behind end n) en c in
    alone-more format s p frames rest behind r end n le e good d

-- nothing was read yet
pub alone-start : (format : ℕ) (s : Settings) (p : Progress) (rest : Rest) (end : LookEnd) (n : ℕ) → p ≡ no_records
    → AloneFrom (marks_left p) format s p 0 rest end n → RecordsAlone format s rest end n
alone-start format s p rest end n e h = subst (λ (q : Progress). AloneFrom (marks_left q) format s q 0 rest end n) e h

-- ---- by the result of reading the next record

pub some_of : (o : Option Record) (r : Record) (P : Record → Type 0) → o ≡ Some r → IfSome o P → P r
some_of o r P e h = subst (λ (x : Option Record). IfSome x P) e h

pub alone-on : (format format' : ℕ) (s s' : Settings) (p p' : Progress) (frames frames' : ℕ) (rest behind : Rest) (next : Option Record) (r : Record) (end : LookEnd) (n : ℕ)
    → next ≡ Some r → NextGood format s p frames rest (Ok next) behind → format' ≡ format → s' ≡ s → p' ≡ after s p next → frames' ≡ frames + frames_in s r → p.count ≤ most_records
    → AloneFrom (marks_left p') format' s' p' frames' behind end n → AloneFrom (marks_left p) format s p frames rest end n
alone-on format format' s s' p p' frames frames' rest behind next r end n e is ef es ep en le more =
    let here : NextGood format s p frames rest (Ok (Some r)) behind = subst (λ (x : Option Record). NextGood format s p frames rest (Ok x) behind) e is in
    alone-further format format' s s' p p' frames frames' rest behind r end n ef es (ep ∙ ap (λ (x : Option Record). after s p x) e) en le here.0 here.1 more

pub fewer_left : (s : Settings) (p p' : Progress) (next : Option Record) (r : Record) → next ≡ Some r → p' ≡ after s p next → p.count ≤ most_records → marks_left p' < marks_left p
fewer_left s p p' next r e ep le =
    let is : p' ≡ after s p (Some r) = ep ∙ ap (λ (x : Option Record). after s p x) e in
    let count : p'.count ≡ p.count + 1 = ap (λ (q : Progress). q.count) is in
    omega (arith, count, le)

pub one_more : (s : Settings) (p p' : Progress) (next : Option Record) (r : Record) (n : ℕ) → next ≡ Some r → p' ≡ after s p next → p.count ≡ n → p'.count ≡ n + 1
one_more s p p' next r n e ep is =
    let here : p' ≡ after s p (Some r) = ep ∙ ap (λ (x : Option Record). after s p x) e in
    ap (λ (q : Progress). q.count) here ∙ ap (λ (k : ℕ). k + 1) is

pub alone-over : (format : ℕ) (s : Settings) (p : Progress) (frames : ℕ) (rest behind : Rest) (next : Option Record) (n : ℕ) → ((r : Record) → next ≡ Some r → ⊥)
    → NextGood format s p frames rest (Ok next) behind → p.count ≡ n → p.count ≤ most_records → AloneFrom (marks_left p) format s p frames rest ends.Done n
alone-over format s p frames rest behind None n not is e le = subst (λ (k : ℕ). AloneFrom (marks_left p) format s p frames rest ends.Done k) e (alone-end format s p frames rest behind le is.0)
alone-over format s p frames rest behind (Some r) n not is e le = absurd (not r refl)

pub alone-ends : (format : ℕ) (s : Settings) (p : Progress) (frames : ℕ) (rest behind : Rest) (end : LookEnd) (Is : LookEnd → ℕ → Type 0) → p.count ≤ most_records
    → ((e : LookEnd) (n : ℕ) → AloneFrom (marks_left p) format s p frames rest e n → Is e n)
    → NextGood format s p frames rest (Err end) behind → Counts Is (Err end)
alone-ends format s p frames rest behind end Is le whole is =
    answers_end end (EndsThere s frames (next_at format p rest)) (λ e. (n : ℕ) × Is e n) (λ e h. (0, whole e 0 (alone-stop format s p frames rest e le h))) is
