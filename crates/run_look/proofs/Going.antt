-- Checking the records of a proof with a movie and pictures, one after the other.
use Rattle.std.proofs.Common.{◌≡◌, ℕ, ◌+◌, ◌-◌, ◌≤◌, inr, Option, None, Some, Result, Ok, Err, refl, sym, ap, subst, arith, ◌∙◌}
use Rattle.std.specs.Prelude.{List, IsSome}
use Rattle.pw_outside.specs.Reading.{Rest, Told, bytes_of}
use Rattle.pic_y4m.specs.Frames.{Pictures}
use Rattle.qt_tables.specs.declared.runs.Sample.{Sample}
use Rattle.pr_geom.specs.declared.layout.Layout.{Layout}
use Rattle.pr_geom.specs.Layout.{IsLayoutOf}
use Rattle.rate_cert.specs.declared.settings.Settings.{Settings}
use Rattle.rate_cert.specs.Records.{Record, IsGood}
use Rattle.rate_cert.specs.Files.{Progress, no_records, after, next_at, most_records}
use Rattle.run_look.specs.declared.end.LookEnd.{LookEnd}
use Rattle.run_look.specs.declared.end.LookEnd.TheVariants as ends
use Rattle.run_look.specs.Ends.{AnswersEnd}
use Rattle.run_look.specs.Checking.{frames_in, ended, went, RecordsAre, EndsThere, NextGood, Counts}
use Rattle.run_look.specs.Agreeing.{Given, given, AreBeside, AreLeft, TakesGroup, nothing_further, RecordsWith}
use Rattle.run_look.proofs.Alone.{answers_end, marks_left, suc_left, stops}

-- the result beside a record, for numbers of the code that equal these
pub group_here : (b b' : Option (List ℕ)) (ss : List Sample) (o : Option (List ℕ)) (l : Layout) (s s' : Settings) (r : Record) (frames : ℕ) (result : Result (Unit {0}) LookEnd) (left left' : Pictures)
    → b' ≡ b → s' ≡ s → Told b' (λ file. IsSome o → (ps : Pictures) → AreLeft (given file ss ps) frames left → TakesGroup (given file ss ps) l s' r frames result left')
    → IsSome b → IsSome o → (ps : Pictures) → AreLeft (given (bytes_of b) ss ps) frames left → TakesGroup (given (bytes_of b) ss ps) l s r frames result left'
group_here b b' ss o l s s' r frames result left left' eb es takes =
    let a : Told b (λ file. IsSome o → (ps : Pictures) → AreLeft (given file ss ps) frames left → TakesGroup (given file ss ps) l s' r frames result left') =
    subst (λ x. Told x (λ file. IsSome o → (ps : Pictures) → AreLeft (given file ss ps) frames left → TakesGroup (given file ss ps) l s' r frames result left')) eb takes in
    subst (λ x. Told b (λ file. IsSome o → (ps : Pictures) → AreLeft (given file ss ps) frames left → TakesGroup (given file ss ps) l x r frames result left')) es a

module _ (g : Given) (l : Layout) where
  -- the records from here on, if at most this many are read
  abbrev pub From : ℕ → ℕ → Settings → Progress → ℕ → Rest → LookEnd → ℕ → Type 0
  From most format s p frames rest end n = RecordsAre (AreBeside g l) (nothing_further g) most format s p frames rest tt end n

  -- a good record was read, and its samples and pictures agree
  pub from-more : (format : ℕ) (s : Settings) (p : Progress) (frames : ℕ) (rest behind : Rest) (r : Record) (end : LookEnd) (n : ℕ) → p.count ≤ most_records
      → next_at format p rest ≡ Ok (Some r, behind) → IsGood s r → AreBeside g l s r frames tt (went tt)
      → From (marks_left (after s p (Some r))) format s (after s p (Some r)) (frames + frames_in s r) behind end n → From (marks_left p) format s p frames rest end n
  unfolding RecordsAre
  from-more format s p frames rest behind r end n le e good beside more =
      let left : marks_left (after s p (Some r)) ≡ most_records - p.count = omega arith in
      let others : From (most_records - p.count) format s (after s p (Some r)) (frames + frames_in s r) behind end n =
      subst (λ (k : ℕ). From k format s (after s p (Some r)) (frames + frames_in s r) behind end n) left more in
      subst (λ (k : ℕ). From k format s p frames rest end n) (sym (suc_left p le)) (rw e (inr (good, went tt, beside, others)))

  -- a good record was read, and checking ends beside it
  pub from-beside : (format : ℕ) (s : Settings) (p : Progress) (frames : ℕ) (rest behind : Rest) (r : Record) (end : LookEnd) → p.count ≤ most_records
      → next_at format p rest ≡ Ok (Some r, behind) → IsGood s r → AreBeside g l s r frames tt (ended end) → From (marks_left p) format s p frames rest end 0
  unfolding RecordsAre
  from-beside format s p frames rest behind r end le e good beside =
      subst (λ (k : ℕ). From k format s p frames rest end 0) (sym (suc_left p le)) (rw e (inr (good, ended end, beside, refl)))

  -- the end was read
  pub from-end : (format : ℕ) (s : Settings) (p : Progress) (frames : ℕ) (rest behind : Rest) (end : LookEnd) → p.count ≤ most_records
      → next_at format p rest ≡ Ok (None, behind) → end ≡ nothing_further g frames tt → From (marks_left p) format s p frames rest end p.count
  unfolding RecordsAre
  from-end format s p frames rest behind end le e is =
      subst (λ (k : ℕ). From k format s p frames rest end p.count) (sym (suc_left p le)) (rw e (is, refl))

  -- checking ended at what was read
  pub from-stop : (format : ℕ) (s : Settings) (p : Progress) (frames : ℕ) (rest : Rest) (end : LookEnd) → p.count ≤ most_records
      → EndsThere s frames (next_at format p rest) end → From (marks_left p) format s p frames rest end 0
  unfolding RecordsAre
  from-stop format s p frames rest end le h =
      subst (λ (k : ℕ). From k format s p frames rest end 0) (sym (suc_left p le))
      (stops s frames (next_at format p rest) end ((end ≡ nothing_further g frames tt) × (0 ≡ p.count)) (λ r. AreBeside g l s r frames tt)
      (λ r behind more. RecordsAre (AreBeside g l) (nothing_further g) (most_records - p.count) format s (after s p (Some r)) (frames + frames_in s r) behind more end 0) h)

  -- ---- by the result of reading the next record

  -- a good record was read, and its samples and pictures agree; for numbers of the code that equal these
  pub from-on : (format format' : ℕ) (s s' : Settings) (p p' : Progress) (frames frames' : ℕ) (rest behind : Rest) (next : Option Record) (r : Record) (end : LookEnd) (n : ℕ)
      → next ≡ Some r → NextGood format s p frames rest (Ok next) behind → format' ≡ format → s' ≡ s → p' ≡ after s p next → frames' ≡ frames + frames_in s r → p.count ≤ most_records
      → AreBeside g l s r frames tt (went tt) → From (marks_left p') format' s' p' frames' behind end n → From (marks_left p) format s p frames rest end n
  from-on format format' s s' p p' frames frames' rest behind next r end n e is ef es ep en le beside more =
      let here : NextGood format s p frames rest (Ok (Some r)) behind = subst (λ (x : Option Record). NextGood format s p frames rest (Ok x) behind) e is in
      let then : p' ≡ after s p (Some r) = ep ∙ ap (λ (x : Option Record). after s p x) e in
      let a : From (marks_left p') format s' p' frames' behind end n = subst (λ (f : ℕ). From (marks_left p') f s' p' frames' behind end n) ef more in
      let b : From (marks_left p') format s p' frames' behind end n = subst (λ (x : Settings). From (marks_left p') format x p' frames' behind end n) es a in
      let c : From (marks_left (after s p (Some r))) format s (after s p (Some r)) frames' behind end n =
      subst (λ (q : Progress). From (marks_left q) format s q frames' behind end n) then b in
      let d : From (marks_left (after s p (Some r))) format s (after s p (Some r)) (frames + frames_in s r) behind end n =
      subst (λ (k : ℕ). From (marks_left (after s p (Some r))) format s (after s p (Some r)) k behind end n) en c in
      from-more format s p frames rest behind r end n le here.0 here.1 beside d

  -- the end was read, and nothing comes after it
  pub from-over : (format : ℕ) (s : Settings) (p : Progress) (frames : ℕ) (rest behind : Rest) (next : Option Record) (n : ℕ) → ((r : Record) → next ≡ Some r → ⊥)
      → NextGood format s p frames rest (Ok next) behind → p.count ≡ n → p.count ≤ most_records → nothing_further g frames tt ≡ ends.Done → From (marks_left p) format s p frames rest ends.Done n
  from-over format s p frames rest behind None n not is e le done =
      subst (λ (k : ℕ). From (marks_left p) format s p frames rest ends.Done k) e (from-end format s p frames rest behind ends.Done le is.0 (sym done))
  from-over format s p frames rest behind (Some r) n not is e le done = absurd (not r refl)

  -- the end was read, and something comes after it
  pub from-further : (format : ℕ) (s : Settings) (p : Progress) (frames : ℕ) (rest behind : Rest) (next : Option Record) (end : LookEnd) (Is : LookEnd → ℕ → Type 0) → ((r : Record) → next ≡ Some r → ⊥)
      → NextGood format s p frames rest (Ok next) behind → p.count ≤ most_records → ((e : LookEnd) (n : ℕ) → From (marks_left p) format s p frames rest e n → Is e n)
      → AnswersEnd end (λ e. e ≡ nothing_further g frames tt) → Counts Is (Err end)
  from-further format s p frames rest behind None end Is not is le whole h =
      answers_end end (λ e. e ≡ nothing_further g frames tt) (λ e. (n : ℕ) × Is e n) (λ e x. (p.count, whole e p.count (from-end format s p frames rest behind e le is.0 x))) h
  from-further format s p frames rest behind (Some r) end Is not is le whole h = absurd (not r refl)

  -- checking ended at what was read
  pub from-ends : (format : ℕ) (s : Settings) (p : Progress) (frames : ℕ) (rest behind : Rest) (end : LookEnd) (Is : LookEnd → ℕ → Type 0) → p.count ≤ most_records
      → ((e : LookEnd) (n : ℕ) → From (marks_left p) format s p frames rest e n → Is e n) → NextGood format s p frames rest (Err end) behind → Counts Is (Err end)
  from-ends format s p frames rest behind end Is le whole is =
      answers_end end (EndsThere s frames (next_at format p rest)) (λ e. (n : ℕ) × Is e n) (λ e h. (0, whole e 0 (from-stop format s p frames rest e le h))) is

  -- a good record was read, and checking ended beside it
  pub from-besides : (format : ℕ) (s : Settings) (p : Progress) (frames : ℕ) (rest behind : Rest) (next : Option Record) (r : Record) (end : LookEnd) (Is : LookEnd → ℕ → Type 0) → p.count ≤ most_records
      → ((e : LookEnd) (n : ℕ) → From (marks_left p) format s p frames rest e n → Is e n) → next ≡ Some r → NextGood format s p frames rest (Ok next) behind
      → AnswersEnd end (λ e. AreBeside g l s r frames tt (ended e)) → Counts Is (Err end)
  from-besides format s p frames rest behind next r end Is le whole e is h =
      let here : NextGood format s p frames rest (Ok (Some r)) behind = subst (λ (x : Option Record). NextGood format s p frames rest (Ok x) behind) e is in
      answers_end end (λ e. AreBeside g l s r frames tt (ended e)) (λ e. (n : ℕ) × Is e n) (λ e x. (0, whole e 0 (from-beside format s p frames rest behind r e le here.0 here.1 x))) h

  -- nothing was read yet
  pub from-start : (format : ℕ) (s : Settings) (p : Progress) (rest : Rest) (end : LookEnd) (n : ℕ) → p ≡ no_records → IsLayoutOf l s.width s.height s.log2 s.interlace s.chroma
      → From (marks_left p) format s p 0 rest end n → RecordsWith g format s rest end n
  from-start format s p rest end n e of h = (l, of, subst (λ (q : Progress). From (marks_left q) format s q 0 rest end n) e h)
