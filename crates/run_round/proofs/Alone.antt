-- A proof that is checked with a movie and pictures is checked by itself.
use Rattle.std.proofs.Common.{◌≡◌, refl, ℕ, zero, suc, ◌+◌, inl, inr, Bool, true, false, List, Option, None, Some, Result, Ok, Err, sym, subst}
use Rattle.std.specs.Prelude.{◌==◌}
use Rattle.pw_outside.specs.Reading.{Fault, Rest}
use Rattle.pic_y4m.specs.declared.fault.PictureKind.{PictureKind}
use Rattle.pic_y4m.specs.declared.head.Head.{Head}
use Rattle.pic_y4m.specs.Frames.{Pictures}
use Rattle.pic_raw.specs.Any.{pictures_of}
use Rattle.pr_geom.specs.declared.layout.Layout.{Layout}
use Rattle.qt_tables.specs.declared.fault.MovieKind.{MovieKind}
use Rattle.qt_tables.specs.Samples.{samples}
use Rattle.qt_movie.specs.Movie.{Movie, movie_in}
use Rattle.rate_table.specs.declared.fault.ProofKind.{ProofKind}
use Rattle.rate_cert.specs.declared.settings.Settings.{Settings}
use Rattle.rate_cert.specs.Records.{Record}
use Rattle.rate_cert.specs.Head.{head_at}
use Rattle.rate_cert.specs.Files.{Progress, no_records, after, next_at, most_records}
use Rattle.run_look.specs.declared.end.LookEnd.TheVariants as ends
use Rattle.run_look.specs.Checking.{frames_in, Step, ended, went, Goes, RecordIs, NextIs, RecordsAre, Alone, done_at_end, HeadIs, RecordsAlone, EndsOnce}
use Rattle.run_look.specs.Agreeing.{Given, given, AreBeside, nothing_further, form_of, IsMovie, HasPictures, AreHeaded, RecordsWith, ChecksOn}
use Rattle.run_round.specs.Laws.{CheckedIsCheckedAlone, CheckedIsCountedOnce}

-- the samples and pictures of a record don't end checking with Done
never-done : (g : Given) (l : Layout) (s : Settings) (r : Record) (first : ℕ) → AreBeside g l s r first tt (ended ends.Done) → ⊥
never-done g l s r first (k, lt, inl h) = h.1
never-done g l s r first (k, lt, inr h) = h.2

module _ (g : Given) (l : Layout) (format : ℕ) (s : Settings) where
  abbrev With : ℕ → Progress → ℕ → Rest → Unit {0} → ℕ → Type 0
  With most p frames rest x n = RecordsAre (AreBeside g l) (nothing_further g) most format s p frames rest x ends.Done n

  abbrev By : ℕ → Progress → ℕ → Rest → Unit {0} → ℕ → Type 0
  By most p frames rest x n = RecordsAre Alone done_at_end most format s p frames rest x ends.Done n

  step-alone : (r : Record) (frames : ℕ) (step : Step (Unit {0})) (Behind Behind' : Unit {0} → Type 0) → (Behind tt → Behind' tt)
      → AreBeside g l s r frames tt step → Goes ends.Done Behind step → Behind' tt
  step-alone r frames (ended e) Behind Behind' h beside goes = absurd (never-done g l s r frames (subst (λ x. AreBeside g l s r frames tt (ended x)) (sym goes) beside))
  step-alone r frames (went tt) Behind Behind' h beside goes = h goes

  record-alone : (frames : ℕ) (r : Record) (Behind Behind' : Unit {0} → Type 0) → (Behind tt → Behind' tt)
      → RecordIs s frames ends.Done r (AreBeside g l s r frames tt) Behind → RecordIs s frames ends.Done r (Alone s r frames tt) Behind'
  record-alone frames r Behind Behind' h (inl fails) = inl fails
  record-alone frames r Behind Behind' h (inr (good, step, beside, goes)) = inr (good, went tt, refl, step-alone r frames step Behind Behind' h beside goes)

  next-alone : (p : Progress) (frames n : ℕ) (next : Result (Option Record × Rest) (Fault ProofKind)) (Behind Behind' : Record → Rest → Unit {0} → Type 0)
      → ((r : Record) (rest : Rest) → Behind r rest tt → Behind' r rest tt)
      → NextIs ends.Done ((ends.Done ≡ nothing_further g frames tt) × (n ≡ p.count)) (λ r rest. RecordIs s frames ends.Done r (AreBeside g l s r frames tt) (Behind r rest)) next
      → NextIs ends.Done ((ends.Done ≡ done_at_end frames tt) × (n ≡ p.count)) (λ r rest. RecordIs s frames ends.Done r (Alone s r frames tt) (Behind' r rest)) next
  next-alone p frames n (Err f) Behind Behind' h e = e
  next-alone p frames n (Ok (None, rest)) Behind Behind' h e = (refl, e.1)
  next-alone p frames n (Ok (Some r, rest)) Behind Behind' h e = record-alone frames r (Behind r rest) (Behind' r rest) (h r rest) e

  records-alone : (most : ℕ) (p : Progress) (frames : ℕ) (rest : Rest) (n : ℕ) → With most p frames rest tt n → By most p frames rest tt n
  unfolding RecordsAre
  records-alone zero p frames rest n h = absurd h
  records-alone (suc most) p frames rest n h = next-alone p frames n (next_at format p rest)
      (λ r behind x. With most (after s p (Some r)) (frames + frames_in s r) behind x n) (λ r behind x. By most (after s p (Some r)) (frames + frames_in s r) behind x n)
      (λ r behind more. records-alone most (after s p (Some r)) (frames + frames_in s r) behind n more) h

module _ (format : ℕ) (s : Settings) (rest : Rest) (n : ℕ) where
  of-head : (file : List ℕ) (m : Movie) (pictures : Result (Head × Pictures) (Fault PictureKind))
      → AreHeaded s ends.Done (λ ps. RecordsWith (given file (samples m.tables) ps) format s rest ends.Done n) pictures → RecordsAlone format s rest ends.Done n
  of-head file m (Err f) e = absurd cc
  of-head file m (Ok (h, ps)) (inl e) = let bad : ends.Done ≡ ends.Refused 0 10 = e.1 in absurd cc
  of-head file m (Ok (h, ps)) (inr e) =
      let l = e.1.0 in
      records-alone (given file (samples m.tables) ps) l format s (suc most_records) no_records 0 rest n e.1.2

  of-products : (test : Bool) (P : Type 0) → (P → RecordsAlone format s rest ends.Done n) → HasPictures s ends.Done P test → RecordsAlone format s rest ends.Done n
  of-products true P h e = absurd cc
  of-products false P h e = h e

  of-movie : (file shown : List ℕ) (found : Result Movie (Fault MovieKind))
      → IsMovie ends.Done (λ m. HasPictures s ends.Done (AreHeaded s ends.Done
      (λ ps. RecordsWith (given file (samples m.tables) ps) format s rest ends.Done n)
      (pictures_of (form_of s) shown)) (s.form == 2)) found → RecordsAlone format s rest ends.Done n
  of-movie file shown (Err f) e = absurd cc
  of-movie file shown (Ok m) e = of-products (s.form == 2) _ (of-head file m (pictures_of (form_of s) shown)) e

of-proof : (file shown : List ℕ) (n : ℕ) (head : Result ((ℕ × Settings) × Rest) (Fault ProofKind))
    → HeadIs ends.Done (λ head rest. ChecksOn file shown head.0 head.1 rest ends.Done n) head → HeadIs ends.Done (λ head rest. RecordsAlone head.0 head.1 rest ends.Done n) head
of-proof file shown n (Err f) e = e
of-proof file shown n (Ok (head, rest)) e = of-movie head.0 head.1 rest n file shown (movie_in file) e

pub is-checked-alone : CheckedIsCheckedAlone
is-checked-alone bytes file shown n h = of-proof file shown n (head_at (record { place = 0; bytes = bytes })) h

pub is-counted-once : EndsOnce → CheckedIsCountedOnce
is-counted-once once bytes file shown m n h k = (once bytes ends.Done ends.Done m n (is-checked-alone bytes file shown m h) (is-checked-alone bytes file shown n k)).1 refl
