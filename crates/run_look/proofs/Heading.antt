-- A movie and pictures before the records.
use Rattle.std.proofs.Common.{◌≡◌, ℕ, inl, inr, List, Option, Result, Ok, Err, refl, sym, subst, ◌==◌, false, ⊎_elim}
use Rattle.std.specs.Prelude.{◌⊎◌}
use Rattle.std.specs.Bool.{OnTrue}
use Rattle.pw_outside.specs.Reading.{Fault, Rest, bind}
use Rattle.pic_y4m.specs.declared.fault.PictureKind.{PictureKind}
use Rattle.pic_y4m.specs.declared.head.Head.{Head}
use Rattle.pic_y4m.specs.Frames.{Pictures}
use Rattle.pic_raw.specs.declared.any.AnyReader.{AnyReader}
use Rattle.pic_raw.specs.Any.{head_of, left_of, start_of, pictures_of}
use Rattle.qt_tables.specs.Samples.{samples}
use Rattle.qt_movie.specs.Movie.{Movie, movie_in}
use Rattle.rate_cert.specs.declared.settings.Settings.{Settings}
use Rattle.run_look.specs.declared.end.LookEnd.{LookEnd}
use Rattle.run_look.specs.declared.end.LookEnd.TheVariants as ends
use Rattle.run_look.specs.Ends.{AnswersEnd, IsReadersEnd, is_stopped_by_source}
use Rattle.run_look.specs.Checking.{Counts, CompletesCheck}
use Rattle.run_look.specs.Agreeing.{given, form_of, pictures_head, AreHeaded, HasPictures, IsMovie, RecordsWith, ChecksOn, Checks, DoneOnce}
use Rattle.run_look.proofs.Alone.{answers_end}

-- a count of one is a count of the other
pub counts_so : (P Q : LookEnd → ℕ → Type 0) (result : Result ℕ LookEnd) → ((e : LookEnd) (n : ℕ) → P e n → Q e n) → Counts P result → Counts Q result
counts_so P Q (Ok n) h p = h ends.Done n p
counts_so P Q (Err end) h p = answers_end end (λ e. (n : ℕ) × P e n) (λ e. (n : ℕ) × Q e n) (λ e x. (x.0, h e x.0 x.1)) p

no_start : (form : Option Head) (shown : List ℕ) (f : Fault PictureKind) → start_of form (record { place = 0; bytes = shown }) ≡ Err f → pictures_of form shown ≡ Err f
unfolding pictures_of bind
no_start form shown f e = rw e refl

a_start : (form : Option Head) (shown : List ℕ) (r : AnyReader) (rest : Rest) → start_of form (record { place = 0; bytes = shown }) ≡ Ok (r, rest) → pictures_of form shown ≡ Ok (head_of r, left_of r rest)
unfolding pictures_of bind
a_start form shown r rest e = rw e refl

module _ (file shown : List ℕ) (format : ℕ) (s : Settings) (rest : Rest) where
  abbrev Behind : Movie → LookEnd → ℕ → Pictures → Type 0
  Behind m end n ps = RecordsWith (given file (samples m.tables) ps) format s rest end n

  with_movie : (m : Movie) (end : LookEnd) (n : ℕ) → movie_in file ≡ Ok m → (s.form == 2) ≡ false → AreHeaded s end (Behind m end n) (pictures_of (form_of s) shown) → ChecksOn file shown format s rest end n
  with_movie m end n em ef h =
      let a : HasPictures s end (AreHeaded s end (Behind m end n) (pictures_of (form_of s) shown)) (s.form == 2) =
      subst (λ b. HasPictures s end (AreHeaded s end (Behind m end n) (pictures_of (form_of s) shown)) b) (sym ef) h in
      subst (λ r. IsMovie end (λ m. HasPictures s end (AreHeaded s end (Behind m end n) (pictures_of (form_of s) shown)) (s.form == 2)) r) (sym em) a

  -- the header of the pictures has a fault
  pub head_fault : (m : Movie) (form : Option Head) (f : Fault PictureKind) → movie_in file ≡ Ok m → (s.form == 2) ≡ false → form ≡ form_of s
      → start_of form (record { place = 0; bytes = shown }) ≡ Err f → ChecksOn file shown format s rest (ends.BadPictures f.kind f.place) 0
  head_fault m form f em ef es e =
      let is : pictures_of (form_of s) shown ≡ Err f = subst (λ x. pictures_of x shown ≡ Err f) es (no_start form shown f e) in
      with_movie m (ends.BadPictures f.kind f.place) 0 em ef (subst (λ r. AreHeaded s (ends.BadPictures f.kind f.place) (Behind m (ends.BadPictures f.kind f.place) 0) r) (sym is) refl)

  -- the pictures have another header
  pub other_head : (m : Movie) (form : Option Head) (r : AnyReader) (behind : Rest) → movie_in file ≡ Ok m → (s.form == 2) ≡ false → form ≡ form_of s
      → start_of form (record { place = 0; bytes = shown }) ≡ Ok (r, behind) → (head_of r ≡ pictures_head s → ⊥) → ChecksOn file shown format s rest (ends.Refused 0 10) 0
  other_head m form r behind em ef es e not =
      let is : pictures_of (form_of s) shown ≡ Ok (head_of r, left_of r behind) = subst (λ x. pictures_of x shown ≡ Ok (head_of r, left_of r behind)) es (a_start form shown r behind e) in
      with_movie m (ends.Refused 0 10) 0 em ef (subst (λ r. AreHeaded s (ends.Refused 0 10) (Behind m (ends.Refused 0 10) 0) r) (sym is) (inl (not, refl)))

  -- the pictures have this header
  pub this_head : (m : Movie) (form : Option Head) (r : AnyReader) (behind : Rest) → movie_in file ≡ Ok m → (s.form == 2) ≡ false → form ≡ form_of s
      → start_of form (record { place = 0; bytes = shown }) ≡ Ok (r, behind) → head_of r ≡ pictures_head s → (end : LookEnd) (n : ℕ)
      → RecordsWith (given file (samples m.tables) (left_of r behind)) format s rest end n → ChecksOn file shown format s rest end n
  this_head m form r behind em ef es e same end n h =
      let is : pictures_of (form_of s) shown ≡ Ok (head_of r, left_of r behind) = subst (λ x. pictures_of x shown ≡ Ok (head_of r, left_of r behind)) es (a_start form shown r behind e) in
      with_movie m end n em ef (subst (λ r. AreHeaded s end (Behind m end n) r) (sym is) (inr (same, h)))

-- ---- the whole

-- a part of a run that only reads is done if checking is
pub given_completes : DoneOnce → (bytes file shown : List ℕ) (end : LookEnd) (records : ℕ) (Read Stored Seen : Type 0) → AnswersEnd end (λ e. (n : ℕ) × Checks bytes file shown e n) → IsReadersEnd end
    → OnTrue (is_stopped_by_source {X = ℕ} (Err end)) (Read ⊎ (Stored ⊎ Seen)) → Checks bytes file shown ends.Done records → (Read → ⊥) → (Stored → ⊥) → (Seen → ⊥) → CompletesCheck end
given_completes once bytes file shown ends.Done records Read Stored Seen a reads r b no_read no_stored no_seen = inl refl
given_completes once bytes file shown ends.NoMemory records Read Stored Seen a reads r b no_read no_stored no_seen = inr refl
given_completes once bytes file shown ends.ReadFault records Read Stored Seen a reads r b no_read no_stored no_seen = absurd (⊎_elim no_read (λ x. ⊎_elim no_stored no_seen x) r)
given_completes once bytes file shown ends.WriteFault records Read Stored Seen a reads r b no_read no_stored no_seen = absurd reads
given_completes once bytes file shown (ends.BadPictures kind place) records Read Stored Seen a reads r b no_read no_stored no_seen = inl (once bytes file shown (ends.BadPictures kind place) a.0 records a.1 b)
given_completes once bytes file shown (ends.BadMovie kind place) records Read Stored Seen a reads r b no_read no_stored no_seen = inl (once bytes file shown (ends.BadMovie kind place) a.0 records a.1 b)
given_completes once bytes file shown (ends.BadFrame sample kind place) records Read Stored Seen a reads r b no_read no_stored no_seen = inl (once bytes file shown (ends.BadFrame sample kind place) a.0 records a.1 b)
given_completes once bytes file shown (ends.BadProof kind place) records Read Stored Seen a reads r b no_read no_stored no_seen = inl (once bytes file shown (ends.BadProof kind place) a.0 records a.1 b)
given_completes once bytes file shown (ends.Refused frame clause) records Read Stored Seen a reads r b no_read no_stored no_seen = inl (once bytes file shown (ends.Refused frame clause) a.0 records a.1 b)
