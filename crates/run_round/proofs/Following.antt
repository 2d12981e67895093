-- The records of a proof that is read whole: each is read, is good and agrees with its samples and pictures, and
-- then the proof ends.
use Rattle.std.proofs.Common.{◌≡◌, refl, ℕ, zero, suc, ◌+◌, ◌<◌, inr, List, [], ◌∷◌, length, Option, None, Some, Result, Ok, Err, arith, sym, ap, subst}
use Rattle.pw_outside.specs.Reading.{Fault, Rest, bind, ◌>>=◌}
use Rattle.rate_table.specs.declared.fault.ProofKind.{ProofKind}
use Rattle.rate_cert.specs.declared.settings.Settings.{Settings}
use Rattle.rate_cert.specs.Records.{Record, IsGood}
use Rattle.rate_cert.specs.Head.{head_at}
use Rattle.rate_cert.specs.Files.{Progress, Proved, no_records, after, next_at, records_at, with_others, most_records, proved}
use Rattle.run_look.specs.declared.end.LookEnd.{LookEnd}
use Rattle.run_look.specs.declared.end.LookEnd.TheVariants as ends
use Rattle.run_look.specs.Checking.{frames_in, Step, went, RecordIs, NextIs, RecordsAre}

-- ---- a proof that is read

with-first : (r : Record) (others : Result (List Record) (Fault ProofKind)) (all : List Record) → (others >>= λ rs. Ok (r ∷ rs)) ≡ Ok all
    → (rs : List Record) × (others ≡ Ok rs) × (r ∷ rs ≡ all)
unfolding bind
with-first r (Err f) all e = absurd cc
with-first r (Ok rs) all e = (rs, refl, cc)

abbrev proved-of : (ℕ × Settings) → List Record → Proved
proved-of head records = record { format = head.0; settings = head.1; records = records }

of-records : (head : ℕ × Settings) (rest : Rest) (records : Result (List Record) (Fault ProofKind)) (x : Proved)
    → (records >>= λ rs. Ok (proved-of head rs)) ≡ Ok x → (head ≡ (x.format, x.settings)) × (records ≡ Ok x.records)
unfolding bind
of-records head rest (Err f) x e = absurd cc
of-records head rest (Ok rs) x e =
    let same : proved-of head rs ≡ x = cc in
    ((λ i. ((same i).format, (same i).settings)), (λ i. Ok ((same i).records)))

of-head : (head : Result ((ℕ × Settings) × Rest) (Fault ProofKind)) (x : Proved)
    → (head >>= λ head. records_at (suc most_records) head.0.0 head.0.1 no_records head.1 >>= λ records. Ok (proved-of head.0 records)) ≡ Ok x
    → (rest : Rest) × (head ≡ Ok ((x.format, x.settings), rest)) × (records_at (suc most_records) x.format x.settings no_records rest ≡ Ok x.records)
unfolding bind
of-head (Err f) x e = absurd cc
of-head (Ok (head, rest)) x e =
    let both = of-records head rest (records_at (suc most_records) head.0 head.1 no_records rest) x e in
    (rest, (λ i. Ok (both.0 i, rest)), subst (λ (h : ℕ × Settings). records_at (suc most_records) h.0 h.1 no_records rest ≡ Ok x.records) both.0 both.1)

pub proved-is : (bytes : List ℕ) (x : Proved) → proved bytes ≡ Ok x
    → (rest : Rest) × (head_at (record { place = 0; bytes = bytes }) ≡ Ok ((x.format, x.settings), rest)) × (records_at (suc most_records) x.format x.settings no_records rest ≡ Ok x.records)
unfolding proved
proved-is bytes x e = of-head (head_at (record { place = 0; bytes = bytes })) x e

-- ---- records that are checked

-- Each record, after `frames` frames, is good, and its samples and pictures agree; at the end checking is done.
abbrev pub Follow : (Settings → Record → ℕ → Unit {0} → Step (Unit {0}) → Type 0) → (ℕ → Unit {0} → LookEnd) → Settings → ℕ → List Record → Type 0
Follow Beside at_end s frames [] = at_end frames tt ≡ ends.Done
Follow Beside at_end s frames (r ∷ rs) = IsGood s r × Beside s r frames tt (went tt) × Follow Beside at_end s (frames + frames_in s r) rs

module _ (Beside : Settings → Record → ℕ → Unit {0} → Step (Unit {0}) → Type 0) (at_end : ℕ → Unit {0} → LookEnd) (format : ℕ) (s : Settings) where
  abbrev Are : ℕ → Progress → ℕ → Rest → ℕ → Type 0
  Are most p frames rest records = RecordsAre Beside at_end most format s p frames rest tt ends.Done records

  abbrev Next : ℕ → Progress → ℕ → Result (Option Record × Rest) (Fault ProofKind) → ℕ → Type 0
  Next most p frames next records = NextIs ends.Done ((ends.Done ≡ at_end frames tt) × (records ≡ p.count))
      (λ r behind. RecordIs s frames ends.Done r (Beside s r frames tt)
      (λ more. RecordsAre Beside at_end most format s (after s p (Some r)) (frames + frames_in s r) behind more ends.Done records)) next

  abbrev are-read : List Record → Result (List Record) (Fault ProofKind)
  are-read rs = Ok rs

  at-last : (p : Progress) (frames : ℕ) (rs : List Record) → are-read [] ≡ are-read rs → Follow Beside at_end s frames rs → (ends.Done ≡ at_end frames tt) × (p.count + length rs ≡ p.count)
  at-last p frames [] e h = (sym h, omega arith)
  at-last p frames (r ∷ rs) e h = absurd cc

  next-follows : (most : ℕ) (p : Progress) (frames : ℕ) (rs : List Record) (next : Result (Option Record × Rest) (Fault ProofKind)) → length rs < suc most
      → (next >>= λ next. with_others next.0 (records_at most format s (after s p next.0) next.1)) ≡ Ok rs → Follow Beside at_end s frames rs
      → ((r : Record) (behind : Rest) (others : List Record) → length others < most → records_at most format s (after s p (Some r)) behind ≡ Ok others
      → Follow Beside at_end s (frames + frames_in s r) others → Are most (after s p (Some r)) (frames + frames_in s r) behind ((after s p (Some r)).count + length others))
      → Next most p frames next (p.count + length rs)
  unfolding bind
  next-follows most p frames rs (Err f) few e h others = absurd cc
  next-follows most p frames rs (Ok (None, behind)) few e h others = at-last p frames rs e h
  next-follows most p frames rs (Ok (Some r, behind)) few e h others =
      let more = with-first r (records_at most format s (after s p (Some r)) behind) rs e in
      let rest = more.0 in
      let here : Follow Beside at_end s frames (r ∷ rest) = subst (Follow Beside at_end s frames) (sym more.2) h in
      let number : length rs ≡ suc (length rest) = ap length (sym more.2) in
      let count : (p.count + 1) + length rest ≡ p.count + length rs = omega (arith, number) in
      let are = others r behind rest (omega (arith, few, number)) more.1 here.2 in
      inr (here.0, went tt, here.1, subst (Are most (after s p (Some r)) (frames + frames_in s r) behind) count are)

  pub all-follow : (most : ℕ) (p : Progress) (frames : ℕ) (rest : Rest) (rs : List Record) → length rs < most → records_at most format s p rest ≡ Ok rs
      → Follow Beside at_end s frames rs → RecordsAre Beside at_end most format s p frames rest tt ends.Done (p.count + length rs)
  unfolding RecordsAre records_at
  all-follow zero p frames rest rs few e h = absurd (omega (arith, few))
  all-follow (suc most) p frames rest rs few e h = next-follows most p frames rs (next_at format p rest) few e h
      (λ r behind others lt read follow. all-follow most (after s p (Some r)) (frames + frames_in s r) behind others lt read follow)
