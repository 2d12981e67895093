-- Checking a proof ends in only one way.
use Rattle.std.proofs.Common.{◌≡◌, ℕ, zero, suc, ◌+◌, inl, inr, List, Option, None, Some, Result, Ok, Err, refl, sym, ap, subst, ◌∙◌}
use Rattle.std.specs.Bool.{OnTrue}
use Rattle.pw_outside.specs.Reading.{Fault, Rest}
use Rattle.rate_table.specs.declared.fault.ProofKind.{ProofKind}
use Rattle.rate_table.specs.Table.{Table}
use Rattle.rate_table.specs.Records.{Printed, IsGoodFit, SaysNone, HasEntries, SumsAreRight, BeginsEmpty, InOrder, AllStep, EndsAbove}
use Rattle.rate_cert.specs.declared.settings.Settings.{Settings}
use Rattle.rate_cert.specs.Records.{Record, Said, fits, none, IsGood, IsGoodVerdict, IsTableOf, HasCountsOf, Fails, FailsVerdict, FailsFit, FailsLayers, Asks, AsksNothing}
use Rattle.rate_cert.specs.Head.{head_at}
use Rattle.rate_cert.specs.Files.{Progress, no_records, after, next_at, most_records}
use Rattle.run_look.specs.declared.end.LookEnd.{LookEnd}
use Rattle.run_look.specs.declared.end.LookEnd.TheVariants as ends
use Rattle.run_look.specs.Ends.{AnswersEnd, IsReadersEnd, is_read_fault, is_write_fault, is_stopped_by_source}
use Rattle.run_look.specs.Checking.{frames_in, Goes, RecordIs, NextIs, RecordsAre, Alone, done_at_end, RecordsAlone, HeadIs, ChecksAlone, EndsOnce, CompletesCheck}

-- ---- the first clause that fails is unique

asks_once : (k : ℕ) (P : Type 0) (behind : ℕ → Type 0) (n m : ℕ) → (behind n → behind m → n ≡ m) → Asks k P behind n → Asks k P behind m → n ≡ m
asks_once k P behind n m h (inl a) (inl b) = a.0 ∙ sym b.0
asks_once k P behind n m h (inl a) (inr b) = absurd (a.1 b.0)
asks_once k P behind n m h (inr a) (inl b) = absurd (b.1 a.0)
asks_once k P behind n m h (inr a) (inr b) = h a.1 b.1

asks_not : (k : ℕ) (P : Type 0) (behind : ℕ → Type 0) (n : ℕ) → P → (behind n → ⊥) → Asks k P behind n → ⊥
asks_not k P behind n p h (inl a) = a.1 p
asks_not k P behind n p h (inr a) = h a.1

abbrev above : Table → Printed → ℕ → Type 0
above t r = Asks 8 (EndsAbove t r) AsksNothing

abbrev steps : Table → Printed → ℕ → Type 0
steps t r = Asks 7 (AllStep t r t.slices r.layers) (above t r)

abbrev order : Table → Printed → ℕ → Type 0
order t r = Asks 6 (InOrder r) (steps t r)

layers_once : (t : Table) (r : Printed) (n m : ℕ) → FailsLayers t r n → FailsLayers t r m → n ≡ m
layers_once t r n m a b =
    asks_once 5 (BeginsEmpty r) (order t r) n m (λ a b.
    asks_once 6 (InOrder r) (steps t r) n m (λ a b.
    asks_once 7 (AllStep t r t.slices r.layers) (above t r) n m (λ a b.
    asks_once 8 (EndsAbove t r) AsksNothing n m (λ a b. absurd a) a b) a b) a b) a b

fit_once : (t : Table) (r : Printed) (n m : ℕ) → FailsFit t r n → FailsFit t r m → n ≡ m
fit_once t r n m a b = asks_once 3 (HasEntries t r) (Asks 4 (SumsAreRight t r) (FailsLayers t r)) n m (λ a b. asks_once 4 (SumsAreRight t r) (FailsLayers t r) n m (layers_once t r n m) a b) a b

verdict_once : (t : Table) (s : Said) (n m : ℕ) → FailsVerdict t s n → FailsVerdict t s m → n ≡ m
verdict_once t (fits r) n m a b = fit_once t r n m a b
verdict_once t (none least) n m a b = asks_once 2 (SaysNone t least) AsksNothing n m (λ a b. absurd a) a b

fails_once : (s : Settings) (r : Record) (n m : ℕ) → Fails s r n → Fails s r m → n ≡ m
fails_once s r n m a b = asks_once 1 (IsTableOf s r.table × HasCountsOf r.table r.said) (FailsVerdict r.table r.said) n m (verdict_once r.table r.said n m) a b

-- a good record fails none

fit_fails_none : (t : Table) (r : Printed) (n : ℕ) → IsGoodFit t r → FailsFit t r n → ⊥
fit_fails_none t r n g a =
    asks_not 3 (HasEntries t r) (Asks 4 (SumsAreRight t r) (FailsLayers t r)) n g.entries (λ a.
    asks_not 4 (SumsAreRight t r) (FailsLayers t r) n g.sums (λ a.
    asks_not 5 (BeginsEmpty r) (order t r) n g.first (λ a.
    asks_not 6 (InOrder r) (steps t r) n g.order (λ a.
    asks_not 7 (AllStep t r t.slices r.layers) (above t r) n g.steps (λ a.
    asks_not 8 (EndsAbove t r) AsksNothing n g.last (λ a. a) a) a) a) a) a) a

verdict_fails_none : (t : Table) (s : Said) (n : ℕ) → IsGoodVerdict t s → FailsVerdict t s n → ⊥
verdict_fails_none t (fits r) n g a = fit_fails_none t r n g a
verdict_fails_none t (none least) n g a = asks_not 2 (SaysNone t least) AsksNothing n g (λ a. a) a

has_counts : (t : Table) (s : Said) → IsGoodVerdict t s → HasCountsOf t s
has_counts t (fits r) g = g.counts
has_counts t (none least) g = tt

pub fails_none : (s : Settings) (r : Record) (n : ℕ) → IsGood s r → Fails s r n → ⊥
fails_none s r n g a = asks_not 1 (IsTableOf s r.table × HasCountsOf r.table r.said) (FailsVerdict r.table r.said) n (g.table, has_counts r.table r.said g.verdict) (verdict_fails_none r.table r.said n g.verdict) a

-- ---- the records

abbrev Both : LookEnd → LookEnd → ℕ → ℕ → Type 0
Both e f m n = (e ≡ f) × (e ≡ ends.Done → m ≡ n)

refused_done : (e : LookEnd) (frame clause m n : ℕ) → e ≡ ends.Refused frame clause → e ≡ ends.Done → m ≡ n
refused_done e frame clause m n a b = absurd cc

bad_done : (e : LookEnd) (kind : ProofKind) (place m n : ℕ) → e ≡ ends.BadProof kind place → e ≡ ends.Done → m ≡ n
bad_done e kind place m n a b = absurd cc

record_once : (s : Settings) (frames : ℕ) (e f : LookEnd) (m n : ℕ) (r : Record) (Behind : LookEnd → ℕ → Unit {0} → Type 0) → (Behind e m tt → Behind f n tt → Both e f m n)
    → RecordIs s frames e r (Alone s r frames tt) (Behind e m) → RecordIs s frames f r (Alone s r frames tt) (Behind f n) → Both e f m n
record_once s frames e f m n r Behind h (inl a) (inl b) =
    (a.2 ∙ ap (λ (k : ℕ). ends.Refused frames k) (fails_once s r a.0 b.0 a.1 b.1) ∙ sym b.2, refused_done e frames a.0 m n a.2)
record_once s frames e f m n r Behind h (inl a) (inr b) = absurd (fails_none s r a.0 b.0 a.1)
record_once s frames e f m n r Behind h (inr a) (inl b) = absurd (fails_none s r b.0 a.0 b.1)
record_once s frames e f m n r Behind h (inr a) (inr b) = h (subst (Goes e (Behind e m)) a.2 a.3) (subst (Goes f (Behind f n)) b.2 b.3)

next_once : (s : Settings) (p : Progress) (frames : ℕ) (e f : LookEnd) (m n : ℕ) (next : Result (Option Record × Rest) (Fault ProofKind)) (Behind : Record → Rest → LookEnd → ℕ → Unit {0} → Type 0)
    → ((r : Record) (behind : Rest) → Behind r behind e m tt → Behind r behind f n tt → Both e f m n)
    → NextIs e ((e ≡ ends.Done) × (m ≡ p.count)) (λ r behind. RecordIs s frames e r (Alone s r frames tt) (Behind r behind e m)) next
    → NextIs f ((f ≡ ends.Done) × (n ≡ p.count)) (λ r behind. RecordIs s frames f r (Alone s r frames tt) (Behind r behind f n)) next → Both e f m n
next_once s p frames e f m n (Err x) Behind h a b = (a ∙ sym b, bad_done e x.kind x.place m n a)
next_once s p frames e f m n (Ok (None, behind)) Behind h a b = (a.0 ∙ sym b.0, λ d. a.1 ∙ sym b.1)
next_once s p frames e f m n (Ok (Some r, behind)) Behind h a b = record_once s frames e f m n r (Behind r behind) (h r behind) a b

records_once : (most format : ℕ) (s : Settings) (p : Progress) (frames : ℕ) (rest : Rest) (e f : LookEnd) (m n : ℕ)
    → RecordsAre Alone done_at_end most format s p frames rest tt e m → RecordsAre Alone done_at_end most format s p frames rest tt f n → Both e f m n
unfolding RecordsAre
records_once zero format s p frames rest e f m n a b = absurd a
records_once (suc most) format s p frames rest e f m n a b =
    next_once s p frames e f m n (next_at format p rest)
    (λ r behind end records more. RecordsAre Alone done_at_end most format s (after s p (Some r)) (frames + frames_in s r) behind more end records)
    (λ r behind a b. records_once most format s (after s p (Some r)) (frames + frames_in s r) behind e f m n a b) a b

head_once : (e f : LookEnd) (m n : ℕ) (head : Result ((ℕ × Settings) × Rest) (Fault ProofKind))
    → HeadIs e (λ head rest. RecordsAlone head.0 head.1 rest e m) head → HeadIs f (λ head rest. RecordsAlone head.0 head.1 rest f n) head → Both e f m n
head_once e f m n (Err x) a b = (a ∙ sym b, bad_done e x.kind x.place m n a)
head_once e f m n (Ok (head, rest)) a b = records_once (suc most_records) head.0 head.1 no_records 0 rest e f m n a b

pub ends-once : EndsOnce
ends-once bytes e f m n a b = head_once e f m n (head_at (record { place = 0; bytes = bytes })) a b

pub completes : (bytes : List ℕ) (end : LookEnd) (records : ℕ) (Read Write : Type 0) → AnswersEnd end (λ e. (n : ℕ) × ChecksAlone bytes e n)
    → OnTrue (is_read_fault end) Read → OnTrue (is_write_fault end) Write → ChecksAlone bytes ends.Done records → (Read → ⊥) → (Write → ⊥) → CompletesCheck end
completes bytes ends.Done records Read Write a r w b no_read no_write = inl refl
completes bytes ends.NoMemory records Read Write a r w b no_read no_write = inr refl
completes bytes ends.ReadFault records Read Write a r w b no_read no_write = absurd (no_read r)
completes bytes ends.WriteFault records Read Write a r w b no_read no_write = absurd (no_write w)
completes bytes (ends.BadPictures kind place) records Read Write a r w b no_read no_write = inl (ends-once bytes _ ends.Done a.0 records a.1 b).0
completes bytes (ends.BadMovie kind place) records Read Write a r w b no_read no_write = inl (ends-once bytes _ ends.Done a.0 records a.1 b).0
completes bytes (ends.BadFrame sample kind place) records Read Write a r w b no_read no_write = inl (ends-once bytes _ ends.Done a.0 records a.1 b).0
completes bytes (ends.BadProof kind place) records Read Write a r w b no_read no_write = inl (ends-once bytes _ ends.Done a.0 records a.1 b).0
completes bytes (ends.Refused frame clause) records Read Write a r w b no_read no_write = inl (ends-once bytes _ ends.Done a.0 records a.1 b).0

-- the same of a part of a run that only reads
pub reader_completes : (bytes : List ℕ) (end : LookEnd) (records : ℕ) (Read : Type 0) → AnswersEnd end (λ e. (n : ℕ) × ChecksAlone bytes e n) → IsReadersEnd end
    → OnTrue (is_stopped_by_source {X = ℕ} (Err end)) Read → ChecksAlone bytes ends.Done records → (Read → ⊥) → CompletesCheck end
reader_completes bytes ends.Done records Read a reads r b no_read = inl refl
reader_completes bytes ends.NoMemory records Read a reads r b no_read = inr refl
reader_completes bytes ends.ReadFault records Read a reads r b no_read = absurd (no_read r)
reader_completes bytes ends.WriteFault records Read a reads r b no_read = absurd reads
reader_completes bytes (ends.BadPictures kind place) records Read a reads r b no_read = inl (ends-once bytes _ ends.Done a.0 records a.1 b).0
reader_completes bytes (ends.BadMovie kind place) records Read a reads r b no_read = inl (ends-once bytes _ ends.Done a.0 records a.1 b).0
reader_completes bytes (ends.BadFrame sample kind place) records Read a reads r b no_read = inl (ends-once bytes _ ends.Done a.0 records a.1 b).0
reader_completes bytes (ends.BadProof kind place) records Read a reads r b no_read = inl (ends-once bytes _ ends.Done a.0 records a.1 b).0
reader_completes bytes (ends.Refused frame clause) records Read a reads r b no_read = inl (ends-once bytes _ ends.Done a.0 records a.1 b).0
