-- Rewriting the records of a proof, one after the other.
use Rattle.std.proofs.Common.{◌≡◌, ℕ, suc, ◌+◌, ◌-◌, ◌≤◌, true, Option, None, Some, Result, Ok, Err, List, [], ◌∷◌, ◌++◌, length, refl, sym, ap, subst, arith, append_assoc, append-nil, ◌∙◌}
use Rattle.std.specs.List.{flat_map}
use Rattle.std.proofs.lemmas.List.Concat.{flat_map-append, flat_map-cons}
use Rattle.pw_outside.specs.Reading.{Fault, Rest}
use Rattle.pw_outside.specs.Writing.{SinkState, Puts, PutsFront, Extends}
use Rattle.pw_outside.proofs.Puts.{puts_then, puts_front, front_more, then_front, front_extends}
use Rattle.rate_table.specs.declared.fault.ProofKind.{ProofKind}
use Rattle.rate_cert.specs.declared.settings.Settings.{Settings}
use Rattle.rate_cert.specs.Records.{Record}
use Rattle.rate_cert.specs.Files.{Progress, no_records, after, further, next_at, most_records, record_bytes, IsWritten, MayStand, Writing}
use Rattle.rate_cert.specs.Laws.{AreWritten}
use Rattle.run_look.specs.declared.end.LookEnd.{LookEnd}
use Rattle.run_look.specs.declared.end.LookEnd.TheVariants as ends
use Rattle.run_look.specs.Reproofing.{keeps_order, Rewritten, with_first, rewritten_by, rewritten_at, StopsThere, NextInOrder, EndsAs, PutsUntil}
use Rattle.run_look.proofs.Alone.{marks_left, suc_left}

-- ---- records that were written

-- the progress of reading after these records
abbrev pub behind_all : Settings → Progress → List Record → Progress
behind_all s p [] = p
behind_all s p (r ∷ rs) = behind_all s (further s p r) rs

behind_push : (s : Settings) (p : Progress) (rs : List Record) (r : Record) → behind_all s p (rs ++ r ∷ []) ≡ further s (behind_all s p rs) r
behind_push s p [] r = refl
behind_push s p (x ∷ rs) r = behind_push s (further s p x) rs r

behind_count : (s : Settings) (p : Progress) (rs : List Record) → (behind_all s p rs).count ≡ p.count + length rs
behind_count s p [] = omega arith
behind_count s p (x ∷ rs) = let h = behind_count s (further s p x) rs in omega (arith, h)

written_push : (format : ℕ) (s : Settings) (p : Progress) (rs : List Record) (r : Record) → AreWritten format s p rs → MayStand (behind_all s p rs) → IsWritten format r → AreWritten format s p (rs ++ r ∷ [])
written_push format s p [] r are may is = (may, is, tt)
written_push format s p (x ∷ rs) r are may is = (are.0, are.1, written_push format s (further s p x) rs r are.2 may is)

-- ---- the result for the records that are left

abbrev pub with_all : List Record → Rewritten → Rewritten
with_all front w = record { end = w.end; records = front ++ w.records }

abbrev pub nothing : LookEnd → Rewritten
nothing end = record { end = end; records = [] }

with_all-push : (front : List Record) (r : Record) (w : Rewritten) → with_all front (with_first r w) ≡ with_all (front ++ r ∷ []) w
with_all-push front r w = ap (λ (l : List Record). record { end = w.end; records = l }) (sym (append_assoc front (r ∷ []) w.records))

-- the records that are left, if this number of marks may still be read
abbrev pub rewritten_from : ℕ → Settings → Progress → Rest → Rewritten
rewritten_from format s p rest = rewritten_at (marks_left p) format s p rest

-- the same of a record that was read
pub by_more : (s : Settings) (p : Progress) (next : Result (Option Record × Rest) (Fault ProofKind)) (r : Record) (behind : Rest) (others : Record → Rest → Rewritten)
    → next ≡ Ok (Some r, behind) → keeps_order r.said ≡ true → rewritten_by s p next others ≡ with_first r (others r behind)
by_more s p next r behind others e order = rw (e, order) refl

pub by_end : (s : Settings) (p : Progress) (next : Result (Option Record × Rest) (Fault ProofKind)) (behind : Rest) (others : Record → Rest → Rewritten)
    → next ≡ Ok (None, behind) → rewritten_by s p next others ≡ nothing ends.Done
by_end s p next behind others e = rw e refl

by_stop : (s : Settings) (p : Progress) (next : Result (Option Record × Rest) (Fault ProofKind)) (end : LookEnd) (others : Record → Rest → Rewritten)
    → StopsThere s p next end → rewritten_by s p next others ≡ nothing end
by_stop s p (Err f) end others h = ap nothing (sym h)
by_stop s p (Ok (None, behind)) end others h = absurd h
by_stop s p (Ok (Some r, behind)) end others h = rw h.0 (ap nothing (sym h.1))

pub from-more : (format : ℕ) (s : Settings) (p : Progress) (rest behind : Rest) (r : Record) → p.count ≤ most_records → next_at format p rest ≡ Ok (Some r, behind) → keeps_order r.said ≡ true
    → rewritten_from format s p rest ≡ with_first r (rewritten_from format s (after s p (Some r)) behind)
unfolding rewritten_at
from-more format s p rest behind r le e order =
    let left : most_records - p.count ≡ marks_left (after s p (Some r)) = omega arith in
    ap (λ (k : ℕ). rewritten_at k format s p rest) (suc_left p le)
    ∙ by_more s p (next_at format p rest) r behind (λ r behind. rewritten_at (most_records - p.count) format s (after s p (Some r)) behind) e order
    ∙ ap (λ (k : ℕ). with_first r (rewritten_at k format s (after s p (Some r)) behind)) left

pub from-end : (format : ℕ) (s : Settings) (p : Progress) (rest behind : Rest) → p.count ≤ most_records → next_at format p rest ≡ Ok (None, behind) → rewritten_from format s p rest ≡ nothing ends.Done
unfolding rewritten_at
from-end format s p rest behind le e =
    ap (λ (k : ℕ). rewritten_at k format s p rest) (suc_left p le)
    ∙ by_end s p (next_at format p rest) behind (λ r behind. rewritten_at (most_records - p.count) format s (after s p (Some r)) behind) e

pub from-stop : (format : ℕ) (s : Settings) (p : Progress) (rest : Rest) (end : LookEnd) → p.count ≤ most_records → StopsThere s p (next_at format p rest) end → rewritten_from format s p rest ≡ nothing end
unfolding rewritten_at
from-stop format s p rest end le h =
    ap (λ (k : ℕ). rewritten_at k format s p rest) (suc_left p le)
    ∙ by_stop s p (next_at format p rest) end (λ r behind. rewritten_at (most_records - p.count) format s (after s p (Some r)) behind) h

-- ---- the loop's invariant

-- These records were written: the sink took them; if the bytes are visible, they come before those still to be
-- read.
pub record SoFar (Known : Type 0) (s : Settings) (p : Progress) (before now : SinkState) (all here : Rewritten) : Type 0 where
  pub front : List Record
  pub are : AreWritten 2 s no_records front
  pub reached : behind_all s no_records front ≡ p
  pub puts : Puts before now (flat_map (record_bytes 2) front)
  pub whole : Known → all ≡ with_all front here

module _ {Known : Type 0} {s : Settings} {p : Progress} {before now : SinkState} {all here : Rewritten} (f : SoFar Known s p before now all here) where
  pub so_far-count : length f.front ≡ p.count
  so_far-count = let h = behind_count s no_records f.front in omega (arith, h, ap (λ (q : Progress). q.count) f.reached)

  pub so_far-more : (p' : Progress) (now' : SinkState) (here' : Rewritten) (r : Record) → (Known → here ≡ with_first r here') → MayStand p → IsWritten 2 r → p' ≡ further s p r
      → Puts now now' (record_bytes 2 r) → SoFar Known s p' before now' all here'
  so_far-more p' now' here' r e may is reached puts = record {
    front = f.front ++ r ∷ [];
    are = written_push 2 s no_records f.front r f.are (subst MayStand (sym f.reached) may) is;
    reached = behind_push s no_records f.front r ∙ ap (λ (q : Progress). further s q r) f.reached ∙ sym reached;
    puts = subst (Puts before now') (sym (flat_map-append (record_bytes 2) f.front (r ∷ []) ∙ ap (λ (l : List ℕ). flat_map (record_bytes 2) f.front ++ l) (flat_map-cons (record_bytes 2) r [] ∙ append-nil (record_bytes 2 r)))) (puts_then f.puts puts);
    whole = λ h. f.whole h ∙ ap (with_all f.front) (e h) ∙ with_all-push f.front r here';
  }

  -- the bytes of all records begin with those that were written
  all_bytes : (found : Rewritten) → all ≡ with_all f.front found → flat_map (record_bytes 2) all.records ≡ flat_map (record_bytes 2) f.front ++ flat_map (record_bytes 2) found.records
  all_bytes found e = ap (λ (w : Rewritten). flat_map (record_bytes 2) w.records) e ∙ flat_map-append (record_bytes 2) f.front found.records

  pub so_far-front : Known → PutsFront before now (flat_map (record_bytes 2) all.records)
  so_far-front h = subst (PutsFront before now) (sym (all_bytes here (f.whole h))) (front_more (flat_map (record_bytes 2) here.records) (puts_front f.puts))

  pub so_far-extends : Extends before now
  so_far-extends = (flat_map (record_bytes 2) f.front, f.puts)

  -- nothing is left
  all_is : (end : LookEnd) → Known → here ≡ nothing end → all.records ≡ f.front
  all_is end h e = ap (λ (w : Rewritten). w.records) (f.whole h ∙ ap (with_all f.front) e) ∙ append-nil f.front

  pub all_end : (end : LookEnd) → Known → here ≡ nothing end → all.end ≡ end
  all_end end h e = ap (λ (w : Rewritten). w.end) (f.whole h ∙ ap (with_all f.front) e)

  pub so_far-whole : (end : LookEnd) → Known → here ≡ nothing end → Puts before now (flat_map (record_bytes 2) all.records)
  so_far-whole end h e = subst (λ (rs : List Record). Puts before now (flat_map (record_bytes 2) rs)) (sym (all_is end h e)) f.puts

  pub so_far-written : (end : LookEnd) → Known → here ≡ nothing end → AreWritten 2 s no_records all.records
  so_far-written end h e = subst (AreWritten 2 s no_records) (sym (all_is end h e)) f.are

  pub so_far-ends : (n : ℕ) → Known → here ≡ nothing ends.Done → p.count ≡ n → EndsAs (Ok n) all
  so_far-ends n h e count = (all_end ends.Done h e, let k = so_far-count in omega (arith, k, count, ap length (all_is ends.Done h e)))

  -- a record was read, and a prefix of it was written
  pub so_far-part : (now' : SinkState) (here' : Rewritten) (r : Record) → Known → here ≡ with_first r here' → PutsFront now now' (record_bytes 2 r) → PutsFront before now' (flat_map (record_bytes 2) all.records)
  so_far-part now' here' r h e part =
      let rest = flat_map (record_bytes 2) here'.records in
      let split : flat_map (record_bytes 2) all.records ≡ flat_map (record_bytes 2) f.front ++ (record_bytes 2 r ++ rest) =
      all_bytes (with_first r here') (f.whole h ∙ ap (with_all f.front) e) ∙ ap (λ (l : List ℕ). flat_map (record_bytes 2) f.front ++ l) (flat_map-cons (record_bytes 2) r here'.records) in
      subst (PutsFront before now') (sym split) (then_front f.puts (front_more rest part))

  pub part_extends : (now' : SinkState) (r : Record) → PutsFront now now' (record_bytes 2 r) → Extends before now'
  part_extends now' r part = front_extends before now' (flat_map (record_bytes 2) f.front ++ record_bytes 2 r) (then_front f.puts part)

-- nothing was written yet
pub so_far-none : (Known : Type 0) (format : ℕ) (s : Settings) (p : Progress) (rest : Rest) (before : SinkState) → p ≡ no_records → Puts before before []
    → SoFar Known s p before before (rewritten_at (suc most_records) format s no_records rest) (rewritten_from format s p rest)
so_far-none Known format s p rest before e none = record {
  front = [];
  are = tt;
  reached = sym e;
  puts = none;
  whole = λ h. ap (λ (q : Progress). rewritten_from format s q rest) (sym e);
}

-- ---- by the result of reading the next record

pub from-on : (format format' : ℕ) (s s' : Settings) (p p' : Progress) (rest behind : Rest) (next : Option Record) (r : Record) → next ≡ Some r → NextInOrder format s p rest (Ok next) behind
    → format' ≡ format → s' ≡ s → p' ≡ after s p next → p.count ≤ most_records → rewritten_from format s p rest ≡ with_first r (rewritten_from format' s' p' behind)
from-on format format' s s' p p' rest behind next r e is ef es ep le =
    let here : NextInOrder format s p rest (Ok (Some r)) behind = subst (λ (x : Option Record). NextInOrder format s p rest (Ok x) behind) e is in
    let reached : after s p (Some r) ≡ p' = sym (ep ∙ ap (λ (x : Option Record). after s p x) e) in
    from-more format s p rest behind r le here.0 here.1
    ∙ ap (λ (q : Progress). with_first r (rewritten_from format s q behind)) reached
    ∙ ap (λ (x : Settings). with_first r (rewritten_from format x p' behind)) (sym es)
    ∙ ap (λ (k : ℕ). with_first r (rewritten_from k s' p' behind)) (sym ef)

pub from-over : (format : ℕ) (s : Settings) (p : Progress) (rest behind : Rest) (next : Option Record) → ((r : Record) → next ≡ Some r → ⊥) → NextInOrder format s p rest (Ok next) behind
    → p.count ≤ most_records → rewritten_from format s p rest ≡ nothing ends.Done
from-over format s p rest behind None not is le = from-end format s p rest behind le is.0
from-over format s p rest behind (Some r) not is le = absurd (not r refl)

pub so_far-err : {Known : Type 0} {s' : Settings} {before now : SinkState} {all : Rewritten} (format : ℕ) (s : Settings) (p : Progress) (rest behind : Rest) (end : LookEnd)
    → SoFar Known s' p before now all (rewritten_from format s p rest) → Known → p.count ≤ most_records → NextInOrder format s p rest (Err end) behind
    → EndsAs (Err end) all × PutsUntil end (flat_map (record_bytes 2) all.records) before now
so_far-err format s p rest behind ends.NoMemory f h le is = (tt, so_far-front f h)
so_far-err format s p rest behind ends.ReadFault f h le is = (tt, so_far-front f h)
so_far-err format s p rest behind ends.WriteFault f h le is = (tt, so_far-front f h)
so_far-err format s p rest behind ends.Done f h le is = let e = from-stop format s p rest ends.Done le is in (sym (all_end f _ h e), so_far-whole f _ h e)
so_far-err format s p rest behind (ends.BadPictures kind place) f h le is = let e = from-stop format s p rest (ends.BadPictures kind place) le is in (sym (all_end f _ h e), so_far-whole f _ h e)
so_far-err format s p rest behind (ends.BadMovie kind place) f h le is = let e = from-stop format s p rest (ends.BadMovie kind place) le is in (sym (all_end f _ h e), so_far-whole f _ h e)
so_far-err format s p rest behind (ends.BadFrame sample kind place) f h le is = let e = from-stop format s p rest (ends.BadFrame sample kind place) le is in (sym (all_end f _ h e), so_far-whole f _ h e)
so_far-err format s p rest behind (ends.BadProof kind place) f h le is = let e = from-stop format s p rest (ends.BadProof kind place) le is in (sym (all_end f _ h e), so_far-whole f _ h e)
so_far-err format s p rest behind (ends.Refused frame clause) f h le is = let e = from-stop format s p rest (ends.Refused frame clause) le is in (sym (all_end f _ h e), so_far-whole f _ h e)

-- the progress of writing after a record
pub written_on : (s : Settings) (p : Progress) (w w' : Writing) (p' : Progress) (r : Record) → w' ≡ record { settings = w.settings; format = w.format; progress = further w.settings w.progress r }
    → w ≡ record { settings = s; format = 2; progress = p } → p' ≡ further s p r → w' ≡ record { settings = s; format = 2; progress = p' }
written_on s p w w' p' r e is reached =
    e ∙ ap (λ (x : Writing). record { settings = x.settings; format = x.format; progress = further x.settings x.progress r }) is
    ∙ ap (λ (q : Progress). record { settings = s; format = 2; progress = q }) (sym reached)
