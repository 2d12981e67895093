-- Rewriting a proof in format 2: its outcome, and what is written until then. Our own definitions.
use Rattle.std.specs.Prelude.{◌≡◌, ◌≤◌, ◌⊎◌, ℕ, zero, suc, ◌*◌, Bool, true, false, ◌&&◌, nat_lt, if◌then◌else◌, List, [], ◌∷◌, ◌++◌, length, Option, None, Some, Result, Ok, Err, codes}
use Rattle.std.specs.Bool.{OnTrue, OnFalse}
use Rattle.std.specs.Fmt.{decimal}
use Rattle.std.specs.List.{flat_map, list_all}
use Rattle.pw_outside.specs.Ports.{Rose}
use Rattle.pw_outside.specs.Reading.{Fault, Rest, AreBytes}
use Rattle.pw_outside.specs.Writing.{SinkState, Puts, PutsFront}
use Rattle.rate_table.specs.declared.entry.Pair.{Pair}
use Rattle.rate_table.specs.declared.fault.ProofKind.{ProofKind}
use Rattle.rate_table.specs.Records.{InOrder}
use Rattle.rate_cert.specs.declared.settings.Settings.{Settings}
use Rattle.rate_cert.specs.Records.{Record, Said, fits, none}
use Rattle.rate_cert.specs.Head.{head_bytes, head_at}
use Rattle.rate_cert.specs.Files.{Progress, no_records, after, next_at, most_records, record_bytes, end_bytes, Proved, proved}
use Rattle.run_look.specs.declared.end.LookEnd.{LookEnd}
use Rattle.run_look.specs.declared.end.LookEnd.TheVariants as ends
use Rattle.run_look.specs.Ends.{AnswersEnd, AnswersUnlessOutside}

-- ---- the clause that is checked

-- Sizes rise and errors fall.
abbrev pub is_in_order : List Pair → Bool
is_in_order [] = true
is_in_order (p ∷ []) = true
is_in_order (p ∷ q ∷ ps) = nat_lt p.size q.size && (nat_lt q.error p.error && is_in_order (q ∷ ps))

-- whether the layers of a record, if it has any, can be written as differences
abbrev pub keeps_order : Said → Bool
keeps_order (fits p) = list_all is_in_order p.layers
keeps_order (none least) = true

-- the same in the words of clause 6
abbrev pub KeepsOrder : Said → Type 0
KeepsOrder (fits p) = InOrder p
KeepsOrder (none least) = Unit {0}

-- ---- the records

-- the outcome, and the records that are written until then
pub record Rewritten : Type 0 where
  pub end : LookEnd
  pub records : List Record

abbrev pub with_first : Record → Rewritten → Rewritten
with_first r w = record { end = w.end; records = r ∷ w.records }

-- A record that was read is written if its layers keep the order; otherwise clause 6 is refused at its first frame.
abbrev pub rewritten_by : Settings → Progress → Result (Option Record × Rest) (Fault ProofKind) → (Record → Rest → Rewritten) → Rewritten
rewritten_by s p (Err f) others = record { end = ends.BadProof f.kind f.place; records = [] }
rewritten_by s p (Ok (None, behind)) others = record { end = ends.Done; records = [] }
rewritten_by s p (Ok (Some r, behind)) others =
    if keeps_order r.said then with_first r (others r behind) else record { end = ends.Refused (p.count * s.group) 6; records = [] }

-- the records from here on, at most this number
unfoldable pub rewritten_at : ℕ → ℕ → Settings → Progress → Rest → Rewritten
rewritten_at zero format s p rest = record { end = ends.Done; records = [] }
rewritten_at (suc most) format s p rest = rewritten_by s p (next_at format p rest) (λ r behind. rewritten_at most format s (after s p (Some r)) behind)

-- ---- a whole proof

-- the outcome, and what is written until then: the proof in format 2, and the line that is printed
pub record Reproofed : Type 0 where
  pub end : LookEnd
  pub cert : List ℕ
  pub text : List ℕ

abbrev pub reproof_text : ℕ → List ℕ
reproof_text records = codes "records " ++ decimal records ++ codes "\n"

-- bytes that are written only if the run is done
abbrev pub where_done : LookEnd → List ℕ → List ℕ
where_done ends.Done bytes = bytes
where_done _ bytes = []

abbrev pub reproofed_of : Settings → Rewritten → Reproofed
reproofed_of s w = record {
  end = w.end;
  cert = head_bytes 2 s ++ (flat_map (record_bytes 2) w.records ++ where_done w.end (end_bytes (length w.records)));
  text = where_done w.end (reproof_text (length w.records));
}

abbrev pub reproofed_by : Result ((ℕ × Settings) × Rest) (Fault ProofKind) → Reproofed
reproofed_by (Err f) = record { end = ends.BadProof f.kind f.place; cert = []; text = [] }
reproofed_by (Ok (head, rest)) = reproofed_of head.1 (rewritten_at (suc most_records) head.0 head.1 no_records rest)

-- Rewriting the bytes of a proof, if no port fails and memory lasts: the settings, the records one after the other,
-- and the end. (A mark after 1,000,000 records is a fault or the end, so that the number in `rewritten_at` doesn't
-- run out.)
unfoldable pub reproofed : List ℕ → Reproofed
reproofed bytes = reproofed_by (head_at (record { place = 0; bytes = bytes }))

-- ---- the parts of a run

-- the outcome at the next record
abbrev pub StopsThere : Settings → Progress → Result (Option Record × Rest) (Fault ProofKind) → LookEnd → Type 0
StopsThere s p (Err f) end = end ≡ ends.BadProof f.kind f.place
StopsThere s p (Ok (None, behind)) end = ⊥
StopsThere s p (Ok (Some r, behind)) end = (keeps_order r.said ≡ false) × (end ≡ ends.Refused (p.count * s.group) 6)

abbrev pub KeepsOrderIf : Option Record → Type 0
KeepsOrderIf None = Unit {0}
KeepsOrderIf (Some r) = keeps_order r.said ≡ true

-- The result of reading the next record: one that keeps the order or none, and the rest after it; or the outcome
-- there.
abbrev pub NextInOrder : ℕ → Settings → Progress → Rest → Result (Option Record) LookEnd → Rest → Type 0
NextInOrder format s p rest (Ok next) behind = (next_at format p rest ≡ Ok (next, behind)) × KeepsOrderIf next
NextInOrder format s p rest (Err end) behind = AnswersEnd end (StopsThere s p (next_at format p rest))

-- the outcome of a part of a run
abbrev pub end_of : {X : Type 0} → Result X LookEnd → LookEnd
end_of (Ok x) = ends.Done
end_of (Err end) = end

-- The count is the number of records if all were written; an error is the outcome, unless a port failed or memory
-- ran out.
abbrev pub EndsAs : Result ℕ LookEnd → Rewritten → Type 0
EndsAs (Ok n) w = (w.end ≡ ends.Done) × (n ≡ length w.records)
EndsAs (Err end) w = AnswersUnlessOutside end w.end

-- ---- the effect of a run

-- If the input determined the outcome, the sink took all of these bytes; if a port failed or memory ran out, a
-- prefix of them.
abbrev pub PutsUntil : LookEnd → List ℕ → SinkState → SinkState → Type 0
PutsUntil ends.NoMemory bytes before after = PutsFront before after bytes
PutsUntil ends.ReadFault bytes before after = PutsFront before after bytes
PutsUntil ends.WriteFault bytes before after = PutsFront before after bytes
PutsUntil _ bytes before after = Puts before after bytes

-- The second proof is the first one in format 2: the same settings and records.
abbrev pub SaysTheSame : List ℕ → List ℕ → Type 0
SaysTheSame old new = (p : Proved) × (proved old ≡ Ok p) × (proved new ≡ Ok (record { format = 2; settings = p.settings; records = p.records }))

-- The bytes are a proof without a fault, in this format.
abbrev pub IsProofIn : ℕ → List ℕ → Type 0
IsProofIn format bytes = (p : Proved) × (proved bytes ≡ Ok p) × (p.format ≡ format)

-- A proof in format 2 is rewritten byte for byte: the outcome is Done, and the output is the input.
abbrev pub StaysAsItIs : Type 0
StaysAsItIs = (bytes : List ℕ) → AreBytes bytes → IsProofIn 2 bytes → ((reproofed bytes).end ≡ ends.Done) × ((reproofed bytes).cert ≡ bytes)
