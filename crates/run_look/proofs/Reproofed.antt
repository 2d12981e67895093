-- A whole proof that is rewritten.
use Rattle.std.proofs.Common.{◌≡◌, ℕ, zero, suc, Bool, true, false, Option, None, Some, Result, Ok, Err, List, [], ◌∷◌, ◌++◌, length, refl, sym, ap, subst, arith, append-nil, if◌then◌else◌, ◌∙◌}
use Rattle.std.specs.List.{flat_map}
use Rattle.pw_outside.specs.Reading.{Fault, Rest, bind, Fails}
use Rattle.pw_outside.specs.Writing.{SinkState, Puts, PutsFront}
use Rattle.pw_outside.proofs.Steps.{bind-step}
use Rattle.pw_outside.proofs.Puts.{puts_then, puts_front, front_more, then_front}
use Rattle.rate_table.specs.declared.fault.ProofKind.{ProofKind}
use Rattle.rate_table.specs.declared.fault.TableFault.{TableFault}
use Rattle.rate_table.specs.declared.fault.TableFault.TheVariants as faults
use Rattle.rate_table.specs.Reading.{told_fault}
use Rattle.rate_cert.specs.declared.settings.Settings.{Settings}
use Rattle.rate_cert.specs.Settings.{IsSettings}
use Rattle.rate_cert.specs.Records.{Record}
use Rattle.rate_cert.specs.Head.{head_bytes, head_at}
use Rattle.rate_cert.specs.Files.{Progress, no_records, after, next_at, records_at, with_others, most_records, record_bytes, end_bytes, proof_bytes, proved}
use Rattle.rate_cert.specs.Laws.{AreWritten}
use Rattle.rate_cert.proofs.Filed.{proof-again}
use Rattle.run_look.specs.declared.end.LookEnd.{LookEnd}
use Rattle.run_look.specs.declared.end.LookEnd.TheVariants as ends
use Rattle.run_look.specs.Ends.{AnswersUnlessOutside, PrintsLine, is_done, fault_end}
use Rattle.run_look.specs.Reproofing.{keeps_order, Rewritten, with_first, rewritten_by, rewritten_at, Reproofed, reproofed_of, reproofed_by, reproofed, reproof_text, where_done, EndsAs, PutsUntil, SaysTheSame}
use Rattle.run_look.proofs.Rewriting.{nothing}

-- ---- the records that were written are those that were read

by_order : (b : Bool) (r : Record) (w : Rewritten) (end : LookEnd) (more : Result (List Record) (Fault ProofKind)) → is_done end ≡ false
    → (if b then with_first r w else nothing end).end ≡ ends.Done → (w.end ≡ ends.Done → more ≡ Ok w.records) → bind more (λ rs. Ok (r ∷ rs)) ≡ Ok (if b then with_first r w else nothing end).records
unfolding bind
by_order true r w end more not e h = rw (h e) refl
by_order false r w end more not e h = let d : is_done end ≡ true = ap is_done e in absurd cc

by_next : (s : Settings) (p : Progress) (next : Result (Option Record × Rest) (Fault ProofKind)) (others : Record → Rest → Rewritten) (more : Option Record → Rest → Result (List Record) (Fault ProofKind))
    → ((r : Record) (behind : Rest) → (others r behind).end ≡ ends.Done → more (Some r) behind ≡ Ok (others r behind).records)
    → (rewritten_by s p next others).end ≡ ends.Done → bind next (λ x. with_others x.0 (more x.0 x.1)) ≡ Ok (rewritten_by s p next others).records
unfolding bind
by_next s p (Err f) others more h e = absurd cc
by_next s p (Ok (None, behind)) others more h e = refl
by_next s p (Ok (Some r, behind)) others more h e = by_order (keeps_order r.said) r (others r behind) _ (more (Some r) behind) refl e (h r behind)

records-read : (most format : ℕ) (s : Settings) (p : Progress) (rest : Rest) → (rewritten_at most format s p rest).end ≡ ends.Done → records_at most format s p rest ≡ Ok (rewritten_at most format s p rest).records
unfolding rewritten_at records_at
records-read zero format s p rest e = refl
records-read (suc most) format s p rest e =
    by_next s p (next_at format p rest) (λ r behind. rewritten_at most format s (after s p (Some r)) behind) (λ next behind. records_at most format s (after s p next) behind)
    (λ r behind h. records-read most format s (after s p (Some r)) behind h) e

-- ---- what is written

pub cert_done : (s : Settings) (w : Rewritten) → w.end ≡ ends.Done → (reproofed_of s w).cert ≡ proof_bytes 2 s w.records
unfolding proof_bytes
cert_done s w e = ap (λ (end : LookEnd). head_bytes 2 s ++ (flat_map (record_bytes 2) w.records ++ where_done end (end_bytes (length w.records)))) e

pub same_said : (bytes : List ℕ) (format : ℕ) (s : Settings) (rest : Rest) → head_at (record { place = 0; bytes = bytes }) ≡ Ok ((format, s), rest) → IsSettings s
    → (rewritten_at (suc most_records) format s no_records rest).end ≡ ends.Done → AreWritten 2 s no_records (rewritten_at (suc most_records) format s no_records rest).records
    → SaysTheSame bytes (reproofed bytes).cert
unfolding proved reproofed
same_said bytes format s rest head is e are =
    let w = rewritten_at (suc most_records) format s no_records rest in
    let new : reproofed_by (head_at (record { place = 0; bytes = bytes })) ≡ reproofed_of s w = ap reproofed_by head in (
      record { format = format; settings = s; records = w.records },
      bind-step _ _ head ∙ bind-step _ _ (records-read (suc most_records) format s no_records rest e),
      ap (λ (x : Reproofed). proved x.cert) new ∙ ap proved (cert_done s w e) ∙ proof-again 2 s w.records (omega arith, omega arith) is are,
    )

-- the header was read
pub by_head : (bytes : List ℕ) (format : ℕ) (s : Settings) (rest : Rest) → head_at (record { place = 0; bytes = bytes }) ≡ Ok ((format, s), rest) → reproofed bytes ≡ reproofed_of s (rewritten_at (suc most_records) format s no_records rest)
unfolding reproofed
by_head bytes format s rest e = ap reproofed_by e

-- the header has a fault
pub by_fault : (bytes : List ℕ) (fault : TableFault) → Fails told_fault fault (head_at (record { place = 0; bytes = bytes })) → AnswersUnlessOutside (fault_end fault) (reproofed bytes).end
unfolding reproofed
by_fault bytes (faults.Bad kind place) h = sym (ap (λ x. (reproofed_by x).end) h)
by_fault bytes faults.Failed h = tt
by_fault bytes faults.NoMemory h = tt

pub fault_cert : (bytes : List ℕ) (fault : TableFault) (before : SinkState) → Fails told_fault fault (head_at (record { place = 0; bytes = bytes })) → Puts before before []
    → PutsUntil (fault_end fault) (reproofed bytes).cert before before
unfolding reproofed
fault_cert bytes (faults.Bad kind place) before h none = subst (Puts before before) (sym (ap (λ x. (reproofed_by x).cert) h)) none
fault_cert bytes faults.Failed before h none = record { out = 0; front = none }
fault_cert bytes faults.NoMemory before h none = record { out = 0; front = none }

-- a prefix of the header was written
pub head_part : (s : Settings) (w : Rewritten) (a b : SinkState) → PutsFront a b (head_bytes 2 s) → PutsFront a b (reproofed_of s w).cert
head_part s w a b p = front_more _ p

-- the header was written, and a prefix of the records
records_part : (s : Settings) (w : Rewritten) (a b c : SinkState) → Puts a b (head_bytes 2 s) → PutsFront b c (flat_map (record_bytes 2) w.records) → PutsFront a c (reproofed_of s w).cert
records_part s w a b c p q = then_front p (front_more _ q)

records_whole : (s : Settings) (w : Rewritten) (end : LookEnd) (a b c : SinkState) → is_done end ≡ false → end ≡ w.end → Puts a b (head_bytes 2 s) → Puts b c (flat_map (record_bytes 2) w.records)
    → Puts a c (reproofed_of s w).cert
records_whole s w end a b c not e p q =
    let none : where_done w.end (end_bytes (length w.records)) ≡ [] = subst (λ (x : LookEnd). where_done x (end_bytes (length w.records)) ≡ []) e (by_end end not) in
    subst (Puts a c) (sym (ap (λ (l : List ℕ). head_bytes 2 s ++ (flat_map (record_bytes 2) w.records ++ l)) none ∙ ap (λ (l : List ℕ). head_bytes 2 s ++ l) (append-nil (flat_map (record_bytes 2) w.records)))) (puts_then p q)
  where
    by_end : (end : LookEnd) → is_done end ≡ false → where_done end (end_bytes (length w.records)) ≡ []
    by_end ends.Done not = absurd cc
    by_end ends.NoMemory not = refl
    by_end ends.ReadFault not = refl
    by_end ends.WriteFault not = refl
    by_end (ends.BadPictures kind place) not = refl
    by_end (ends.BadMovie kind place) not = refl
    by_end (ends.BadFrame sample kind place) not = refl
    by_end (ends.BadProof kind place) not = refl
    by_end (ends.Refused frame clause) not = refl

-- it ended before all records were written
pub err_cert : (s : Settings) (w : Rewritten) (end : LookEnd) (a b c : SinkState) → Puts a b (head_bytes 2 s) → is_done end ≡ false → AnswersUnlessOutside end w.end
    → PutsUntil end (flat_map (record_bytes 2) w.records) b c → PutsUntil end (reproofed_of s w).cert a c
err_cert s w ends.Done a b c p not e q = absurd cc
err_cert s w ends.NoMemory a b c p not e q = records_part s w a b c p q
err_cert s w ends.ReadFault a b c p not e q = records_part s w a b c p q
err_cert s w ends.WriteFault a b c p not e q = records_part s w a b c p q
err_cert s w (ends.BadPictures kind place) a b c p not e q = records_whole s w _ a b c not e p q
err_cert s w (ends.BadMovie kind place) a b c p not e q = records_whole s w _ a b c not e p q
err_cert s w (ends.BadFrame sample kind place) a b c p not e q = records_whole s w _ a b c not e p q
err_cert s w (ends.BadProof kind place) a b c p not e q = records_whole s w _ a b c not e p q
err_cert s w (ends.Refused frame clause) a b c p not e q = records_whole s w _ a b c not e p q

-- all records were written, and a prefix of the end
cert_is : (s : Settings) (w : Rewritten) (n : ℕ) → EndsAs (Ok n) w → (reproofed_of s w).cert ≡ head_bytes 2 s ++ (flat_map (record_bytes 2) w.records ++ end_bytes n)
cert_is s w n e = ap (λ (x : LookEnd). head_bytes 2 s ++ (flat_map (record_bytes 2) w.records ++ where_done x (end_bytes (length w.records)))) e.0
    ∙ ap (λ (k : ℕ). head_bytes 2 s ++ (flat_map (record_bytes 2) w.records ++ end_bytes k)) (sym e.1)

pub end_part : (s : Settings) (w : Rewritten) (n : ℕ) (a b c d : SinkState) → EndsAs (Ok n) w → Puts a b (head_bytes 2 s) → Puts b c (flat_map (record_bytes 2) w.records) → PutsFront c d (end_bytes n)
    → PutsFront a d (reproofed_of s w).cert
end_part s w n a b c d e p q r = subst (PutsFront a d) (sym (cert_is s w n e)) (then_front p (then_front q r))

pub end_whole : (s : Settings) (w : Rewritten) (n : ℕ) (a b c d : SinkState) → EndsAs (Ok n) w → Puts a b (head_bytes 2 s) → Puts b c (flat_map (record_bytes 2) w.records) → Puts c d (end_bytes n)
    → Puts a d (reproofed_of s w).cert
end_whole s w n a b c d e p q r = subst (Puts a d) (sym (cert_is s w n e)) (puts_then p (puts_then q r))

pub text_done : (s : Settings) (w : Rewritten) (n : ℕ) → EndsAs (Ok n) w → (reproofed_of s w).text ≡ reproof_text n
text_done s w n e = ap (λ (x : LookEnd). where_done x (reproof_text (length w.records))) e.0 ∙ ap reproof_text (sym e.1)

-- ---- the line that is printed

-- If a fault of the input ended it, no line is printed.
pub no_text : (bytes : List ℕ) (end : LookEnd) (before : SinkState) → is_done end ≡ false → AnswersUnlessOutside end (reproofed bytes).end → Puts before before [] → PutsUntil end (reproofed bytes).text before before
unfolding reproofed
no_text bytes end before not e none = by_end end not e
  where
    undone : (end : LookEnd) (text : List ℕ) → is_done end ≡ false → where_done end text ≡ []
    undone ends.Done text not = absurd cc
    undone ends.NoMemory text not = refl
    undone ends.ReadFault text not = refl
    undone ends.WriteFault text not = refl
    undone (ends.BadPictures kind place) text not = refl
    undone (ends.BadMovie kind place) text not = refl
    undone (ends.BadFrame sample kind place) text not = refl
    undone (ends.BadProof kind place) text not = refl
    undone (ends.Refused frame clause) text not = refl

    by_result : (r : Result ((ℕ × Settings) × Rest) (Fault ProofKind)) → is_done (reproofed_by r).end ≡ false → (reproofed_by r).text ≡ []
    by_result (Err f) not = refl
    by_result (Ok (head, rest)) not = undone (rewritten_at (suc most_records) head.0 head.1 no_records rest).end _ not

    whole : (end : LookEnd) → is_done end ≡ false → end ≡ (reproofed_by (head_at (record { place = 0; bytes = bytes }))).end → Puts before before (reproofed_by (head_at (record { place = 0; bytes = bytes }))).text
    whole end not e = subst (Puts before before) (sym (by_result (head_at (record { place = 0; bytes = bytes })) (ap is_done (sym e) ∙ not))) none

    by_end : (end : LookEnd) → is_done end ≡ false → AnswersUnlessOutside end (reproofed_by (head_at (record { place = 0; bytes = bytes }))).end → PutsUntil end (reproofed_by (head_at (record { place = 0; bytes = bytes }))).text before before
    by_end ends.Done not e = absurd cc
    by_end ends.NoMemory not e = record { out = 0; front = none }
    by_end ends.ReadFault not e = record { out = 0; front = none }
    by_end ends.WriteFault not e = record { out = 0; front = none }
    by_end (ends.BadPictures kind place) not e = whole _ not e
    by_end (ends.BadMovie kind place) not e = whole _ not e
    by_end (ends.BadFrame sample kind place) not e = whole _ not e
    by_end (ends.BadProof kind place) not e = whole _ not e
    by_end (ends.Refused frame clause) not e = whole _ not e

-- all that is written before the line was written
pub printed_cert : (end : LookEnd) (cert : List ℕ) (before after : SinkState) → Puts before after cert → PutsUntil end cert before after
printed_cert ends.Done cert before after p = p
printed_cert ends.NoMemory cert before after p = puts_front p
printed_cert ends.ReadFault cert before after p = puts_front p
printed_cert ends.WriteFault cert before after p = puts_front p
printed_cert (ends.BadPictures kind place) cert before after p = p
printed_cert (ends.BadMovie kind place) cert before after p = p
printed_cert (ends.BadFrame sample kind place) cert before after p = p
printed_cert (ends.BadProof kind place) cert before after p = p
printed_cert (ends.Refused frame clause) cert before after p = p
