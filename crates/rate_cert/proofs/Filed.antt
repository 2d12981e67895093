-- A proof that is written is read as that proof, in both formats.
use Rattle.std.proofs.Common.{◌≡◌, ℕ, zero, suc, ◌+◌, ◌^◌, ◌<◌, ◌≤◌, false, List, [], ◌∷◌, ◌++◌, length, Ok, None, refl, ap, ◌∙◌, arith, append_assoc}
use Rattle.std.specs.Prelude.{not}
use Rattle.std.specs.Int.{w32, to_be_bytes}
use Rattle.std.specs.List.{flat_map}
use Rattle.std.proofs.lemmas.List.Concat.{flat_map-cons}
use Rattle.std.proofs.lemmas.Bool.{eq-eqb}
use Rattle.rate_cert.specs.declared.settings.Settings.{Settings}
use Rattle.rate_cert.specs.Records.{Record}
use Rattle.rate_cert.specs.Head.{head_bytes}
use Rattle.rate_cert.specs.Files.{most_records, IsFormat, record_bytes, end_bytes, proof_bytes, Progress, no_records, further, mark_at, end_at, next_at, records_at, proved}
use Rattle.rate_cert.specs.Laws.{AreWritten, ProofIsReadAgain}
use Rattle.rate_table.specs.declared.fault.ProofKind.TheVariants.{ProofShort}
use Rattle.pw_outside.proofs.Steps.{bind-step, refuse-step, found}
use Rattle.rate_table.proofs.Here.{byte-here, four-here}
use Rattle.rate_cert.proofs.Recorded.{next-again}
use Rattle.rate_cert.proofs.Headed.{head-again}

mark-end : (p : Progress) (place : ℕ) (behind : List ℕ) → mark_at p (record { place = place; bytes = 0x45 ∷ behind }) ≡ found false (place + 1) behind
unfolding mark_at
mark-end p place behind = bind-step _ _ (byte-here ProofShort 0x45 place behind) ∙ bind-step _ _ refl ∙ bind-step _ _ refl

end-again : (count place : ℕ) → count < 2 ^ 32 → end_at count (record { place = place; bytes = to_be_bytes w32 count }) ≡ found None (place + 4) []
unfolding end_at
end-again count place small =
    bind-step _ _ (four-here ProofShort count place [] small)
    ∙ refuse-step _ _ _ _ (ap not (eq-eqb count count refl))
    ∙ bind-step _ _ refl

ends-again : (format : ℕ) (p : Progress) (place : ℕ) → p.count < 2 ^ 32 → next_at format p (record { place = place; bytes = end_bytes p.count }) ≡ found None (place + 1 + 4) []
unfolding next_at
ends-again format p place small = bind-step _ _ (mark-end p place (to_be_bytes w32 p.count)) ∙ end-again p.count (place + 1) small

few-records : (format : ℕ) (s : Settings) (p : Progress) (rs : List Record) → p.count ≤ most_records → AreWritten format s p rs → p.count + length rs ≤ most_records
few-records format s p [] few are = omega (arith, few)
few-records format s p (r ∷ rs) few are = omega (arith, few-records format s (further s p r) rs (omega (arith, are.0.1)) are.2)

records-again : (format : ℕ) (s : Settings) (n : ℕ) (p : Progress) (rs : List Record) (total place : ℕ) → IsFormat format → length rs < n → p.count ≤ most_records → total ≡ p.count + length rs → AreWritten format s p rs
    → records_at n format s p (record { place = place; bytes = flat_map (record_bytes format) rs ++ end_bytes total }) ≡ Ok rs
unfolding records_at
records-again format s zero p rs total place f lt few e are = absurd (omega (arith, lt))
records-again format s (suc n) p [] total place f lt few e are =
    let all : total ≡ p.count = omega (arith, e) in
    ap (λ (t : ℕ). records_at (suc n) format s p (record { place = place; bytes = end_bytes t })) all
    ∙ bind-step _ _ (ends-again format p place (omega (arith, few)))
records-again format s (suc n) p (r ∷ rs) total place f lt few e are =
    let text = record_bytes format r in
    let behind = flat_map (record_bytes format) rs ++ end_bytes total in
    let split : flat_map (record_bytes format) (r ∷ rs) ++ end_bytes total ≡ text ++ behind =
    ap (λ (l : List ℕ). l ++ end_bytes total) (flat_map-cons (record_bytes format) r rs) ∙ append_assoc text (flat_map (record_bytes format) rs) (end_bytes total) in
    ap (λ (l : List ℕ). records_at (suc n) format s p (record { place = place; bytes = l })) split
    ∙ bind-step _ _ (next-again format p r place behind f are.0 are.1)
    ∙ bind-step _ _ (records-again format s n (further s p r) rs total (place + length text) f (omega (arith, lt)) (omega (arith, are.0.1)) (omega (arith, e)) are.2)

pub proof-again : ProofIsReadAgain
unfolding proved proof_bytes
proof-again format s rs f is are =
    let text = flat_map (record_bytes format) rs ++ end_bytes (length rs) in
    bind-step _ _ (head-again format s 0 text f is)
    ∙ bind-step _ _ (records-again format s (suc most_records) no_records rs (length rs) (0 + length (head_bytes format s)) f (omega (arith, few-records format s no_records rs (omega arith) are)) (omega arith) (omega arith) are)
