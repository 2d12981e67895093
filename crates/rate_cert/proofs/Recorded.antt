-- A record that is written is read as that record, in both formats.
use Rattle.std.proofs.Common.{◌≡◌, ℕ, suc, ◌+◌, ◌<◌, Bool, true, false, nat_le, List, ◌∷◌, ◌++◌, length, Some, refl, sym, ap, ◌∙◌, arith, rules, length-append, append_assoc}
use Rattle.std.specs.Prelude.{◌||◌, not, IsTrue}
use Rattle.std.specs.Int.{w32, w64, to_be_bytes}
use Rattle.std.specs.List.{flat_map}
use Rattle.std.proofs.lemmas.Bool.{lt-leb}
use Rattle.rate_table.specs.Table.{Table, IsTable}
use Rattle.rate_table.specs.Body.{body_bytes}
use Rattle.rate_table.specs.Records.{Printed}
use Rattle.rate_table.specs.Nested.{in_proof}
use Rattle.rate_table.proofs.ReadAgain.{body-again, indices-again}
use Rattle.rate_cert.specs.Records.{Record, Said, fits, none}
use Rattle.rate_cert.specs.Layers.{layer_bytes, layers_at}
use Rattle.rate_cert.specs.Files.{most_records, IsFormat, MayStand, sums_bytes, fit_bytes, said_bytes, record_bytes, IsPrintable, CanBeSaid, HasWidths, AreWide, IsWritten, fit_at, none_at, said_at, record_at, Progress, mark_at, some_at, next_at}
use Rattle.rate_cert.specs.Laws.{RecordIsReadAgain}
use Rattle.rate_table.specs.declared.fault.ProofKind.TheVariants.{ProofShort}
use Rattle.pw_outside.proofs.Steps.{bind-step, refuse-step, found, same_rest}
use Rattle.rate_table.proofs.Here.{byte-here, four-here, eight-here}
use Rattle.rate_cert.proofs.Layered.{which, layers-again}

fit-again : (format : ℕ) (t : Table) (r : Printed) (place : ℕ) (behind : List ℕ) → IsFormat format → IsPrintable format t r → HasWidths r
    → fit_at format (length t.slices) (record { place = place; bytes = fit_bytes format r ++ behind }) ≡ found (fits r) (place + length (fit_bytes format r)) behind
unfolding fit_at fit_bytes
fit-again format t r place behind f is wide =
    let layers = flat_map (layer_bytes format) r.layers in
    let c = length r.choice in
    let split : (r.choice ++ (sums_bytes r.size r.error r.multiplier ++ layers)) ++ behind
    ≡ r.choice ++ (to_be_bytes w32 r.size ++ (to_be_bytes w64 r.error ++ (to_be_bytes w64 r.multiplier ++ (layers ++ behind)))) =
    append_assoc r.choice (sums_bytes r.size r.error r.multiplier ++ layers) behind in
    ap (λ n. fit_at format n (record { place = place; bytes = fit_bytes format r ++ behind })) (sym is.choice)
    ∙ ap (λ l. fit_at format c (record { place = place; bytes = l })) split
    ∙ bind-step _ _ (indices-again r.choice place (to_be_bytes w32 r.size ++ (to_be_bytes w64 r.error ++ (to_be_bytes w64 r.multiplier ++ (layers ++ behind)))))
    ∙ bind-step _ _ (four-here ProofShort r.size (place + c) (to_be_bytes w64 r.error ++ (to_be_bytes w64 r.multiplier ++ (layers ++ behind))) wide.size)
    ∙ bind-step _ _ (eight-here ProofShort r.error (place + c + 4) (to_be_bytes w64 r.multiplier ++ (layers ++ behind)) wide.error)
    ∙ bind-step _ _ (eight-here ProofShort r.multiplier (place + c + 4 + 8) (layers ++ behind) wide.multiplier)
    ∙ bind-step _ _ (ap (λ n. layers_at format n 0 (record { place = place + c + 4 + 8 + 8; bytes = layers ++ behind })) (ap suc is.choice ∙ sym is.layers)
    ∙ layers-again format 0 r.layers (place + c + 4 + 8 + 8) behind (which format f) (omega (arith, is.few)) is.order wide.pairs)
    ∙ same_rest (fits r) _ _ behind (omega (arith, length-append r.choice (sums_bytes r.size r.error r.multiplier ++ layers)))

said-again : (format : ℕ) (t : Table) (s : Said) (place : ℕ) (behind : List ℕ) → IsFormat format → IsTable t → CanBeSaid format t s → AreWide s
    → record_at format (record { place = place; bytes = said_bytes format t s ++ behind }) ≡ found (record { table = t; said = s }) (place + length (said_bytes format t s)) behind
unfolding record_at said_at none_at said_bytes
said-again format t (fits p) place behind f is c wide =
    let body = body_bytes t in
    let split = append_assoc body (fit_bytes format p) behind in
    ap (λ l. record_at format (record { place = place; bytes = 1 ∷ l })) split
    ∙ bind-step _ _ (byte-here ProofShort 1 place (body ++ (fit_bytes format p ++ behind)))
    ∙ bind-step _ _ refl
    ∙ bind-step _ _ (ap in_proof (body-again t (place + 1) (fit_bytes format p ++ behind) is))
    ∙ bind-step _ _ (fit-again format t p (place + 1 + length body) behind f c wide)
    ∙ same_rest (record { table = t; said = fits p }) _ _ behind (omega (arith, length-append body (fit_bytes format p)))
said-again format t (none n) place behind f is c wide =
    let body = body_bytes t in
    let split = append_assoc body (to_be_bytes w64 n) behind in
    ap (λ l. record_at format (record { place = place; bytes = 0 ∷ l })) split
    ∙ bind-step _ _ (byte-here ProofShort 0 place (body ++ (to_be_bytes w64 n ++ behind)))
    ∙ bind-step _ _ refl
    ∙ bind-step _ _ (ap in_proof (body-again t (place + 1) (to_be_bytes w64 n ++ behind) is))
    ∙ bind-step _ _ (bind-step _ _ (eight-here ProofShort n (place + 1 + length body) behind wide))
    ∙ same_rest (record { table = t; said = none n }) _ _ behind (omega (arith, length-append body (to_be_bytes w64 n)))

record-again : (format : ℕ) (r : Record) (place : ℕ) (behind : List ℕ) → IsFormat format → IsWritten format r
    → record_at format (record { place = place; bytes = said_bytes format r.table r.said ++ behind }) ≡ found r (place + length (said_bytes format r.table r.said)) behind
record-again format r place behind f is = said-again format r.table r.said place behind f is.table is.said is.widths

may_stand : (more : Bool) (count : ℕ) → IsTrue more → count < most_records → (not more || nat_le most_records count) ≡ false
may_stand true count m few = lt-leb most_records count few
may_stand false count m few = absurd (search rules)

pub mark-again : (p : Progress) (place : ℕ) (behind : List ℕ) → MayStand p → mark_at p (record { place = place; bytes = 0x52 ∷ behind }) ≡ found true (place + 1) behind
unfolding mark_at
mark-again p place behind may =
    bind-step _ _ (byte-here ProofShort 0x52 place behind)
    ∙ bind-step _ _ refl
    ∙ refuse-step _ _ _ _ (may_stand p.more p.count may.0 may.1)

pub next-again : RecordIsReadAgain
unfolding next_at some_at record_bytes
next-again format p r place behind f may is =
    bind-step _ _ (mark-again p place (said_bytes format r.table r.said ++ behind) may)
    ∙ bind-step _ _ (record-again format r (place + 1) behind f is)
    ∙ same_rest (Some r) _ _ behind (omega arith)
