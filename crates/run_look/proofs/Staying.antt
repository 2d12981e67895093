-- A proof in format 2 is rewritten byte for byte.
use Rattle.std.proofs.Common.{◌≡◌, ℕ, zero, suc, true, Option, None, Some, Ok, List, [], ◌∷◌, refl, sym, ap, subst, ◌∙◌}
use Rattle.pw_outside.specs.Reading.{Rest, AreBytes}
use Rattle.pw_outside.specs.Writing.{SinkState, Puts}
use Rattle.pw_outside.proofs.Steps.{bind-ok}
use Rattle.rate_table.specs.Table.{Table}
use Rattle.rate_table.proofs.Taken.{ok_is}
use Rattle.rate_cert.specs.declared.settings.Settings.{Settings}
use Rattle.rate_cert.specs.Records.{Record, Said, fits, none}
use Rattle.rate_cert.specs.Head.{head_at}
use Rattle.rate_cert.specs.Files.{Progress, no_records, after, further, next_at, with_others, records_at, most_records, CanBeSaid, Proved, proof_bytes, proved}
use Rattle.rate_cert.proofs.Spelled.{record-spelled}
use Rattle.rate_cert.proofs.SpelledHead.{head-spelled}
use Rattle.rate_cert.proofs.SpelledFile.{proof-spelled}
use Rattle.run_look.specs.declared.end.LookEnd.TheVariants as ends
use Rattle.run_look.specs.Reproofing.{keeps_order, Rewritten, with_first, rewritten_at, Reproofed, reproofed_of, reproofed, IsProofIn, StaysAsItIs}
use Rattle.run_look.proofs.Orders.{all-ordered}
use Rattle.run_look.proofs.Rewriting.{by_more, by_end}
use Rattle.run_look.proofs.Reproofed.{by_head, cert_done}

-- all of these were written
abbrev done : List Record → Rewritten
done rs = record { end = ends.Done; records = rs }

-- a verdict that can be written in format 2 keeps the order
keeps : (t : Table) (s : Said) → CanBeSaid 2 t s → keeps_order s ≡ true
keeps t (fits p) can = all-ordered p.layers (can.order refl)
keeps t (none least) can = refl

abbrev AreKept : ℕ → Settings → Type 0
AreKept n s = (p : Progress) (rest : Rest) (rs : List Record) → AreBytes rest.bytes → records_at n 2 s p rest ≡ Ok rs → rewritten_at n 2 s p rest ≡ done rs

-- the next record, or the end
next_kept : (n : ℕ) (s : Settings) (p : Progress) (rest behind : Rest) (rs : List Record) (o : Option Record) → AreKept n s → AreBytes rest.bytes → next_at 2 p rest ≡ Ok (o, behind)
    → with_others o (records_at n 2 s (after s p o) behind) ≡ Ok rs → rewritten_at (suc n) 2 s p rest ≡ done rs
unfolding rewritten_at
next_kept n s p rest behind rs None are fit next e =
    by_end s p (next_at 2 p rest) behind (λ r behind. rewritten_at n 2 s (after s p (Some r)) behind) next ∙ ap done (ok_is [] rs e)
next_kept n s p rest behind rs (Some r) are fit next e =
    let b = bind-ok (records_at n 2 s (further s p r) behind) _ e in
    let is = record-spelled p rest behind r fit next in
    by_more s p (next_at 2 p rest) r behind (λ r behind. rewritten_at n 2 s (after s p (Some r)) behind) next (keeps r.table r.said is.0.said)
    ∙ ap (with_first r) (are (further s p r) behind b.0 is.1.behind b.1)
    ∙ ap done (ok_is (r ∷ b.0) rs b.2)

all_kept : (n : ℕ) (s : Settings) → AreKept n s
unfolding records_at rewritten_at
all_kept zero s p rest rs fit e = ap done (ok_is [] rs e)
all_kept (suc n) s p rest rs fit e =
    let b = bind-ok (next_at 2 p rest) _ e in
    next_kept n s p rest b.0.1 rs b.0.0 (all_kept n s) fit b.1 b.2

pub stays : StaysAsItIs
unfolding proved
stays bytes fit (p, e, two) =
    let b1 = bind-ok (head_at (record { place = 0; bytes = bytes })) _ e in
    let format = b1.0.0.0 in
    let s = b1.0.0.1 in
    let rest = b1.0.1 in
    let b2 = bind-ok (records_at (suc most_records) format s no_records rest) _ b1.2 in
    let same : record { format = format; settings = s; records = b2.0 } ≡ p = ok_is _ p b2.2 in
    let is : format ≡ 2 = ap (λ (x : Proved). x.format) same ∙ two in
    let took = head-spelled format s (record { place = 0; bytes = bytes }) rest fit b1.1 in
    let read : records_at (suc most_records) 2 s no_records rest ≡ Ok b2.0 = sym (ap (λ (f : ℕ). records_at (suc most_records) f s no_records rest) is) ∙ b2.1 in
    let all : rewritten_at (suc most_records) format s no_records rest ≡ done b2.0 =
    ap (λ (f : ℕ). rewritten_at (suc most_records) f s no_records rest) is ∙ all_kept (suc most_records) s no_records rest b2.0 took.behind read in
    let new : reproofed bytes ≡ reproofed_of s (done b2.0) = by_head bytes format s rest b1.1 ∙ ap (reproofed_of s) all in (
      ap (λ (x : Reproofed). x.end) new,
      ap (λ (x : Reproofed). x.cert) new
          ∙ cert_done s (done b2.0) refl
          ∙ ap (λ (x : Proved). proof_bytes 2 x.settings x.records) same
          ∙ sym (proof-spelled bytes p fit e two),
    )

-- so the bytes that were read are the bytes written
pub same_put : (bytes : List ℕ) (before after : SinkState) → AreBytes bytes → IsProofIn 2 bytes → Puts before after (reproofed bytes).cert → Puts before after bytes
same_put bytes before after fit is puts = subst (Puts before after) (stays bytes fit is).1 puts
