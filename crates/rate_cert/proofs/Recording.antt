-- Writing a record.
use Rattle.std.proofs.Common.{◌≡◌, ℕ, List, ◌∷◌, ◌++◌, map, sym, ap, ◌∙◌, subst, Vec, Global}
use Rattle.std.specs.Int.{w64, to_be_bytes}
use Rattle.std.specs.List.{flat_map}
use Rattle.pw_outside.specs.Writing.{SinkState, Puts, PutsFront}
use Rattle.pw_outside.proofs.Puts.{puts_then, then_front, front_more}
use Rattle.rate_table.specs.declared.entry.Pair.{Pair}
use Rattle.rate_table.specs.Table.{Table}
use Rattle.rate_table.specs.Body.{body_bytes}
use Rattle.rate_cert.specs.Layers.{layer_bytes}
use Rattle.rate_cert.specs.Records.{Record, Said, fits, none}
use Rattle.rate_cert.specs.Files.{sums_bytes, fit_bytes, said_bytes, record_bytes}
use Rattle.rate_cert.proofs.Gathering.{pairs_in}

pub fit_text : (format : ℕ) (t : Table) (said : Said) (choice choice' : List ℕ) (size error multiplier : ℕ) (layers layers' : List (Vec Pair Global)) (sums : List ℕ)
    → choice' ≡ choice → sums ≡ sums_bytes size error multiplier → layers' ≡ layers
    → said ≡ fits (record { choice = choice; size = size; error = error; multiplier = multiplier; layers = map pairs_in layers })
    → (0x52 ∷ 1 ∷ body_bytes t) ++ (choice' ++ (sums ++ flat_map (layer_bytes format) (map pairs_in layers'))) ≡ 0x52 ∷ said_bytes format t said
unfolding said_bytes fit_bytes
fit_text format t said choice choice' size error multiplier layers layers' sums a b c e =
    ap (λ (l : List ℕ). 0x52 ∷ 1 ∷ (body_bytes t ++ (l ++ (sums ++ flat_map (layer_bytes format) (map pairs_in layers'))))) a
    ∙ ap (λ (l : List ℕ). 0x52 ∷ 1 ∷ (body_bytes t ++ (choice ++ (l ++ flat_map (layer_bytes format) (map pairs_in layers'))))) b
    ∙ ap (λ (l : List (Vec Pair Global)). 0x52 ∷ 1 ∷ (body_bytes t ++ (choice ++ (sums_bytes size error multiplier ++ flat_map (layer_bytes format) (map pairs_in l))))) c
    ∙ sym (ap (λ (s : Said). 0x52 ∷ said_bytes format t s) e)

pub none_text : (format : ℕ) (t : Table) (said : Said) (least : ℕ) (text : List ℕ) → text ≡ to_be_bytes w64 least → said ≡ none least
    → (0x52 ∷ 0 ∷ body_bytes t) ++ text ≡ 0x52 ∷ said_bytes format t said
unfolding said_bytes
none_text format t said least text is e = ap (λ (l : List ℕ). 0x52 ∷ 0 ∷ (body_bytes t ++ l)) is ∙ sym (ap (λ (s : Said). 0x52 ∷ said_bytes format t s) e)

pub record_text : (format format' : ℕ) (t : Table) (s : Said) (r : Record) → record { table = t; said = s } ≡ r → format ≡ format' → 0x52 ∷ said_bytes format t s ≡ record_bytes format' r
unfolding record_bytes
record_text format format' t s r e f = ap (λ (x : Record). 0x52 ∷ said_bytes format x.table x.said) e ∙ ap (λ (n : ℕ). 0x52 ∷ said_bytes n r.table r.said) f

-- ---- a prefix, and what follows it

pub first_part : {a b : SinkState} {front whole : List ℕ} (rest : List ℕ) → front ++ rest ≡ whole → PutsFront a b front → PutsFront a b whole
first_part {a} {b} {front} {whole} rest e h = subst (PutsFront a b) e (front_more rest h)

pub second_part : {a b c : SinkState} {front rest whole : List ℕ} → front ++ rest ≡ whole → Puts a b front → PutsFront b c rest → PutsFront a c whole
second_part {a} {b} {c} {front} {rest} {whole} e g h = subst (PutsFront a c) e (then_front g h)

pub both_parts : {a b c : SinkState} {front rest whole : List ℕ} → front ++ rest ≡ whole → Puts a b front → Puts b c rest → Puts a c whole
both_parts {a} {b} {c} {front} {rest} {whole} e g h = subst (Puts a c) e (puts_then g h)

pub same_front : {a b : SinkState} {x y : List ℕ} → x ≡ y → PutsFront a b x → PutsFront a b y
same_front {a} {b} {x} {y} e h = subst (PutsFront a b) e h

pub same_puts : {a b : SinkState} {x y : List ℕ} → x ≡ y → Puts a b x → Puts a b y
same_puts {a} {b} {x} {y} e h = subst (Puts a b) e h
