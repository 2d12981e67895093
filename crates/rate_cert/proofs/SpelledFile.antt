-- The bytes of a proof of format 2 that was read are those that are written.
use Rattle.std.proofs.Common.{◌≡◌, ℕ, zero, suc, ◌+◌, ◌^◌, ◌<◌, ◌≤◌, Bool, true, false, nat_le, List, [], ◌∷◌, ◌++◌, length, Option, Some, None, Ok, refl, sym, ap, ◌∙◌, subst, arith, inl, inr, append_assoc, append-nil}
use Rattle.std.specs.Prelude.{◌==◌, ◌||◌, ◌&&◌, not}
use Rattle.std.specs.Int.{w8, w32, to_be_bytes}
use Rattle.std.specs.List.{flat_map}
use Rattle.std.proofs.lemmas.Bool.{leb-false, eqb-true, or_parts, not-false}
use Rattle.std.proofs.lemmas.List.Concat.{flat_map-cons}
use Rattle.pw_outside.specs.Reading.{Rest, number_at, AreBytes, Took}
use Rattle.pw_outside.proofs.Steps.{bind-ok, refuse-passed}
use Rattle.rate_table.specs.declared.fault.ProofKind.TheVariants.{ProofShort}
use Rattle.rate_table.proofs.Taken.{ok_is, wide32, number_took, byte_took}
use Rattle.rate_cert.specs.declared.settings.Settings.{Settings}
use Rattle.rate_cert.specs.Records.{Record}
use Rattle.rate_cert.specs.Head.{head_bytes, head_at}
use Rattle.rate_cert.specs.Files.{most_records, record_bytes, end_bytes, proof_bytes, Progress, no_records, further, after, mark_at, end_at, some_at, record_at, next_at, with_others, records_at, Proved, proved}
use Rattle.rate_cert.specs.Laws.{ProofIsSpelled}
use Rattle.rate_cert.proofs.Spelled.{took_both, branch, no_end, record-spelled}
use Rattle.rate_cert.proofs.SpelledHead.{head-spelled}

-- ---- marks

or_is : (a b : Bool) → (a || b) ≡ true → a ≡ false → b ≡ true
or_is true b e f = absurd cc
or_is false b e f = e

and_not : (a b : Bool) → (a && b) ≡ false → a ≡ true → b ≡ false
and_not true b e f = e
and_not false b e f = absurd cc

-- the bytes of a mark that was read
record IsMark (p : Progress) (s : Rest) (stands : Bool) (rest : Rest) : Type 0 where
  few : stands ≡ true → p.count < most_records
  end : stands ≡ false → Took s (0x45 ∷ []) rest
  behind : AreBytes rest.bytes

mark_is : (p : Progress) (s : Rest) (x : Bool × Rest) → AreBytes s.bytes → mark_at p s ≡ Ok x → IsMark p s x.0 x.1
unfolding mark_at
mark_is p s x fit e =
    let b1 = bind-ok (number_at ProofShort w8 s) _ e in
    let m = b1.0 in
    let t1 = byte_took ProofShort s m fit b1.1 in
    let r1 = refuse-passed _ _ _ _ b1.2 in
    let r2 = refuse-passed _ _ _ _ r1.1 in
    let known : (m.0 == 0x52 || m.0 == 0x45) ≡ true = not-false (m.0 == 0x52 || m.0 == 0x45) r1.0 in
    let less : (m.0 == 0x52) ≡ true → p.count < most_records = λ is.
    leb-false most_records p.count (or_parts (not p.more) (nat_le most_records p.count) (and_not (m.0 == 0x52) (not p.more || nat_le most_records p.count) r2.0 is)).1 in
    subst (λ (y : Bool × Rest). IsMark p s y.0 y.1) (ok_is (m.0 == 0x52, m.1) x r2.1) (record {
      few = less;
      end = λ no. subst (λ (n : ℕ). Took s (n ∷ []) m.1) (eqb-true m.0 0x45 (or_is (m.0 == 0x52) (m.0 == 0x45) known no)) t1.0;
      behind = t1.0.behind;
    })

-- ---- the end

none_left : (l : List ℕ) → (length l == 0) ≡ true → l ≡ []
none_left [] e = refl
none_left (b ∷ bs) e = let h : length (b ∷ bs) ≡ 0 = eqb-true (length (b ∷ bs)) 0 e in absurd (omega (arith, h))

end_spelled : (count : ℕ) (s rest : Rest) (o : Option Record) → AreBytes s.bytes → end_at count s ≡ Ok (o, rest) → Took s (to_be_bytes w32 count) rest × (rest.bytes ≡ [])
unfolding end_at
end_spelled count s rest o fit e =
    let b1 = bind-ok (number_at ProofShort w32 s) _ e in
    let n = b1.0 in
    let t1 = number_took ProofShort w32 (2 ^ 32) wide32 s n fit b1.1 in
    let r1 = refuse-passed _ _ _ _ b1.2 in
    let r2 = refuse-passed _ _ _ _ r1.1 in
    let is : n.0 ≡ count = eqb-true n.0 count (not-false (n.0 == count) r1.0) in
    subst (λ (y : Option Record × Rest). Took s (to_be_bytes w32 count) y.1 × (y.1.bytes ≡ [])) (ok_is (None, n.1) (o, rest) r2.1)
    (subst (λ (k : ℕ). Took s (to_be_bytes w32 k) n.1) is t1.0, none_left n.1.bytes (not-false (length n.1.bytes == 0) r2.0))

-- ---- the next record, or the end

abbrev Stands : Option Record → Type 0
Stands None = ⊥
Stands (Some r) = Unit {0}

some_stands : (s rest : Rest) (o : Option Record) → some_at 2 s ≡ Ok (o, rest) → Stands o
unfolding some_at
some_stands s rest o e =
    let b1 = bind-ok (record_at 2 s) _ e in
    subst (λ (y : Option Record × Rest). Stands y.0) (ok_is (Some b1.0.0, b1.0.1) (o, rest) b1.2) tt

next_few : (p : Progress) (s rest : Rest) (r : Record) → AreBytes s.bytes → next_at 2 p s ≡ Ok (Some r, rest) → p.count < most_records
unfolding next_at
next_few p s rest r fit e =
    let b1 = bind-ok (mark_at p s) _ e in
    let m = b1.0 in
    let is = mark_is p s m fit b1.1 in
    elim (branch m.0 (some_at 2 m.1) (end_at p.count m.1) (Some r, rest) b1.2) [
      | inl h ↦ is.few h.0
      | inr h ↦ absurd (no_end p.count m.1 rest r h.1)
    ]

next_none : (p : Progress) (s rest : Rest) → AreBytes s.bytes → next_at 2 p s ≡ Ok (None, rest) → s.bytes ≡ end_bytes p.count
unfolding next_at
next_none p s rest fit e =
    let b1 = bind-ok (mark_at p s) _ e in
    let m = b1.0 in
    let is = mark_is p s m fit b1.1 in
    elim (branch m.0 (some_at 2 m.1) (end_at p.count m.1) (None, rest) b1.2) [
      | inl h ↦ absurd (some_stands m.1 rest None h.1)
      | inr h ↦
          let t = end_spelled p.count m.1 rest None is.behind h.1 in
          let took : Took s (end_bytes p.count) rest = took_both s m.1 rest (0x45 ∷ []) (to_be_bytes w32 p.count) (is.end h.0) t.0 in
          took.parts ∙ ap (λ (l : List ℕ). end_bytes p.count ++ l) t.1 ∙ append-nil (end_bytes p.count)
    ]

-- ---- all records

-- the bytes of n marks more, of the records and the end
abbrev AreSpelled : ℕ → Settings → Type 0
AreSpelled n s = (p : Progress) (rest : Rest) (rs : List Record) → p.count + n ≡ suc most_records → p.count ≤ most_records → AreBytes rest.bytes → records_at n 2 s p rest ≡ Ok rs
    → rest.bytes ≡ flat_map (record_bytes 2) rs ++ end_bytes (p.count + length rs)

-- the next of them
next_spelled : (n : ℕ) (s : Settings) (p : Progress) (rest behind : Rest) (rs : List Record) (o : Option Record) → AreSpelled n s → p.count + suc n ≡ suc most_records → AreBytes rest.bytes
    → next_at 2 p rest ≡ Ok (o, behind) → with_others o (records_at n 2 s (after s p o) behind) ≡ Ok rs → rest.bytes ≡ flat_map (record_bytes 2) rs ++ end_bytes (p.count + length rs)
next_spelled n s p rest behind rs None are left fit next e =
    let none : [] ≡ rs = ok_is [] rs e in
    let all : p.count ≡ p.count + 0 = omega arith in
    subst (λ (l : List Record). rest.bytes ≡ flat_map (record_bytes 2) l ++ end_bytes (p.count + length l)) none (next_none p rest behind fit next ∙ ap end_bytes all)
next_spelled n s p rest behind rs (Some r) are left fit next e =
    let b = bind-ok (records_at n 2 s (further s p r) behind) _ e in
    let others = b.0 in
    let took = (record-spelled p rest behind r fit next).1 in
    let few = next_few p rest behind r fit next in
    let text = record_bytes 2 r in
    let front = flat_map (record_bytes 2) others in
    let end = end_bytes (p.count + length (r ∷ others)) in
    let count : p.count + 1 + length others ≡ p.count + length (r ∷ others) = omega arith in
    subst (λ (l : List Record). rest.bytes ≡ flat_map (record_bytes 2) l ++ end_bytes (p.count + length l)) (ok_is (r ∷ others) rs b.2) (
    took.parts
    ∙ ap (λ (l : List ℕ). text ++ l) (are (further s p r) behind others (omega (arith, left)) (omega (arith, few)) took.behind b.1)
    ∙ ap (λ (k : ℕ). text ++ (front ++ end_bytes k)) count
    ∙ sym (append_assoc text front end)
    ∙ sym (ap (λ (l : List ℕ). l ++ end) (flat_map-cons (record_bytes 2) r others))
    )

records_spelled : (n : ℕ) (s : Settings) → AreSpelled n s
unfolding records_at
records_spelled zero s p rest rs left few fit e = absurd (omega (arith, left, few))
records_spelled (suc n) s p rest rs left few fit e =
    let b = bind-ok (next_at 2 p rest) _ e in
    next_spelled n s p rest b.0.1 rs b.0.0 (records_spelled n s) left fit b.1 b.2

-- ---- a whole proof

pub proof-spelled : ProofIsSpelled
unfolding proved proof_bytes
proof-spelled bytes p fit e two =
    let b1 = bind-ok (head_at (record { place = 0; bytes = bytes })) _ e in
    let head = b1.0 in
    let b2 = bind-ok (records_at (suc most_records) head.0.0 head.0.1 no_records head.1) _ b1.2 in
    let records = b2.0 in
    let same : record { format = head.0.0; settings = head.0.1; records = records } ≡ p = ok_is _ p b2.2 in
    let format : head.0.0 ≡ 2 = ap (λ (x : Proved). x.format) same ∙ two in
    let took = head-spelled head.0.0 head.0.1 (record { place = 0; bytes = bytes }) head.1 fit b1.1 in
    let read : records_at (suc most_records) 2 head.0.1 no_records head.1 ≡ Ok records = sym (ap (λ (f : ℕ). records_at (suc most_records) f head.0.1 no_records head.1) format) ∙ b2.1 in
    let text = records_spelled (suc most_records) head.0.1 no_records head.1 records (omega arith) (omega arith) took.behind read in
    let count : 0 + length records ≡ length records = omega arith in
    took.parts
    ∙ ap (λ (l : List ℕ). head_bytes head.0.0 head.0.1 ++ l) text
    ∙ ap (λ (k : ℕ). head_bytes head.0.0 head.0.1 ++ (flat_map (record_bytes 2) records ++ end_bytes k)) count
    ∙ ap (λ (f : ℕ). head_bytes f head.0.1 ++ (flat_map (record_bytes 2) records ++ end_bytes (length records))) format
    ∙ ap (λ (x : Proved). head_bytes 2 x.settings ++ (flat_map (record_bytes 2) x.records ++ end_bytes (length x.records))) same
