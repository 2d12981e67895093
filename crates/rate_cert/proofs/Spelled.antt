-- The bytes of a record that was read in format 2 are those that are written.
use Rattle.std.proofs.Common.{◌≡◌, ℕ, zero, suc, ◌+◌, ◌-◌, ◌*◌, ◌/◌, ◌%◌, ◌^◌, ◌<◌, ◌≤◌, Bool, true, false, nat_lt, List, [], ◌∷◌, ◌++◌, length, Ok, Err, Option, Some, None, refl, sym, ap, ◌∙◌, subst, arith, rules, inl, inr, ◌⊎◌, append_assoc}
use Rattle.std.specs.Prelude.{◌==◌, if◌then◌else◌, IsTrue}
use Rattle.std.specs.Int.{w8, w32, w64, to_be_bytes}
use Rattle.std.specs.List.{flat_map, All, sum_by}
use Rattle.std.proofs.lemmas.Bool.{ltb-false, leb-false, eqb-false, eqb-true, ltb-true, not-false}
use Rattle.std.proofs.lemmas.List.Concat.{flat_map-cons}
use Rattle.std.proofs.lemmas.List.Sums.{sum_by-cons}
use Rattle.std.proofs.lemmas.List.Elements.{All-nil, All-cons}
use Rattle.pw_outside.specs.Reading.{Rest, Read, ◌>>=◌, bad, number_at, AreBytes, Took}
use Rattle.pw_outside.proofs.Steps.{bind-ok, refuse-passed, then_took, took_none}
use Rattle.rate_table.specs.declared.entry.Pair.{Pair}
use Rattle.rate_table.specs.declared.fault.ProofKind.{ProofKind}
use Rattle.rate_table.specs.declared.fault.ProofKind.TheVariants.{ProofShort}
use Rattle.rate_table.specs.Table.{Table}
use Rattle.rate_table.specs.Pairs.{RisesAndFalls}
use Rattle.rate_table.specs.Body.{body_bytes}
use Rattle.rate_table.specs.Reading.{body_at}
use Rattle.rate_table.specs.Records.{Printed}
use Rattle.rate_table.proofs.Spelled.{body-spelled}
use Rattle.rate_table.proofs.Taken.{ok_is, wide32, wide64, number_took, byte_took, positive}
use Rattle.rate_cert.specs.Numbers.{groups_of, number_bytes, limit, group_at, groups_at, short_at}
use Rattle.rate_cert.specs.Layers.{most_pairs, steps_bytes, close_pairs_bytes, close_bytes, layer_bytes, step_at, run_at, first_at, close_pairs_at, close_at, layer_at, layers_at}
use Rattle.rate_cert.specs.Records.{Record, Said, fits, none}
use Rattle.rate_table.specs.Nested.{in_proof, table_at, indices_at}
use Rattle.rate_cert.specs.Files.{sums_bytes, fit_bytes, said_bytes, record_bytes, IsPair, IsPrintable, HasWidths, CanBeSaid, AreWide, IsWritten, fit_at, none_at, said_at, record_at, Progress, mark_at, end_at, some_at, next_at}
use Rattle.rate_cert.specs.Laws.{RecordIsSpelled}
use Rattle.rate_cert.proofs.Numbered.{groups-last, groups-further}
use Rattle.rate_cert.proofs.Grouped.{limit_some, limit_most}

-- one thing was read, and then another, with their offsets and bytes
pub took_both : (a b c : Rest) (x y : List ℕ) → Took a x b → Took b y c → Took a (x ++ y) c
took_both a b c x y p q = then_took p q

-- ---- LEB128 numbers

else_ok : {A : Type 0} (b : Bool) (place : ℕ) (r : Read ProofKind A) (x : A × Rest) → (if b then bad ProofShort place else r) ≡ Ok x → r ≡ Ok x
else_ok true place r x e = absurd cc
else_ok false place r x e = e

group_took : (first : ℕ) (s : Rest) (x : ℕ × Rest) → AreBytes s.bytes → group_at first s ≡ Ok x → Took s (x.0 ∷ []) x.1 × (x.0 < 256)
group_took first s x fit e = byte_took ProofShort s x fit (else_ok (nat_lt (length s.bytes) 1) first (number_at ProofShort w8 s) x e)

-- one of two
pub branch : {A : Type 0} (b : Bool) (x y : Read ProofKind A) (z : A × Rest) → (if b then x else y) ≡ Ok z → ((b ≡ true) × (x ≡ Ok z)) ⊎ ((b ≡ false) × (y ≡ Ok z))
branch true x y z e = inl (refl, e)
branch false x y z e = inr (refl, e)

-- a byte of 128 or more, and the groups after it
joined-bytes : (more byte high : ℕ) → 128 ≤ byte → byte < 256 → 1 ≤ high → groups_of (suc more) (byte - 128 + 128 * high) ≡ byte ∷ groups_of more high
joined-bytes more byte high low few some =
    let n = byte - 128 + 128 * high in
    let part : 128 + n % 128 ≡ byte = omega (arith, low, few) in
    let rest : n / 128 ≡ high = omega (arith, low, few) in
    groups-further more n (omega (arith, some)) ∙ ap (λ (b : ℕ). b ∷ groups_of more (n / 128)) part ∙ ap (λ (h : ℕ). byte ∷ groups_of more h) rest

groups_spelled : (more first : ℕ) (s : Rest) (x : ℕ × Rest) → AreBytes s.bytes → groups_at more first s ≡ Ok x → Took s (groups_of more x.0) x.1 × (1 ≤ x.0) × (x.0 < limit more)
unfolding groups_at groups_of limit
groups_spelled zero first s x fit e =
    let b1 = bind-ok (group_at first s) _ e in
    let byte = b1.0 in
    let t1 = group_took first s byte fit b1.1 in
    let r1 = refuse-passed _ _ _ _ b1.2 in
    let one : byte.0 ≡ 1 = eqb-true byte.0 1 (not-false (byte.0 == 1) r1.0) in
    subst (λ (y : ℕ × Rest). Took s (y.0 ∷ []) y.1 × (1 ≤ y.0) × (y.0 < 2)) (ok_is byte x r1.1) (t1.0, omega (arith, one), omega (arith, one))
groups_spelled (suc more) first s x fit e =
    let b1 = bind-ok (group_at first s) _ e in
    let byte = b1.0 in
    let t1 = group_took first s byte fit b1.1 in
    let r1 = refuse-passed _ _ _ _ b1.2 in
    let some : 1 ≤ byte.0 = positive byte.0 (eqb-false byte.0 0 r1.0) in
    elim (branch (nat_lt byte.0 128) (Ok byte) (groups_at more first byte.1 >>= λ high. Ok (byte.0 - 128 + 128 * high.0, high.1)) x r1.1) [
      | inl l ↦
          let low : byte.0 < 128 = ltb-true byte.0 128 l.0 in
          subst (λ (y : ℕ × Rest). Took s (groups_of (suc more) y.0) y.1 × (1 ≤ y.0) × (y.0 < limit (suc more))) (ok_is byte x l.1)
          (subst (λ t. Took s t byte.1) (sym (groups-last more byte.0 low)) t1.0, some, omega (arith, low, limit_some more))
      | inr h ↦
          let low : 128 ≤ byte.0 = ltb-false byte.0 128 h.0 in
          let b2 = bind-ok (groups_at more first byte.1) _ h.1 in
          let high = b2.0 in
          let t2 = groups_spelled more first byte.1 high t1.0.behind b2.1 in
          let n = byte.0 - 128 + 128 * high.0 in
          subst (λ (y : ℕ × Rest). Took s (groups_of (suc more) y.0) y.1 × (1 ≤ y.0) × (y.0 < limit (suc more))) (ok_is (n, high.1) x b2.2) (
            subst (λ t. Took s t high.1) (sym (joined-bytes more byte.0 high.0 low t1.1 t2.1)) (took_both s byte.1 high.1 (byte.0 ∷ []) (groups_of more high.0) t1.0 t2.0),
            omega (arith, t2.1),
            omega (arith, t1.1, t2.2),
          )
    ]

number_spelled : (s : Rest) (x : ℕ × Rest) → AreBytes s.bytes → short_at s ≡ Ok x → Took s (number_bytes x.0) x.1 × (x.0 < 2 ^ 64)
unfolding short_at number_bytes
number_spelled s x fit e =
    let b1 = bind-ok (number_at ProofShort w8 s) _ e in
    let byte = b1.0 in
    let t1 = byte_took ProofShort s byte fit b1.1 in
    elim (branch (nat_lt byte.0 128) (Ok byte) (groups_at 8 s.place byte.1 >>= λ high. Ok (byte.0 - 128 + 128 * high.0, high.1)) x b1.2) [
      | inl l ↦
          let low : byte.0 < 128 = ltb-true byte.0 128 l.0 in
          subst (λ (y : ℕ × Rest). Took s (groups_of 9 y.0) y.1 × (y.0 < 2 ^ 64)) (ok_is byte x l.1)
          (subst (λ t. Took s t byte.1) (sym (groups-last 8 byte.0 low)) t1.0, omega (arith, low))
      | inr h ↦
          let low : 128 ≤ byte.0 = ltb-false byte.0 128 h.0 in
          let b2 = bind-ok (groups_at 8 s.place byte.1) _ h.1 in
          let high = b2.0 in
          let t2 = groups_spelled 8 s.place byte.1 high t1.0.behind b2.1 in
          let n = byte.0 - 128 + 128 * high.0 in
          subst (λ (y : ℕ × Rest). Took s (groups_of 9 y.0) y.1 × (y.0 < 2 ^ 64)) (ok_is (n, high.1) x b2.2) (
            subst (λ t. Took s t high.1) (sym (joined-bytes 8 byte.0 high.0 low t1.1 t2.1)) (took_both s byte.1 high.1 (byte.0 ∷ []) (groups_of 8 high.0) t1.0 t2.0),
            omega (arith, t1.1, t2.2, limit_most 8 (omega arith)),
          )
    ]

-- ---- pairs

first_spelled : (s : Rest) (x : Pair × Rest) → AreBytes s.bytes → first_at s ≡ Ok x → Took s (number_bytes x.0.size ++ number_bytes x.0.error) x.1 × IsPair x.0
unfolding first_at
first_spelled s x fit e =
    let b1 = bind-ok (short_at s) _ e in
    let z = b1.0 in
    let t1 = number_spelled s z fit b1.1 in
    let r1 = refuse-passed _ _ _ _ b1.2 in
    let b2 = bind-ok (short_at z.1) _ r1.1 in
    let v = b2.0 in
    let t2 = number_spelled z.1 v t1.0.behind b2.1 in
    let p : Pair = record { size = z.0; error = v.0 } in
    subst (λ (y : Pair × Rest). Took s (number_bytes y.0.size ++ number_bytes y.0.error) y.1 × IsPair y.0) (ok_is (p, v.1) x b2.2)
    (took_both s z.1 v.1 (number_bytes z.0) (number_bytes v.0) t1.0 t2.0, (leb-false (2 ^ 32) z.0 r1.0, t2.1))

-- the bytes of a pair after another
record IsStep (before : Pair) (s : Rest) (p : Pair) (rest : Rest) : Type 0 where
  rises : before.size < p.size
  falls : p.error < before.error
  pair : IsPair p
  took : Took s (number_bytes (p.size - (before.size + 1)) ++ number_bytes (before.error - (p.error + 1))) rest

step_spelled : (before : Pair) (s : Rest) (x : Pair × Rest) → IsPair before → AreBytes s.bytes → step_at before s ≡ Ok x → IsStep before s x.0 x.1
unfolding step_at
step_spelled before s x is fit e =
    let b1 = bind-ok (short_at s) _ e in
    let z = b1.0 in
    let t1 = number_spelled s z fit b1.1 in
    let r1 = refuse-passed _ _ _ _ b1.2 in
    let b2 = bind-ok (short_at z.1) _ r1.1 in
    let v = b2.0 in
    let t2 = number_spelled z.1 v t1.0.behind b2.1 in
    let r2 = refuse-passed _ _ _ _ b2.2 in
    let p : Pair = record { size = before.size + 1 + z.0; error = before.error - (v.0 + 1) } in
    let small : before.size + 1 + z.0 < 2 ^ 32 = leb-false (2 ^ 32) (before.size + 1 + z.0) r1.0 in
    let less : v.0 < before.error = leb-false before.error v.0 r2.0 in
    let more-is : z.0 ≡ before.size + 1 + z.0 - (before.size + 1) = omega arith in
    let less-is : v.0 ≡ before.error - (before.error - (v.0 + 1) + 1) = omega (arith, less) in
    subst (λ (y : Pair × Rest). IsStep before s y.0 y.1) (ok_is (p, v.1) x r2.1) (record {
      rises = omega arith;
      falls = omega (arith, less);
      pair = (small, omega (arith, is.1));
      took = subst (λ (m : ℕ). Took s (number_bytes m ++ number_bytes (before.error - (before.error - (v.0 + 1) + 1))) v.1) more-is
          (subst (λ (m : ℕ). Took s (number_bytes z.0 ++ number_bytes m) v.1) less-is (took_both s z.1 v.1 (number_bytes z.0) (number_bytes v.0) t1.0 t2.0));
    })

-- the bytes of a pair and those after it
record IsRun (n : ℕ) (before : Pair) (s : Rest) (layer : List Pair) (rest : Rest) : Type 0 where
  others : List Pair
  parts : layer ≡ before ∷ others
  count : length others ≡ n
  order : RisesAndFalls (before ∷ others)
  pairs : All IsPair others
  took : Took s (steps_bytes before others) rest

run_spelled : (n : ℕ) (before : Pair) (s : Rest) (x : List Pair × Rest) → IsPair before → AreBytes s.bytes → run_at n before s ≡ Ok x → IsRun n before s x.0 x.1
unfolding run_at steps_bytes
run_spelled zero before s x is fit e =
    subst (λ (y : List Pair × Rest). IsRun 0 before s y.0 y.1) (ok_is (before ∷ [], s) x e)
    (record { others = []; parts = refl; count = refl; order = tt; pairs = All-nil IsPair; took = took_none s fit })
run_spelled (suc n) before s x is fit e =
    let b1 = bind-ok (step_at before s) _ e in
    let p = b1.0 in
    let t1 = step_spelled before s p is fit b1.1 in
    let b2 = bind-ok (run_at n p.0 p.1) _ b1.2 in
    let o = b2.0 in
    let t2 = run_spelled n p.0 p.1 o t1.pair t1.took.behind b2.1 in
    let a = number_bytes (p.0.size - (before.size + 1)) in
    let b = number_bytes (before.error - (p.0.error + 1)) in
    let left = steps_bytes p.0 t2.others in
    subst (λ (y : List Pair × Rest). IsRun (suc n) before s y.0 y.1) (ok_is (before ∷ o.0, o.1) x b2.2) (record {
      others = p.0 ∷ t2.others;
      parts = ap (λ (l : List Pair). before ∷ l) t2.parts;
      count = omega (arith, t2.count);
      order = (t1.rises, t1.falls, t2.order);
      pairs = All-cons IsPair p.0 t2.others t1.pair t2.pairs;
      took = subst (λ t. Took s t o.1) (append_assoc a b left) (took_both s p.1 o.1 (a ++ b) left t1.took t2.took);
    })

-- ---- layers

-- a layer after `held` pairs, and its bytes
record IsLayer (held : ℕ) (s : Rest) (layer : List Pair) (rest : Rest) : Type 0 where
  few : held + length layer ≤ most_pairs
  order : RisesAndFalls layer
  pairs : All IsPair layer
  took : Took s (close_bytes layer) rest

record ArePairs (n : ℕ) (s : Rest) (layer : List Pair) (rest : Rest) : Type 0 where
  count : length layer ≡ n
  order : RisesAndFalls layer
  pairs : All IsPair layer
  took : Took s (close_pairs_bytes layer) rest

close_pairs_spelled : (n : ℕ) (s : Rest) (x : List Pair × Rest) → AreBytes s.bytes → close_pairs_at n s ≡ Ok x → ArePairs n s x.0 x.1
unfolding close_pairs_at close_pairs_bytes
close_pairs_spelled zero s x fit e =
    subst (λ (y : List Pair × Rest). ArePairs 0 s y.0 y.1) (ok_is ([], s) x e) (record { count = refl; order = tt; pairs = All-nil IsPair; took = took_none s fit })
close_pairs_spelled (suc n) s x fit e =
    let b1 = bind-ok (first_at s) _ e in
    let p = b1.0 in
    let t1 = first_spelled s p fit b1.1 in
    let t2 = run_spelled n p.0 p.1 x t1.1 t1.0.behind b1.2 in
    let a = number_bytes p.0.size in
    let b = number_bytes p.0.error in
    let left = steps_bytes p.0 t2.others in
    subst (λ (l : List Pair). ArePairs (suc n) s l x.1) (sym t2.parts) (record {
      count = omega (arith, t2.count);
      order = t2.order;
      pairs = All-cons IsPair p.0 t2.others t1.1 t2.pairs;
      took = subst (λ t. Took s t x.1) (append_assoc a b left) (took_both s p.1 x.1 (a ++ b) left t1.0 t2.took);
    })

close_spelled : (held : ℕ) (s : Rest) (x : List Pair × Rest) → AreBytes s.bytes → close_at held s ≡ Ok x → IsLayer held s x.0 x.1
unfolding close_at close_bytes
close_spelled held s x fit e =
    let b1 = bind-ok (short_at s) _ e in
    let c = b1.0 in
    let t1 = number_spelled s c fit b1.1 in
    let r1 = refuse-passed _ _ _ _ b1.2 in
    let t2 = close_pairs_spelled c.0 c.1 x t1.0.behind r1.1 in
    let few : held + c.0 ≤ most_pairs = ltb-false most_pairs (held + c.0) r1.0 in
    record {
      few = omega (arith, few, t2.count);
      order = t2.order;
      pairs = t2.pairs;
      took = subst (λ (n : ℕ). Took s (number_bytes n ++ close_pairs_bytes x.0) x.1) (sym t2.count) (took_both s c.1 x.1 (number_bytes c.0) (close_pairs_bytes x.0) t1.0 t2.took);
    }

record AreLayers (n held : ℕ) (s : Rest) (layers : List (List Pair)) (rest : Rest) : Type 0 where
  count : length layers ≡ n
  few : held + sum_by length layers ≤ most_pairs
  order : All RisesAndFalls layers
  pairs : All (λ layer. All IsPair layer) layers
  took : Took s (flat_map (layer_bytes 2) layers) rest

layer_is_close : (layer : List Pair) → close_bytes layer ≡ layer_bytes 2 layer
unfolding layer_bytes
layer_is_close layer = refl

layers_spelled : (n held : ℕ) (s : Rest) (x : List (List Pair) × Rest) → held ≤ most_pairs → AreBytes s.bytes → layers_at 2 n held s ≡ Ok x → AreLayers n held s x.0 x.1
unfolding layers_at layer_at
layers_spelled zero held s x le fit e =
    subst (λ (y : List (List Pair) × Rest). AreLayers 0 held s y.0 y.1) (ok_is ([], s) x e)
    (record { count = refl; few = omega (arith, le); order = All-nil RisesAndFalls; pairs = All-nil (λ layer. All IsPair layer); took = took_none s fit })
layers_spelled (suc n) held s x le fit e =
    let b1 = bind-ok (close_at held s) _ e in
    let l = b1.0 in
    let t1 = close_spelled held s l fit b1.1 in
    let b2 = bind-ok (layers_at 2 n (held + length l.0) l.1) _ b1.2 in
    let o = b2.0 in
    let t2 = layers_spelled n (held + length l.0) l.1 o t1.few t1.took.behind b2.1 in
    let text : Took s (layer_bytes 2 l.0) l.1 = subst (λ t. Took s t l.1) (layer_is_close l.0) t1.took in
    subst (λ (y : List (List Pair) × Rest). AreLayers (suc n) held s y.0 y.1) (ok_is (l.0 ∷ o.0, o.1) x b2.2) (record {
      count = omega (arith, t2.count);
      few = omega (arith, t2.few, sum_by-cons length l.0 o.0);
      order = All-cons RisesAndFalls l.0 o.0 t1.order t2.order;
      pairs = All-cons (λ layer. All IsPair layer) l.0 o.0 t1.pairs t2.pairs;
      took = subst (λ t. Took s t o.1) (sym (flat_map-cons (layer_bytes 2) l.0 o.0)) (took_both s l.1 o.1 (layer_bytes 2 l.0) (flat_map (layer_bytes 2) o.0) text t2.took);
    })

-- ---- records

indices_spelled : (n : ℕ) (s : Rest) (x : List ℕ × Rest) → AreBytes s.bytes → indices_at n s ≡ Ok x → (length x.0 ≡ n) × All (λ index. index < 256) x.0 × Took s x.0 x.1
unfolding indices_at
indices_spelled zero s x fit e =
    subst (λ (y : List ℕ × Rest). (length y.0 ≡ 0) × All (λ index. index < 256) y.0 × Took s y.0 y.1) (ok_is ([], s) x e) (refl, All-nil (λ index. index < 256), took_none s fit)
indices_spelled (suc n) s x fit e =
    let b1 = bind-ok (number_at ProofShort w8 s) _ e in
    let i = b1.0 in
    let t1 = byte_took ProofShort s i fit b1.1 in
    let b2 = bind-ok (indices_at n i.1) _ b1.2 in
    let o = b2.0 in
    let t2 = indices_spelled n i.1 o t1.0.behind b2.1 in
    subst (λ (y : List ℕ × Rest). (length y.0 ≡ suc n) × All (λ index. index < 256) y.0 × Took s y.0 y.1) (ok_is (i.0 ∷ o.0, o.1) x b2.2)
    (omega (arith, t2.0), All-cons (λ index. index < 256) i.0 o.0 t1.1 t2.1, took_both s i.1 o.1 (i.0 ∷ []) o.0 t1.0 t2.2)

-- the verdict on a table, and its bytes
record IsSaid (t : Table) (verdict : ℕ) (s : Rest) (said : Said) (rest : Rest) : Type 0 where
  can : CanBeSaid 2 t said
  wide : AreWide said
  text : List ℕ
  took : Took s text rest
  whole : said_bytes 2 t said ≡ verdict ∷ (body_bytes t ++ text)

fit_spelled : (t : Table) (s : Rest) (x : Said × Rest) → AreBytes s.bytes → fit_at 2 (length t.slices) s ≡ Ok x → IsSaid t 1 s x.0 x.1
unfolding fit_at fit_bytes said_bytes
fit_spelled t s x fit e =
    let b1 = bind-ok (indices_at (length t.slices) s) _ e in
    let c = b1.0 in
    let t1 = indices_spelled (length t.slices) s c fit b1.1 in
    let b2 = bind-ok (number_at ProofShort w32 c.1) _ b1.2 in
    let z = b2.0 in
    let t2 = number_took ProofShort w32 (2 ^ 32) wide32 c.1 z t1.2.behind b2.1 in
    let b3 = bind-ok (number_at ProofShort w64 z.1) _ b2.2 in
    let v = b3.0 in
    let t3 = number_took ProofShort w64 (2 ^ 64) wide64 z.1 v t2.0.behind b3.1 in
    let b4 = bind-ok (number_at ProofShort w64 v.1) _ b3.2 in
    let m = b4.0 in
    let t4 = number_took ProofShort w64 (2 ^ 64) wide64 v.1 m t3.0.behind b4.1 in
    let b5 = bind-ok (layers_at 2 (suc (length t.slices)) 0 m.1) _ b4.2 in
    let l = b5.0 in
    let t5 = layers_spelled (suc (length t.slices)) 0 m.1 l (omega arith) t4.0.behind b5.1 in
    let r : Printed = record { choice = c.0; size = z.0; error = v.0; multiplier = m.0; layers = l.0 } in
    let layers = flat_map (layer_bytes 2) l.0 in
    let can : IsPrintable 2 t r = record { choice = t1.0; layers = t5.count; few = omega (arith, t5.few); order = λ _. t5.order } in
    let wide : HasWidths r = record { indices = t1.1; size = t2.1; error = t3.1; multiplier = t4.1; pairs = t5.pairs } in
    let sums : Took c.1 (to_be_bytes w32 z.0 ++ (to_be_bytes w64 v.0 ++ (to_be_bytes w64 m.0 ++ layers))) l.1 =
    took_both c.1 z.1 l.1 (to_be_bytes w32 z.0) (to_be_bytes w64 v.0 ++ (to_be_bytes w64 m.0 ++ layers)) t2.0
    (took_both z.1 v.1 l.1 (to_be_bytes w64 v.0) (to_be_bytes w64 m.0 ++ layers) t3.0
    (took_both v.1 m.1 l.1 (to_be_bytes w64 m.0) layers t4.0 t5.took)) in
    subst (λ (y : Said × Rest). IsSaid t 1 s y.0 y.1) (ok_is (fits r, l.1) x b5.2) (record {
      can = can;
      wide = wide;
      text = c.0 ++ (sums_bytes z.0 v.0 m.0 ++ layers);
      took = took_both s c.1 l.1 c.0 (sums_bytes z.0 v.0 m.0 ++ layers) t1.2 sums;
      whole = refl;
    })

none_spelled : (t : Table) (s : Rest) (x : Said × Rest) → AreBytes s.bytes → none_at s ≡ Ok x → IsSaid t 0 s x.0 x.1
unfolding none_at said_bytes
none_spelled t s x fit e =
    let b1 = bind-ok (number_at ProofShort w64 s) _ e in
    let n = b1.0 in
    let t1 = number_took ProofShort w64 (2 ^ 64) wide64 s n fit b1.1 in
    subst (λ (y : Said × Rest). IsSaid t 0 s y.0 y.1) (ok_is (none n.0, n.1) x b1.2)
    (record { can = tt; wide = t1.1; text = to_be_bytes w64 n.0; took = t1.0; whole = refl })

said_spelled : (verdict : ℕ) (t : Table) (s : Rest) (x : Said × Rest) → verdict ≤ 1 → AreBytes s.bytes → said_at 2 verdict (length t.slices) s ≡ Ok x → IsSaid t verdict s x.0 x.1
unfolding said_at
said_spelled zero t s x le fit e = none_spelled t s x fit e
said_spelled (suc zero) t s x le fit e = fit_spelled t s x fit e
said_spelled (suc (suc n)) t s x le fit e = absurd (omega (arith, le))

in_ok : (r : Read ProofKind Table) (x : Table × Rest) → in_proof r ≡ Ok x → r ≡ Ok x
in_ok (Ok y) x e = e
in_ok (Err f) x e = absurd cc

record_spelled : (s : Rest) (x : Record × Rest) → AreBytes s.bytes → record_at 2 s ≡ Ok x → IsWritten 2 x.0 × Took s (said_bytes 2 x.0.table x.0.said) x.1
unfolding record_at
record_spelled s x fit e =
    let b1 = bind-ok (number_at ProofShort w8 s) _ e in
    let v = b1.0 in
    let t1 = byte_took ProofShort s v fit b1.1 in
    let r1 = refuse-passed _ _ _ _ b1.2 in
    let b2 = bind-ok (table_at v.1) _ r1.1 in
    let t = b2.0 in
    let t2 = body-spelled v.1 t.1 t.0 t1.0.behind (in_ok (body_at v.1) t b2.1) in
    let b3 = bind-ok (said_at 2 v.0 (length t.0.slices) t.1) _ b2.2 in
    let d = b3.0 in
    let t3 = said_spelled v.0 t.0 t.1 d (ltb-false 1 v.0 r1.0) t2.1.behind b3.1 in
    let r : Record = record { table = t.0; said = d.0 } in
    let took : Took s (v.0 ∷ (body_bytes t.0 ++ t3.text)) d.1 = took_both s v.1 d.1 (v.0 ∷ []) (body_bytes t.0 ++ t3.text) t1.0 (took_both v.1 t.1 d.1 (body_bytes t.0) t3.text t2.1 t3.took) in
    subst (λ (y : Record × Rest). IsWritten 2 y.0 × Took s (said_bytes 2 y.0.table y.0.said) y.1) (ok_is (r, d.1) x b3.2)
    (record { table = t2.0; said = t3.can; widths = t3.wide }, subst (λ l. Took s l d.1) (sym t3.whole) took)

mark_spelled : (p : Progress) (s : Rest) (x : Bool × Rest) → AreBytes s.bytes → mark_at p s ≡ Ok x → IsTrue x.0 → Took s (0x52 ∷ []) x.1
unfolding mark_at
mark_spelled p s x fit e stands' =
    let b1 = bind-ok (number_at ProofShort w8 s) _ e in
    let m = b1.0 in
    let t1 = byte_took ProofShort s m fit b1.1 in
    let r1 = refuse-passed _ _ _ _ b1.2 in
    let r2 = refuse-passed _ _ _ _ r1.1 in
    let same = ok_is (m.0 == 0x52, m.1) x r2.1 in
    let stands : IsTrue (m.0 == 0x52) = subst (λ (y : Bool × Rest). IsTrue y.0) (sym same) stands' in
    let is : m.0 ≡ 0x52 = eqb-true m.0 0x52 (is_true (m.0 == 0x52) stands) in
    subst (λ (y : Bool × Rest). Took s (0x52 ∷ []) y.1) same (subst (λ (n : ℕ). Took s (n ∷ []) m.1) is t1.0)
  where
    is_true : (b : Bool) → IsTrue b → b ≡ true
    is_true true h = refl
    is_true false h = absurd (search rules)

abbrev Ends : Option Record → Type 0
Ends None = Unit {0}
Ends (Some r) = ⊥

pub no_end : (count : ℕ) (s rest : Rest) (r : Record) → end_at count s ≡ Ok (Some r, rest) → ⊥
unfolding end_at
no_end count s rest r e =
    let b1 = bind-ok (number_at ProofShort w32 s) _ e in
    let r1 = refuse-passed _ _ _ _ b1.2 in
    let r2 = refuse-passed _ _ _ _ r1.1 in
    subst (λ (y : Option Record × Rest). Ends y.0) (ok_is (None, b1.0.1) (Some r, rest) r2.1) tt

abbrev found_some : Record → Rest → Read ProofKind (Option Record)
found_some r rest = Ok (Some r, rest)

abbrev held_by : Record → Option Record → Record
held_by d None = d
held_by d (Some r) = r

some_is : (a b : Record) (x y : Rest) → found_some a x ≡ found_some b y → (a ≡ b) × (x ≡ y)
some_is a b x y e =
    let p = ok_is (Some a, x) (Some b, y) e in
    (ap (λ (z : Option Record × Rest). held_by a z.0) p, ap (λ (z : Option Record × Rest). z.1) p)

pub record-spelled : RecordIsSpelled
unfolding next_at some_at record_bytes
record-spelled p s rest r fit e =
    let b1 = bind-ok (mark_at p s) _ e in
    let m = b1.0 in
    elim (branch m.0 (record_at 2 m.1 >>= λ r. Ok (Some r.0, r.1)) (end_at p.count m.1) (Some r, rest) b1.2) [
      | inl h ↦
          let t1 = mark_spelled p s m fit b1.1 h.0 in
          let b2 = bind-ok (record_at 2 m.1) _ h.1 in
          let f = b2.0 in
          let t2 = record_spelled m.1 f t1.behind b2.1 in
          let same : (f.0 ≡ r) × (f.1 ≡ rest) = some_is f.0 r f.1 rest b2.2 in
          subst (λ (y : Record). IsWritten 2 y × Took s (0x52 ∷ said_bytes 2 y.table y.said) rest) same.0
          (t2.0, subst (λ (z : Rest). Took s (0x52 ∷ said_bytes 2 f.0.table f.0.said) z) same.1 (took_both s m.1 f.1 (0x52 ∷ []) (said_bytes 2 f.0.table f.0.said) t1 t2.1))
      | inr h ↦ absurd (no_end p.count m.1 rest r h.1)
    ]
