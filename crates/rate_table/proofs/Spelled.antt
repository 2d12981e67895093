-- The bytes of a table's body that was read are those that are written for it.
use Rattle.std.proofs.Common.{◌≡◌, ℕ, zero, suc, ◌^◌, ◌<◌, ◌≤◌, List, [], ◌∷◌, ◌++◌, length, Ok, refl, sym, subst, arith}
use Rattle.std.specs.Int.{w8, w16, w32, w64, to_be_bytes}
use Rattle.std.specs.List.{flat_map, All}
use Rattle.std.proofs.lemmas.Bool.{ltb-false, leb-false, eqb-false}
use Rattle.std.proofs.lemmas.List.Concat.{flat_map-cons}
use Rattle.std.proofs.lemmas.List.Elements.{All-nil, All-cons}
use Rattle.pw_outside.specs.Reading.{Rest, number_at, AreBytes, Took}
use Rattle.pw_outside.proofs.Steps.{bind-ok, refuse-passed, then_took, took_none}
use Rattle.rate_table.specs.declared.entry.Entry.{Entry}
use Rattle.rate_table.specs.declared.fault.ProofKind.TheVariants.{TableShort}
use Rattle.rate_table.specs.declared.table.TheConstants.{MAX_TABLE_SLICES}
use Rattle.rate_table.specs.Table.{Table, IsEntry, IndicesRise, IsSliceTable, IsTable}
use Rattle.rate_table.specs.Reading.{entry_at, entries_at, slice_at, slices_at, body_at}
use Rattle.rate_table.specs.Body.{entry_bytes, slice_bytes, body_bytes}
use Rattle.rate_table.specs.Spelled.{BodyIsSpelled}
use Rattle.rate_table.proofs.Taken.{ok_is, wide16, wide32, wide64, number_took, byte_took, positive}

-- ---- entries

entry_spelled : (low : ℕ) (s : Rest) (x : Entry × Rest) → AreBytes s.bytes → entry_at low s ≡ Ok x → IsEntry x.0 × (low < x.0.index) × Took s (entry_bytes x.0) x.1
unfolding entry_at
entry_spelled low s x fits e =
    let b1 = bind-ok (number_at TableShort w8 s) _ e in
    let i = b1.0 in
    let t1 = byte_took TableShort s i fits b1.1 in
    let r1 = refuse-passed _ _ _ _ b1.2 in
    let r2 = refuse-passed _ _ _ _ r1.1 in
    let r3 = refuse-passed _ _ _ _ r2.1 in
    let b2 = bind-ok (number_at TableShort w16 i.1) _ r3.1 in
    let z = b2.0 in
    let t2 = number_took TableShort w16 (2 ^ 16) wide16 i.1 z t1.0.behind b2.1 in
    let b3 = bind-ok (number_at TableShort w64 z.1) _ b2.2 in
    let v = b3.0 in
    let t3 = number_took TableShort w64 (2 ^ 64) wide64 z.1 v t2.0.behind b3.1 in
    let r4 = refuse-passed _ _ _ _ b3.2 in
    let entry : Entry = record { index = i.0; size = z.0; error = v.0 } in
    let not_zero : i.0 ≡ 0 → ⊥ = eqb-false i.0 0 r1.0 in
    let few : i.0 ≤ 224 = ltb-false 224 i.0 r2.0 in
    let above : low < i.0 = leb-false i.0 low r3.0 in
    let small : v.0 < 2 ^ 43 = leb-false (2 ^ 43) v.0 r4.0 in
    let some : 1 ≤ i.0 = positive i.0 not_zero in
    subst (λ (y : Entry × Rest). IsEntry y.0 × (low < y.0.index) × Took s (entry_bytes y.0) y.1) (ok_is (entry, v.1) x r4.1) (
      record { index_from = some; index_to = few; size = t2.1; error = small },
      above,
      then_took t1.0 (then_took t2.0 t3.0),
    )

abbrev StartsAbove : ℕ → List Entry → Type 0
StartsAbove low [] = Unit {0}
StartsAbove low (x ∷ xs) = low < x.index

rise-front : (x : Entry) (xs : List Entry) → StartsAbove x.index xs → IndicesRise xs → IndicesRise (x ∷ xs)
rise-front x [] a h = tt
rise-front x (y ∷ xs) a h = (a, h)

-- the bytes of entries that were read
record AreEntries (n low : ℕ) (s : Rest) (entries : List Entry) (rest : Rest) : Type 0 where
  count : length entries ≡ n
  each : All IsEntry entries
  rises : IndicesRise entries
  above : StartsAbove low entries
  took : Took s (flat_map entry_bytes entries) rest

entries_spelled : (n low : ℕ) (s : Rest) (x : List Entry × Rest) → AreBytes s.bytes → entries_at n low s ≡ Ok x → AreEntries n low s x.0 x.1
unfolding entries_at
entries_spelled zero low s x fits e =
    subst (λ (y : List Entry × Rest). AreEntries 0 low s y.0 y.1) (ok_is ([], s) x e)
    (record { count = refl; each = All-nil IsEntry; rises = tt; above = tt; took = took_none s fits })
entries_spelled (suc n) low s x fits e =
    let b1 = bind-ok (entry_at low s) _ e in
    let f = b1.0 in
    let t1 = entry_spelled low s f fits b1.1 in
    let b2 = bind-ok (entries_at n f.0.index f.1) _ b1.2 in
    let o = b2.0 in
    let t2 = entries_spelled n f.0.index f.1 o t1.2.behind b2.1 in
    subst (λ (y : List Entry × Rest). AreEntries (suc n) low s y.0 y.1) (ok_is (f.0 ∷ o.0, o.1) x b2.2)
    (record {
      count = omega (arith, t2.count);
      each = All-cons IsEntry f.0 o.0 t1.0 t2.each;
      rises = rise-front f.0 o.0 t2.above t2.rises;
      above = t1.1;
      took = subst (λ b. Took s b o.1) (sym (flat_map-cons entry_bytes f.0 o.0)) (then_took t1.2 t2.took);
    })

-- ---- slices

slice_spelled : (s : Rest) (x : List Entry × Rest) → AreBytes s.bytes → slice_at s ≡ Ok x → IsSliceTable x.0 × Took s (slice_bytes x.0) x.1
unfolding slice_at
slice_spelled s x fits e =
    let b1 = bind-ok (number_at TableShort w8 s) _ e in
    let c = b1.0 in
    let t1 = byte_took TableShort s c fits b1.1 in
    let r1 = refuse-passed _ _ _ _ b1.2 in
    let r2 = refuse-passed _ _ _ _ r1.1 in
    let t2 = entries_spelled c.0 0 c.1 x t1.0.behind r2.1 in
    let some : c.0 ≡ 0 → ⊥ = eqb-false c.0 0 r1.0 in (
      record { some = positive (length x.0) (λ z. some (omega (arith, t2.count, z))); rises = t2.rises; limits = t2.each },
      subst (λ n. Took s (n ∷ flat_map entry_bytes x.0) x.1) (sym t2.count) (then_took t1.0 t2.took),
    )

slices_spelled : (n : ℕ) (s : Rest) (x : List (List Entry) × Rest) → AreBytes s.bytes → slices_at n s ≡ Ok x → (length x.0 ≡ n) × All IsSliceTable x.0 × Took s (flat_map slice_bytes x.0) x.1
unfolding slices_at
slices_spelled zero s x fits e =
    subst (λ (y : List (List Entry) × Rest). (length y.0 ≡ 0) × All IsSliceTable y.0 × Took s (flat_map slice_bytes y.0) y.1) (ok_is ([], s) x e)
    (refl, All-nil IsSliceTable, took_none s fits)
slices_spelled (suc n) s x fits e =
    let b1 = bind-ok (slice_at s) _ e in
    let f = b1.0 in
    let t1 = slice_spelled s f fits b1.1 in
    let b2 = bind-ok (slices_at n f.1) _ b1.2 in
    let o = b2.0 in
    let t2 = slices_spelled n f.1 o t1.1.behind b2.1 in
    subst (λ (y : List (List Entry) × Rest). (length y.0 ≡ suc n) × All IsSliceTable y.0 × Took s (flat_map slice_bytes y.0) y.1) (ok_is (f.0 ∷ o.0, o.1) x b2.2) (
      omega (arith, t2.0),
      All-cons IsSliceTable f.0 o.0 t1.0 t2.1,
      subst (λ b. Took s b o.1) (sym (flat_map-cons slice_bytes f.0 o.0)) (then_took t1.1 t2.2),
    )

-- ---- the body

body_at_spelled : (s : Rest) (x : Table × Rest) → AreBytes s.bytes → body_at s ≡ Ok x → IsTable x.0 × Took s (body_bytes x.0) x.1
unfolding body_at body_bytes
body_at_spelled s x fits e =
    let b1 = bind-ok (number_at TableShort w32 s) _ e in
    let b = b1.0 in
    let t1 = number_took TableShort w32 (2 ^ 32) wide32 s b fits b1.1 in
    let r1 = refuse-passed _ _ _ _ b1.2 in
    let r2 = refuse-passed _ _ _ _ r1.1 in
    let b2 = bind-ok (number_at TableShort w32 b.1) _ r2.1 in
    let f = b2.0 in
    let t2 = number_took TableShort w32 (2 ^ 32) wide32 b.1 f t1.0.behind b2.1 in
    let r3 = refuse-passed _ _ _ _ b2.2 in
    let b3 = bind-ok (number_at TableShort w32 f.1) _ r3.1 in
    let c = b3.0 in
    let t3 = number_took TableShort w32 (2 ^ 32) wide32 f.1 c t2.0.behind b3.1 in
    let r4 = refuse-passed _ _ _ _ b3.2 in
    let r5 = refuse-passed _ _ _ _ r4.1 in
    let b4 = bind-ok (slices_at c.0 c.1) _ r5.1 in
    let l = b4.0 in
    let t4 = slices_spelled c.0 c.1 l t3.0.behind b4.1 in
    let t : Table = record { budget = b.0; fixed = f.0; slices = l.0 } in
    let text = flat_map slice_bytes l.0 in
    let some_budget : b.0 ≡ 0 → ⊥ = eqb-false b.0 0 r1.0 in
    let some : c.0 ≡ 0 → ⊥ = eqb-false c.0 0 r4.0 in
    let low : b.0 < 2 ^ 31 = leb-false (2 ^ 31) b.0 r2.0 in
    let low' : f.0 < 2 ^ 31 = leb-false (2 ^ 31) f.0 r3.0 in
    let few : c.0 ≤ MAX_TABLE_SLICES = ltb-false MAX_TABLE_SLICES c.0 r5.0 in
    let parts : Took s (to_be_bytes w32 b.0 ++ (to_be_bytes w32 f.0 ++ (to_be_bytes w32 c.0 ++ text))) l.1 =
    then_took t1.0 (then_took t2.0 (then_took t3.0 t4.2)) in
    subst (λ (y : Table × Rest). IsTable y.0 × Took s (body_bytes y.0) y.1) (ok_is (t, l.1) x b4.2) (
      record { some_budget = positive b.0 some_budget; budget_limit = low; fixed_limit = low'; some = omega (arith, t4.0, positive c.0 some); few = omega (arith, t4.0, few); each = t4.1 },
      subst (λ n. Took s (to_be_bytes w32 b.0 ++ (to_be_bytes w32 f.0 ++ (to_be_bytes w32 n ++ text))) l.1) (sym t4.0) parts,
    )

pub body-spelled : BodyIsSpelled
body-spelled s rest t fits e = body_at_spelled s (t, rest) fits e
