-- A frame's part of a record.
use Rattle.std.proofs.Common.{◌≡◌, ℕ, ◌+◌, ◌-◌, ◌*◌, ◌/◌, ◌<◌, ◌≤◌, true, List, [], ◌∷◌, length, take, drop, rules, ap, sym, subst, ◌∙◌, arith, mul-div_cancel, length-take-le}
use Rattle.std.specs.Prelude.{IsTrue, ◌↔◌, nat_eq}
use Rattle.std.specs.List.{All}
use Rattle.std.proofs.lemmas.Bool.{eqb-true, eq-eqb}
use Rattle.std.proofs.lemmas.Nat.{mul-le}
use Rattle.std.proofs.lemmas.List.{length-drop}
use Rattle.std.proofs.lemmas.List.Elements.{All-take, All-drop, All-cons, All-nil, All-head, All-tail, All-contains}
use Rattle.rate_table.specs.declared.entry.Entry.{Entry}
use Rattle.rate_table.specs.Table.{Table, IsTable, IsSliceTable, IsChoice, HasSums, indices, size_of}
use Rattle.rate_table.specs.Laws.{IndicesTellChoice}
use Rattle.rate_cert.specs.declared.settings.Settings.{Settings}
use Rattle.rate_cert.specs.Settings.{frame_slices}
use Rattle.rate_table.specs.Records.{Printed}
use Rattle.rate_table.specs.declared.table.TheConstants.{MAX_TABLE_SLICES}
use Rattle.rate_cert.specs.Settings.{IsSettings}
use Rattle.rate_cert.specs.Records.{Record, Said, fits, none, IsGood, IsGoodVerdict, HasIndices}
use Rattle.rate_build.specs.Coding.{IsIndex}
use Rattle.run_look.specs.Checking.{frames_in}
use Rattle.run_look.specs.Agreeing.{part_of, HasPart, HasSize}

pub frames_are : (s : Settings) (r : Record) (g : IsGood s r) → 0 < frame_slices s → frames_in s r ≡ g.table.frames
frames_are s r g some = ap (λ n. n / frame_slices s) g.table.slices ∙ mul-div_cancel g.table.frames {n = frame_slices s} some

pub part_inside : (s : Settings) (r : Record) (n k : ℕ) → IsGood s r → n ≡ frame_slices s → 0 < n → k < frames_in s r → n * k + n ≤ length r.table.slices
part_inside s r n k g e some there =
    let frames = frames_are s r g (omega (arith, e, some)) in
    let all : length r.table.slices ≡ g.table.frames * n = g.table.slices ∙ ap (λ x. g.table.frames * x) (sym e) in
    omega (arith, all, mul-le (k + 1) n g.table.frames n (omega (arith, frames, there)) (omega arith))

pub cut_long : {A : Type 0} (n k : ℕ) (l : List A) → n * k + n ≤ length l → length (part_of n l k) ≡ n
cut_long {A} n k l inside = length-take-le n (drop (n * k) l) (omega (arith, length-drop (n * k) l, inside))

-- the parts of one choice are equal
pub one_part : (s : Settings) (said : Said) (k : ℕ) (part part' : List ℕ) → HasPart s said k part → HasPart s said k part' → part ≡ part'
one_part s (fits p) k part part' a b = a ∙ sym b
one_part s (none least) k part part' a b = absurd a

pub choice_long : (s : Settings) (r : Record) (p : Printed) → IsGood s r → r.said ≡ fits p → length p.choice ≡ length r.table.slices
choice_long s r p g e = let v : IsGoodVerdict r.table (fits p) = subst (λ x. IsGoodVerdict r.table x) e g.verdict in v.counts.0

-- ---- the indices of a part

record Between (lo hi : ℕ) (e : Entry) : Type 0 where
  from : lo ≤ e.index
  to : e.index ≤ hi

least_below : (lo hi : ℕ) (es : List Entry) → HasIndices lo hi es → lo ≤ hi + 1
least_below lo hi [] h = omega (arith, h)
least_below lo hi (e ∷ es) h = let l = least_below (lo + 1) hi es h.1 in omega (arith, l)

all_between : (lo hi : ℕ) (es : List Entry) → HasIndices lo hi es → All (Between lo hi) es
all_between lo hi [] h = All-nil (Between lo hi)
all_between lo hi (e ∷ es) h =
    let l = least_below (lo + 1) hi es h.1 in
    let others = all_between (lo + 1) hi es h.1 in
    All-cons (Between lo hi) e es (record { from = omega (arith, h.0); to = omega (arith, h.0, l) })
    (λ k d m. let o = others k d m in record { from = omega (arith, o.from); to = o.to })

all_index : (lo hi : ℕ) (slices : List (List Entry)) (choice : List Entry) → 1 ≤ lo → hi ≤ 224 → All (HasIndices lo hi) slices → IsChoice slices choice → All IsIndex (indices choice)
all_index lo hi [] [] least most each is = All-nil IsIndex
all_index lo hi [] (e ∷ choice) least most each is = absurd is
all_index lo hi (s ∷ slices) [] least most each is = absurd is
all_index lo hi (s ∷ slices) (e ∷ choice) least most each is =
    let b = All-contains (Between lo hi) s e (all_between lo hi s (All-head (HasIndices lo hi) s slices each)) is.0 in
    All-cons IsIndex e.index (indices choice) (record { least = omega (arith, least, b.from); most = omega (arith, most, b.to) })
    (all_index lo hi slices choice least most (All-tail (HasIndices lo hi) s slices each) is.1)

pub part_indices : (s : Settings) (r : Record) (said : Said) (k : ℕ) (part : List ℕ) → IsSettings s → IsGood s r → IsGoodVerdict r.table said → HasPart s said k part → All IsIndex part
part_indices s r (none least) k part is g v h = absurd h
part_indices s r (fits p) k part is g v h =
    let all = all_index s.lo s.hi r.table.slices v.entries.0 is.lo is.hi g.table.indices v.entries.1 in
    let choice : All IsIndex p.choice = subst (All IsIndex) v.entries.2 all in
    subst (All IsIndex) (sym h) (All-take IsIndex (frame_slices s) (drop (frame_slices s * k) p.choice) (All-drop IsIndex (frame_slices s * k) p.choice choice))

-- ---- the size of a part

-- a choice with these indices has this size
pub size_one : IndicesTellChoice → (slices : List (List Entry)) → 1 ≤ length slices → length slices ≤ MAX_TABLE_SLICES → All IsSliceTable slices → (chosen : List ℕ) (size error : ℕ) → HasSums slices chosen size error
    → (share n : ℕ) → HasSize slices chosen share n → n ≡ share + size
size_one tell slices some few each chosen size error (choice, is, has, s, e) share n (entries, is', has', sized) =
    let t : Table = record { budget = 1; fixed = 0; slices = slices } in
    let table : IsTable t = record { some_budget = omega arith; budget_limit = omega arith; fixed_limit = omega arith; some = some; few = few; each = each } in
    let same : choice ≡ entries = tell t choice entries table is is' (has ∙ sym has') in
    sized ∙ ap (λ c. share + size_of c) (sym same) ∙ ap (λ x. share + x) (sym s)

pub size_has : (slices : List (List Entry)) (chosen : List ℕ) (size error share n : ℕ) → HasSums slices chosen size error → n ≡ share + size → HasSize slices chosen share n
size_has slices chosen size error share n (choice, is, has, s, e) sized = (choice, is, has, sized ∙ ap (λ x. share + x) s)

eq_test : (a b : ℕ) → IsTrue (nat_eq a b) ↔ (a ≡ b)
eq_test a b = ((λ t. eqb-true a b (search rules)), (λ e. let t : nat_eq a b ≡ true = eq-eqb a b e in search rules))

pub size_test : IndicesTellChoice → (slices : List (List Entry)) → 1 ≤ length slices → length slices ≤ MAX_TABLE_SLICES → All IsSliceTable slices → (chosen : List ℕ) (size error : ℕ) → HasSums slices chosen size error
    → (a b share n : ℕ) → a ≡ n → b ≡ share → IsTrue (nat_eq a (b + size)) ↔ HasSize slices chosen share n
size_test tell slices some few each chosen size error has a b share n ea eb =
    let test = eq_test a (b + size) in (
      (λ t. size_has slices chosen size error share n has (sym ea ∙ test.0 t ∙ ap (λ x. x + size) eb)),
      (λ h. test.1 (ea ∙ size_one tell slices some few each chosen size error has share n h ∙ ap (λ x. x + size) (sym eb))),
    )

pub budget_small : (s : Settings) → IsSettings s → s.budget < 2147483648
budget_small s is = omega (arith, is.budget, mul-le 1 s.budget s.group s.budget is.group_from (omega arith))
