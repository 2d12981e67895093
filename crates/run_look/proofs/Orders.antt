-- The order of pairs in a layer, as a test and as a clause.
use Rattle.std.proofs.Common.{rules, ◌≡◌, Bool, true, false, ◌&&◌, nat_lt, List, [], ◌∷◌, refl, sym}
use Rattle.std.specs.Prelude.{IsTrue, ◌↔◌}
use Rattle.std.specs.List.{All, list_all}
use Rattle.std.proofs.lemmas.Bool.{ltb-true, lt-ltb, and_parts, and_from}
use Rattle.std.proofs.lemmas.List.Elements.{All-nil, All-cons, All-head, All-tail}
use Rattle.rate_table.specs.declared.entry.Pair.{Pair}
use Rattle.rate_table.specs.Pairs.{RisesAndFalls}
use Rattle.rate_cert.specs.Records.{Said, fits, none}
use Rattle.run_look.specs.Reproofing.{is_in_order, keeps_order, KeepsOrder}

rises : (l : List Pair) → is_in_order l ≡ true → RisesAndFalls l
rises [] e = tt
rises (p ∷ []) e = tt
rises (p ∷ q ∷ ps) e =
    let x = and_parts (nat_lt p.size q.size) (nat_lt q.error p.error && is_in_order (q ∷ ps)) e in
    let y = and_parts (nat_lt q.error p.error) (is_in_order (q ∷ ps)) x.1 in
    (ltb-true p.size q.size x.0, ltb-true q.error p.error y.0, rises (q ∷ ps) y.1)

ordered : (l : List Pair) → RisesAndFalls l → is_in_order l ≡ true
ordered [] h = refl
ordered (p ∷ []) h = refl
ordered (p ∷ q ∷ ps) h =
    and_from (nat_lt p.size q.size) (nat_lt q.error p.error && is_in_order (q ∷ ps)) (lt-ltb p.size q.size h.0)
    (and_from (nat_lt q.error p.error) (is_in_order (q ∷ ps)) (lt-ltb q.error p.error h.1) (ordered (q ∷ ps) h.2))

all-rise : (ls : List (List Pair)) → list_all is_in_order ls ≡ true → All RisesAndFalls ls
all-rise [] e = All-nil RisesAndFalls
all-rise (l ∷ ls) e = let x = and_parts (is_in_order l) (list_all is_in_order ls) e in All-cons RisesAndFalls l ls (rises l x.0) (all-rise ls x.1)

pub all-ordered : (ls : List (List Pair)) → All RisesAndFalls ls → list_all is_in_order ls ≡ true
all-ordered [] h = refl
all-ordered (l ∷ ls) h = and_from (is_in_order l) (list_all is_in_order ls) (ordered l (All-head RisesAndFalls l ls h)) (all-ordered ls (All-tail RisesAndFalls l ls h))

keeps : (s : Said) → keeps_order s ≡ true → KeepsOrder s
keeps (fits p) e = all-rise p.layers e
keeps (none least) e = tt

kept : (s : Said) → KeepsOrder s → keeps_order s ≡ true
kept (fits p) h = all-ordered p.layers h
kept (none least) h = refl

-- a test that decides the clause is the test
pub order_is : (b : Bool) (s : Said) → IsTrue b ↔ KeepsOrder s → b ≡ keeps_order s
order_is true s h = sym (kept s (h.0 (search rules)))
order_is false s h = by_test (keeps_order s) refl
  where
    by_test : (t : Bool) → t ≡ keeps_order s → false ≡ t
    by_test false e = refl
    by_test true e = let f : IsTrue false = h.1 (keeps s (sym e)) in absurd (search rules)
