-- Buffering several things one after the other.
use Rattle.std.proofs.Common.{◌≡◌, refl, ℕ, zero, suc, ◌+◌, ◌-◌, ◌<◌, ◌≤◌, List, [], ◌∷◌, ◌++◌, length, map, get_or, drop, sym, ap, ◌∙◌, subst, arith, append_assoc, Vec, Global}
use Rattle.std.specs.Int.{w32, to_be_bytes}
use Rattle.std.specs.List.{All, flat_map, sum_by}
use Rattle.std.proofs.lemmas.List.Sums.{sum_by-cons}
use Rattle.std.proofs.lemmas.List.Elements.{All-head, All-tail}
use Rattle.std.proofs.lemmas.List.{append-nil, drop_more}
use Rattle.std.proofs.lemmas.List.Concat.{flat_map-cons}
use Rattle.pw_outside.specs.Ports.{last}
use Rattle.pw_outside.specs.Writing.{SinkState, Puts, PutsFront}
use Rattle.pw_outside.proofs.Puts.{puts_none, puts_then, then_front, front_more}
use Rattle.rate_table.specs.declared.entry.Pair.{Pair}
use Rattle.rate_table.specs.Pairs.{RisesAndFalls}
use Rattle.rate_cert.specs.Numbers.{number_bytes}
use Rattle.rate_cert.specs.Layers.{pair_bytes, wide_bytes, steps_bytes, close_pairs_bytes, close_bytes, layer_bytes}
use Rattle.rate_cert.specs.inner.Gathered.{Gathers}

-- the pairs of a layer
abbrev pub pairs_in : Vec Pair Global → List Pair
pairs_in v = v.items

-- nothing was buffered
pub gathers_none : (a : SinkState) (p : List ℕ) → a.taken ≤ last → Gathers a a p p []
gathers_none a p h = record { gone = []; puts = puts_none a h; whole = sym (append-nil p) }

-- the buffered bytes and this were taken
pub gathers_all : {a b c : SinkState} (p q x : List ℕ) → Puts a b p → Puts b c x → q ≡ [] → Gathers a c p q x
gathers_all p q x g h e = record { gone = p ++ x; puts = puts_then g h; whole = ap (λ (l : List ℕ). (p ++ x) ++ l) e ∙ append-nil (p ++ x) }

-- one thing was buffered, and then another
pub gathers_then : {a b c : SinkState} {p q r x y : List ℕ} → Gathers a b p q x → Gathers b c q r y → Gathers a c p r (x ++ y)
gathers_then {a} {b} {c} {p} {q} {r} {x} {y} g h = record {
  gone = g.gone ++ h.gone;
  puts = puts_then g.puts h.puts;
  whole = append_assoc g.gone h.gone r ∙ ap (λ (l : List ℕ). g.gone ++ l) h.whole ∙ sym (append_assoc g.gone q y) ∙ ap (λ (l : List ℕ). l ++ y) g.whole ∙ append_assoc p x y;
}

-- one thing was buffered, and a prefix of the other was taken
pub gathers_front : {a b c : SinkState} {p q x : List ℕ} (y : List ℕ) → Gathers a b p q x → PutsFront b c (q ++ y) → PutsFront a c (p ++ (x ++ y))
gathers_front {a} {b} {c} {p} {q} {x} y g h =
    subst (PutsFront a c) (sym (append_assoc g.gone q y) ∙ ap (λ (l : List ℕ). l ++ y) g.whole ∙ append_assoc p x y) (then_front g.puts h)

-- a prefix of the first thing is a prefix of both
pub front_before : {a b : SinkState} (p x y : List ℕ) → PutsFront a b (p ++ x) → PutsFront a b (p ++ (x ++ y))
front_before {a} {b} p x y h = subst (PutsFront a b) (append_assoc p x y) (front_more y h)

-- ---- in the middle: the rest is buffered next

pub record Partly (a b : SinkState) (p q left total : List ℕ) : Type 0 where
  pub done : List ℕ
  pub gathers : Gathers a b p q done
  pub whole : done ++ left ≡ total

pub partly_start : (a : SinkState) (p total : List ℕ) → a.taken ≤ last → Partly a a p p total total
partly_start a p total h = record { done = []; gathers = gathers_none a p h; whole = refl }

pub partly_more : {a b c : SinkState} {p q r left' total : List ℕ} (x left : List ℕ) → left' ≡ x ++ left → Partly a b p q left' total → Gathers b c q r x → Partly a c p r left total
partly_more x left e s g = record {
  done = s.done ++ x;
  gathers = gathers_then s.gathers g;
  whole = append_assoc s.done x left ∙ ap (λ (l : List ℕ). s.done ++ l) (sym e) ∙ s.whole;
}

pub partly_end : {a b c : SinkState} {p q left' total : List ℕ} (x left : List ℕ) → left' ≡ x ++ left → Partly a b p q left' total → PutsFront b c (q ++ x) → PutsFront a c (p ++ total)
partly_end {a} {b} {c} {p} {q} {left'} {total} x left e s h =
    subst (λ (l : List ℕ). PutsFront a c (p ++ l)) (append_assoc s.done x left ∙ ap (λ (l : List ℕ). s.done ++ l) (sym e) ∙ s.whole)
    (front_before p (s.done ++ x) left (gathers_front x s.gathers h))

pub partly_all : {a b : SinkState} {p q left total : List ℕ} → left ≡ [] → Partly a b p q left total → Gathers a b p q total
partly_all {a} {b} {p} {q} {left} {total} e s =
    subst (Gathers a b p q) (sym (append-nil s.done) ∙ ap (λ (l : List ℕ). s.done ++ l) (sym e) ∙ s.whole) s.gathers

-- ---- the rest of a list

pub drop_is : {X : Type 0} (xs : List X) (i : ℕ) (x : X) → i < length xs → x ≡ get_or xs i x → drop i xs ≡ x ∷ drop (i + 1) xs
drop_is xs i x lt is = drop_more xs i x lt ∙ ap (λ y. y ∷ drop (i + 1) xs) (sym is)

pub drop_past : {X : Type 0} (xs : List X) (i : ℕ) → length xs ≤ i → drop i xs ≡ []
drop_past [] zero le = refl
drop_past [] (suc i) le = refl
drop_past (x ∷ xs) zero le = absurd (omega (arith, le))
drop_past (x ∷ xs) (suc i) le = drop_past xs i (omega (arith, le))

pub flat_left : {X : Type 0} (f : X → List ℕ) (xs : List X) (i : ℕ) (d : X) (text : List ℕ) → i < length xs → text ≡ f (get_or xs i d) → flat_map f (drop i xs) ≡ text ++ flat_map f (drop (i + 1) xs)
flat_left f xs i d text lt e = ap (flat_map f) (drop_more xs i d lt) ∙ flat_map-cons f (get_or xs i d) (drop (i + 1) xs) ∙ ap (λ (l : List ℕ). l ++ flat_map f (drop (i + 1) xs)) (sym e)

abbrev pub nothing : Pair
nothing = record { size = 0; error = 0 }

module _ (before : Pair) (xs : List Pair) (i : ℕ) (lt : i < length xs) where
  abbrev pub next : Pair
  next = get_or xs i nothing

  pub steps_left : (text : List ℕ) → text ≡ number_bytes (next.size - (before.size + 1)) ++ number_bytes (before.error - (next.error + 1)) → steps_bytes before (drop i xs) ≡ text ++ steps_bytes next (drop (i + 1) xs)
  unfolding steps_bytes
  steps_left text e =
      let left = steps_bytes next (drop (i + 1) xs) in
      ap (steps_bytes before) (drop_more xs i nothing lt) ∙ sym (append_assoc (number_bytes (next.size - (before.size + 1))) (number_bytes (before.error - (next.error + 1))) left) ∙ ap (λ (l : List ℕ). l ++ left) (sym e)

  pub order_left : RisesAndFalls (before ∷ drop i xs) → RisesAndFalls (before ∷ next ∷ drop (i + 1) xs)
  order_left order = subst (λ (l : List Pair). RisesAndFalls (before ∷ l)) (drop_more xs i nothing lt) order

pub steps_done : (before : Pair) (xs : List Pair) (i : ℕ) → length xs ≤ i → steps_bytes before (drop i xs) ≡ []
unfolding steps_bytes
steps_done before xs i le = ap (steps_bytes before) (drop_past xs i le)

pub layers_left : (format : ℕ) (xs : List (Vec Pair Global)) (i : ℕ) (x : Vec Pair Global) (text : List Pair) → i < length xs → x ≡ get_or xs i x → text ≡ x.items
    → flat_map (layer_bytes format) (map pairs_in (drop i xs)) ≡ layer_bytes format text ++ flat_map (layer_bytes format) (map pairs_in (drop (i + 1) xs))
layers_left format xs i x text lt is e =
    let left = flat_map (layer_bytes format) (map pairs_in (drop (i + 1) xs)) in
    ap (λ l. flat_map (layer_bytes format) (map pairs_in l)) (drop_is xs i x lt is) ∙ flat_map-cons (layer_bytes format) x.items (map pairs_in (drop (i + 1) xs)) ∙ ap (λ (l : List Pair). layer_bytes format l ++ left) (sym e)

-- ---- one by one, without a loop

pub gathers_two : {a b c : SinkState} {p q r : List ℕ} (x y text : List ℕ) → text ≡ x ++ y → Gathers a b p q x → Gathers b c q r y → Gathers a c p r text
gathers_two {a} {b} {c} {p} {q} {r} x y text e g h = subst (Gathers a c p r) (sym e) (gathers_then g h)

pub two_front : {a b c : SinkState} {p q : List ℕ} (x y text : List ℕ) → text ≡ x ++ y → Gathers a b p q x → PutsFront b c (q ++ y) → PutsFront a c (p ++ text)
two_front {a} {b} {c} {p} {q} x y text e g h = subst (λ (l : List ℕ). PutsFront a c (p ++ l)) (sym e) (gathers_front y g h)

pub one_front : {a b : SinkState} (p x y text : List ℕ) → text ≡ x ++ y → PutsFront a b (p ++ x) → PutsFront a b (p ++ text)
one_front {a} {b} p x y text e h = subst (λ (l : List ℕ). PutsFront a b (p ++ l)) (sym e) (front_before p x y h)

pub close_parts : (layer others : List Pair) (first : Pair) (text : List ℕ) → layer ≡ first ∷ others → text ≡ number_bytes first.size ++ number_bytes first.error → close_pairs_bytes layer ≡ text ++ steps_bytes first others
unfolding close_pairs_bytes
close_parts layer others first text e is =
    let left = steps_bytes first others in
    ap close_pairs_bytes e ∙ sym (append_assoc (number_bytes first.size) (number_bytes first.error) left) ∙ ap (λ (l : List ℕ). l ++ left) (sym is)

pub close_none : (layer : List Pair) → length layer ≡ 0 → close_pairs_bytes layer ≡ []
unfolding close_pairs_bytes
close_none [] e = refl
close_none (p ∷ layer) e = absurd (omega (arith, e))

pub close_whole : (layer : List Pair) (text : List ℕ) → text ≡ number_bytes (length layer) → close_bytes layer ≡ text ++ close_pairs_bytes layer
unfolding close_bytes
close_whole layer text e = ap (λ (l : List ℕ). l ++ close_pairs_bytes layer) (sym e)

pub wide_whole : (layer : List Pair) (text : List ℕ) → text ≡ to_be_bytes w32 (length layer) → wide_bytes layer ≡ text ++ flat_map pair_bytes layer
unfolding wide_bytes
wide_whole layer text e = ap (λ (l : List ℕ). l ++ flat_map pair_bytes layer) (sym e)

-- nothing is buffered of nothing
pub gathers_same : (a : SinkState) (p x : List ℕ) → a.taken ≤ last → x ≡ [] → Gathers a a p p x
gathers_same a p x h e = subst (Gathers a a p p) (sym e) (gathers_none a p h)

pub one_layer : (xs : List (Vec Pair Global)) (i : ℕ) (x : Vec Pair Global) → i < length xs → x ≡ get_or xs i x → length x.items ≤ sum_by length (map pairs_in xs)
one_layer [] i x lt is = absurd (omega (arith, lt))
one_layer (y ∷ ys) zero x lt is = omega (arith, ap (λ (v : Vec Pair Global). length v.items) is, sum_by-cons length y.items (map pairs_in ys))
one_layer (y ∷ ys) (suc i) x lt is = omega (arith, one_layer ys i x (omega (arith, lt)) is, sum_by-cons length y.items (map pairs_in ys))

pub one_order : (xs : List (Vec Pair Global)) (i : ℕ) (x : Vec Pair Global) → i < length xs → x ≡ get_or xs i x → All RisesAndFalls (map pairs_in xs) → RisesAndFalls x.items
one_order [] i x lt is all = absurd (omega (arith, lt))
one_order (y ∷ ys) zero x lt is all = subst (λ (v : Vec Pair Global). RisesAndFalls v.items) (sym is) (All-head RisesAndFalls y.items (map pairs_in ys) all)
one_order (y ∷ ys) (suc i) x lt is all = one_order ys i x (omega (arith, lt)) is (All-tail RisesAndFalls y.items (map pairs_in ys) all)

-- ---- the part after the table: indices, sums, and layers

from_nothing : {a b : SinkState} (p x : List ℕ) → p ≡ [] → PutsFront a b (p ++ x) → PutsFront a b x
from_nothing {a} {b} p x e h = subst (λ (l : List ℕ). PutsFront a b (l ++ x)) e h

pub fit_first : {a b : SinkState} (p x y z : List ℕ) → p ≡ [] → PutsFront a b (p ++ x) → PutsFront a b (x ++ (y ++ z))
fit_first p x y z e h = from_nothing p (x ++ (y ++ z)) e (front_before p x (y ++ z) h)

pub fit_second : {a b c : SinkState} {p q x : List ℕ} (y z : List ℕ) → p ≡ [] → Gathers a b p q x → PutsFront b c (q ++ y) → PutsFront a c (x ++ (y ++ z))
fit_second {a} {b} {c} {p} {q} {x} y z e g h = from_nothing p (x ++ (y ++ z)) e (gathers_front (y ++ z) g (front_before q y z h))

pub fit_third : {a b c d : SinkState} {p q r x y : List ℕ} (z : List ℕ) → p ≡ [] → Gathers a b p q x → Gathers b c q r y → PutsFront c d (r ++ z) → PutsFront a d (x ++ (y ++ z))
fit_third {a} {b} {c} {d} {p} {q} {r} {x} {y} z e g h k = from_nothing p (x ++ (y ++ z)) e (gathers_front (y ++ z) g (gathers_front z h k))

pub fit_given : {a b c d f : SinkState} {p q r s x y z : List ℕ} → p ≡ [] → Gathers a b p q x → Gathers b c q r y → Gathers c d r s z → PutsFront d f s → PutsFront a f (x ++ (y ++ z))
fit_given {a} {b} {c} {d} {f} {p} {q} {r} {s} {x} {y} {z} e g h k w =
    let all = gathers_then g (gathers_then h k) in
    subst (PutsFront a f) (all.whole ∙ ap (λ (l : List ℕ). l ++ (x ++ (y ++ z))) e) (then_front all.puts w)

pub fit_done : {a b c d f : SinkState} {p q r s x y z : List ℕ} → p ≡ [] → Gathers a b p q x → Gathers b c q r y → Gathers c d r s z → Puts d f s → Puts a f (x ++ (y ++ z))
fit_done {a} {b} {c} {d} {f} {p} {q} {r} {s} {x} {y} {z} e g h k w =
    let all = gathers_then g (gathers_then h k) in
    subst (Puts a f) (all.whole ∙ ap (λ (l : List ℕ). l ++ (x ++ (y ++ z))) e) (puts_then all.puts w)
