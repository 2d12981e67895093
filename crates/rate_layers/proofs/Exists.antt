-- Every finite list of pairs has a Pareto frontier.
use Rattle.std.proofs.Common.{◌≡◌, ℕ, ◌+◌, ◌<◌, List, [], ◌∷◌, map, Bool, true, false, cond, leb, refl, sym, ap, ◌∙◌, subst, arith, ◌⊎◌, inl, inr, ⊎_elim, take, drop}
use Rattle.std.specs.List.{Contains, flat_map, filter}
use Rattle.std.proofs.lemmas.List.Sums.{sum_by-cons}
use Rattle.std.proofs.lemmas.Bool.{cases_lt, leb-true, le-leb}
use Rattle.rate_table.specs.declared.entry.Entry.{Entry}
use Rattle.rate_table.specs.declared.entry.Pair.{Pair}
use Rattle.rate_table.specs.Table.{Table, IsChoice, pair_of, least_sizes}
use Rattle.rate_table.specs.Pairs.{Dominates, joined, CanFit, RisesAndFalls}
use Rattle.rate_layers.specs.Layers.{Reaches, IsFront, IsFull}
use Rattle.rate_table.proofs.Lists.{contains_cases, contains_head, contains_tail, contains_none, contains_map, map_contains, contains_flat, flat_contains}
use Rattle.rate_layers.proofs.Fronts.{dominates_self, dominates_trans, first_below, front_layer, one_layer, same_pair, falls_tail}

build : (q : Pair) (ps : List Pair) → RisesAndFalls ps → ((x : Pair) → Contains ps x → (q.size < x.size) × (x.error < q.error)) → RisesAndFalls (q ∷ ps)
build q [] h f = tt
build q (p ∷ ps) h f = let g = f p (contains_head p ps) in (g.0, g.1, h)

-- a pair inserted into a frontier
record Put (old : List Pair) (p : Pair) : Type 0 where
  new : List Pair
  order : RisesAndFalls new
  only : (x : Pair) → Contains new x → (p ≡ x) ⊎ Contains old x
  keeps : (x : Pair) → Contains old x → (q : Pair) × Contains new q × Dominates q x
  puts : (q : Pair) × Contains new q × Dominates q p

-- the head already dominates it
put_under : (q : Pair) (qs : List Pair) (p : Pair) → RisesAndFalls (q ∷ qs) → Dominates q p → Put (q ∷ qs) p
put_under q qs p h d = record {
  new = q ∷ qs;
  order = h;
  only = λ x c. inr c;
  keeps = λ x c. (x, c, dominates_self x);
  puts = (q, contains_head q qs, d);
}

-- it dominates the head
put_over : (q : Pair) (qs : List Pair) (p : Pair) → Dominates p q → Put qs p → Put (q ∷ qs) p
put_over q qs p d u = record {
  new = u.new;
  order = u.order;
  only = λ x c. ⊎_elim (λ e. inl e) (λ i. inr (contains_tail q qs x i)) (u.only x c);
  keeps = λ x c. ⊎_elim (λ e. (u.puts.0, u.puts.1, subst (λ y. Dominates u.puts.0 y) e (dominates_trans u.puts.0 p q u.puts.2 d))) (λ i. u.keeps x i) (contains_cases q qs x c);
  puts = u.puts;
}

-- it comes after the head
put_behind : (q : Pair) (qs : List Pair) (p : Pair) → RisesAndFalls (q ∷ qs) → q.size < p.size → p.error < q.error → Put qs p → Put (q ∷ qs) p
put_behind q qs p h s e u = record {
  new = q ∷ u.new;
  order = build q u.new u.order (λ x c. ⊎_elim (λ i. subst (λ (y : Pair). (q.size < y.size) × (y.error < q.error)) i (s, e)) (λ i. first_below q qs x h i) (u.only x c));
  only = λ x c. ⊎_elim (λ i. inr (subst (λ y. Contains (q ∷ qs) y) i (contains_head q qs))) (λ i. ⊎_elim (λ j. inl j) (λ j. inr (contains_tail q qs x j)) (u.only x i)) (contains_cases q u.new x c);
  keeps = λ x c. ⊎_elim (λ i. (q, contains_head q u.new, subst (λ y. Dominates q y) i (dominates_self q))) (λ i. let k = u.keeps x i in (k.0, contains_tail q u.new k.0 k.1, k.2)) (contains_cases q qs x c);
  puts = (u.puts.0, contains_tail q u.new u.puts.0 u.puts.1, u.puts.2);
}

-- it comes before the head
put_before : (q : Pair) (qs : List Pair) (p : Pair) → RisesAndFalls (q ∷ qs) → p.size < q.size → q.error < p.error → Put (q ∷ qs) p
put_before q qs p h s e = record {
  new = p ∷ q ∷ qs;
  order = (s, e, h);
  only = λ x c. contains_cases p (q ∷ qs) x c;
  keeps = λ x c. (x, contains_tail p (q ∷ qs) x c, dominates_self x);
  puts = (p, contains_head p (q ∷ qs), dominates_self p);
}

put : (old : List Pair) (p : Pair) → RisesAndFalls old → Put old p
put [] p h = record {
  new = p ∷ [];
  order = tt;
  only = λ x c. contains_cases p [] x c;
  keeps = λ x c. absurd (contains_none x c);
  puts = (p, contains_head p [], dominates_self p);
}
put (q ∷ qs) p h =
    ⊎_elim
    (λ s. ⊎_elim (λ e. put_before q qs p h s e) (λ e. put_over q qs p (omega arith, e) (put qs p (falls_tail q qs h))) (cases_lt q.error p.error))
    (λ s. ⊎_elim
    (λ e. ⊎_elim (λ s'. put_behind q qs p h s' e (put qs p (falls_tail q qs h))) (λ s'. put_over q qs p (s', omega arith) (put qs p (falls_tail q qs h))) (cases_lt q.size p.size))
    (λ e. put_under q qs p h (s, e)) (cases_lt p.error q.error))
    (cases_lt p.size q.size)

-- the frontier of a list of pairs
pub front_of : (ps : List Pair) → (layer : List Pair) × IsFront (λ p. Contains ps p) layer
front_of [] = ([], record { order = tt; only = λ p c. c; covers = λ p c. absurd (contains_none p c) })
front_of (p ∷ ps) =
    let f = front_of ps in
    let u = put f.0 p f.1.order in (
      u.new,
      record {
        order = u.order;
        only = λ x c. ⊎_elim (λ e. subst (λ y. Contains (p ∷ ps) y) e (contains_head p ps)) (λ i. contains_tail p ps x (f.1.only x i)) (u.only x c);
        covers = λ x c. ⊎_elim (λ e. subst (λ y. (q : Pair) × Contains u.new q × Dominates q y) e u.puts)
            (λ i. let g = f.1.covers x i in let k = u.keeps g.0 g.1 in (k.0, k.1, dominates_trans k.0 g.0 x k.2 g.2)) (contains_cases p ps x c);
      },
    )

cond_contains : {X : Type 0} (b : Bool) (x : X) (zs : List X) (y : X) → Contains (cond b (x ∷ zs) zs) y → ((b ≡ true) × (x ≡ y)) ⊎ Contains zs y
cond_contains true x zs y c = ⊎_elim (λ e. inl (refl, e)) (λ i. inr i) (contains_cases x zs y c)
cond_contains false x zs y c = inr c

cond_keeps : {X : Type 0} (b : Bool) (x : X) (zs : List X) (y : X) → Contains zs y → Contains (cond b (x ∷ zs) zs) y
cond_keeps true x zs y c = contains_tail x zs y c
cond_keeps false x zs y c = c

pub contains_filter : {X : Type 0} (p : X → Bool) (xs : List X) (y : X) → Contains (filter p xs) y → Contains xs y × (p y ≡ true)
contains_filter p [] y c = absurd (contains_none y c)
contains_filter p (x ∷ xs) y c =
    ⊎_elim (λ e. subst (λ w. Contains (x ∷ xs) w × (p w ≡ true)) e.1 (contains_head x xs, e.0))
    (λ i. let r = contains_filter p xs y i in (contains_tail x xs y r.0, r.1)) (cond_contains (p x) x (filter p xs) y c)

pub filter_contains : {X : Type 0} (p : X → Bool) (xs : List X) (y : X) → Contains xs y → p y ≡ true → Contains (filter p xs) y
filter_contains p [] y c h = absurd (contains_none y c)
filter_contains p (x ∷ xs) y c h =
    ⊎_elim (λ e. subst (λ w. Contains (cond w (x ∷ filter p xs) (filter p xs)) y) (sym (ap p e ∙ h)) (subst (λ w. Contains (x ∷ filter p xs) w) e (contains_head x (filter p xs))))
    (λ i. cond_keeps (p x) x (filter p xs) y (filter_contains p xs y i h)) (contains_cases x xs y c)

-- the pairs of all choices
abbrev pub pairs : List (List Entry) → List Pair
pairs [] = record { size = 0; error = 0 } ∷ []
pairs (s ∷ ss) = flat_map (λ x. map (λ p. joined p x) (pairs ss)) s

pair_cons : (x : Entry) (c : List Entry) → pair_of (x ∷ c) ≡ joined (pair_of c) x
pair_cons x c = same_pair _ _ (omega (arith, sum_by-cons (λ (x : Entry). x.size) x c)) (omega (arith, sum_by-cons (λ (x : Entry). x.error) x c))

pub pairs_reach : (ss : List (List Entry)) (p : Pair) → Contains (pairs ss) p → Reaches ss p
pairs_reach [] p c = ⊎_elim (λ e. ([], tt, e)) (λ i. absurd (contains_none p i)) (contains_cases _ [] p c)
pairs_reach (s ∷ ss) p c =
    let f = contains_flat (λ x. map (λ p. joined p x) (pairs ss)) s p c in
    let m = contains_map (λ p. joined p f.0) (pairs ss) p f.2 in
    let r = pairs_reach ss m.0 m.1 in
    (f.0 ∷ r.0, (f.1, r.1), pair_cons f.0 r.0 ∙ ap (λ q. joined q f.0) r.2 ∙ m.2)

pub reach_pairs : (ss : List (List Entry)) (c : List Entry) → IsChoice ss c → Contains (pairs ss) (pair_of c)
reach_pairs [] [] h = contains_head _ []
reach_pairs [] (x ∷ c) h = absurd h
reach_pairs (s ∷ ss) [] h = absurd h
reach_pairs (s ∷ ss) (x ∷ c) h =
    subst (λ p. Contains (pairs (s ∷ ss)) p) (sym (pair_cons x c))
    (flat_contains (λ x. map (λ p. joined p x) (pairs ss)) s x (joined (pair_of c) x) h.0
    (map_contains (λ p. joined p x) (pairs ss) (pair_of c) (reach_pairs ss c h.1)))

module _ (slices : List (List Entry)) (Fine : Pair → Type 0) (test : Pair → Bool) where
  -- the frontier of the pairs of all choices that pass a test
  pub front_of_tested : ((p : Pair) → test p ≡ true → Fine p) → ((p : Pair) → Fine p → test p ≡ true) → (layer : List Pair) × IsFront (λ p. Reaches slices p × Fine p) layer
  front_of_tested there back =
      let f = front_of (filter test (pairs slices)) in (
        f.0,
        record {
          order = f.1.order;
          only = λ p c. let i = contains_filter test (pairs slices) p (f.1.only p c) in (pairs_reach slices p i.0, there p i.1);
          covers = λ p h. f.1.covers p (filter_contains test (pairs slices) p (subst (λ q. Contains (pairs slices) q) h.0.2 (reach_pairs slices h.0.0 h.0.1)) (back p h.1));
        },
      )

-- There is a full frontier after each number of slices.
pub front_full : (t : Table) (k : ℕ) → (layer : List Pair) × IsFront (λ p. Reaches (take k t.slices) p × CanFit t (drop k t.slices) p) layer
front_full t k =
    front_of_tested (take k t.slices) (CanFit t (drop k t.slices)) (λ p. leb (t.fixed + (p.size + least_sizes (drop k t.slices))) t.budget)
    (λ p h. leb-true _ _ h) (λ p h. le-leb _ _ h)

-- a full frontier in the form that a merge establishes
pub full_front : (t : Table) (k : ℕ) (layer : List Pair) → IsFull t k layer → IsFront (λ p. Reaches (take k t.slices) p × CanFit t (drop k t.slices) p) layer
full_front t k layer h =
    let f = front_full t k in
    subst (λ l. IsFront (λ p. Reaches (take k t.slices) p × CanFit t (drop k t.slices) p) l) (one_layer _ f.0 layer (front_layer _ f.0 f.1) h) f.1
