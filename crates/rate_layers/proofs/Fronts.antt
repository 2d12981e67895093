-- Pareto frontiers of any pairs.
use Rattle.std.proofs.Common.{◌≡◌, ◌<◌, List, [], ◌∷◌, refl, sym, ap, ◌∙◌, subst, arith, ⊎_elim}
use Rattle.std.specs.List.{Contains}
use Rattle.rate_table.specs.declared.entry.Pair.{Pair}
use Rattle.rate_table.specs.Pairs.{Dominates, RisesAndFalls}
use Rattle.rate_layers.specs.Layers.{Rises, IsLayer, IsFront}
use Rattle.rate_table.proofs.Lists.{contains_cases, contains_head, contains_tail, contains_none}

pub same_pair : (p q : Pair) → p.size ≡ q.size → p.error ≡ q.error → p ≡ q
same_pair p q a b = λ i. record { size = a i; error = b i }

pub dominates_trans : (p q r : Pair) → Dominates p q → Dominates q r → Dominates p r
dominates_trans p q r a b = (omega arith, omega arith)

pub dominates_both : (p q : Pair) → Dominates p q → Dominates q p → p ≡ q
dominates_both p q a b = same_pair p q (omega arith) (omega arith)

pub dominates_self : (p : Pair) → Dominates p p
dominates_self p = (omega arith, omega arith)

rises_weaker : (ps : List Pair) → RisesAndFalls ps → Rises ps
rises_weaker [] h = tt
rises_weaker (p ∷ []) h = tt
rises_weaker (p ∷ q ∷ ps) h = (h.0, rises_weaker (q ∷ ps) h.2)

pub falls_tail : (p : Pair) (ps : List Pair) → RisesAndFalls (p ∷ ps) → RisesAndFalls ps
falls_tail p [] h = tt
falls_tail p (q ∷ ps) h = h.2

pub rises_tail : (p : Pair) (ps : List Pair) → Rises (p ∷ ps) → Rises ps
rises_tail p [] h = tt
rises_tail p (q ∷ ps) h = h.1

pub first_below : (p : Pair) (ps : List Pair) (q : Pair) → RisesAndFalls (p ∷ ps) → Contains ps q → (p.size < q.size) × (q.error < p.error)
first_below p [] q h c = absurd (contains_none q c)
first_below p (r ∷ ps) q h c =
    ⊎_elim (λ e. let a = ap (λ (x : Pair). x.size) e in let b = ap (λ (x : Pair). x.error) e in (omega arith, omega arith))
    (λ d. let f = first_below r ps q h.2 d in (omega arith, omega arith)) (contains_cases r ps q c)

pub first_smaller : (p : Pair) (ps : List Pair) (q : Pair) → Rises (p ∷ ps) → Contains ps q → p.size < q.size
first_smaller p [] q h c = absurd (contains_none q c)
first_smaller p (r ∷ ps) q h c =
    ⊎_elim (λ e. let a = ap (λ (x : Pair). x.size) e in omega arith)
    (λ d. let f = first_smaller r ps q h.1 d in omega arith) (contains_cases r ps q c)

-- no pair dominates another
pub one_only : (ps : List Pair) (p q : Pair) → RisesAndFalls ps → Contains ps p → Contains ps q → Dominates q p → q ≡ p
one_only [] p q h c d dom = absurd (contains_none p c)
one_only (r ∷ ps) p q h c d dom =
    ⊎_elim
    (λ e. ⊎_elim (λ f. sym f ∙ e)
    (λ d'. let b = first_below r ps q h d' in let e' = ap (λ (x : Pair). x.size) e in absurd (omega arith)) (contains_cases r ps q d))
    (λ c'. ⊎_elim
    (λ f. let b = first_below r ps p h c' in let f' = ap (λ (x : Pair). x.error) f in absurd (omega arith))
    (λ d'. one_only ps p q (falls_tail r ps h) c' d' dom) (contains_cases r ps q d))
    (contains_cases r ps p c)

module _ (Is : Pair → Type 0) (layer : List Pair) where
  pub front_layer : IsFront Is layer → IsLayer Is layer
  front_layer f = record {
    rises = rises_weaker layer f.order;
    has = λ p. (
      (λ c. (
        f.only p c,
        λ q h dom. let r = f.covers q h in
            let e : r.0 ≡ p = one_only layer p r.0 f.order c r.1 (dominates_trans r.0 q p r.2 dom) in
            let back : Dominates p q = subst (λ x. Dominates x q) e r.2 in
            dominates_both q p dom back,
      )),
      (λ u. let r = f.covers p u.0 in subst (λ x. Contains layer x) (u.1 r.0 (f.only r.0 r.1) r.2) r.1),
    );
  }

-- two rising lists with the same pairs
pub same_rising : (ps qs : List Pair) → Rises ps → Rises qs → ((x : Pair) → Contains ps x → Contains qs x) → ((x : Pair) → Contains qs x → Contains ps x) → ps ≡ qs
same_rising [] [] a b f g = refl
same_rising [] (q ∷ qs) a b f g = absurd (contains_none q (g q (contains_head q qs)))
same_rising (p ∷ ps) [] a b f g = absurd (contains_none p (f p (contains_head p ps)))
same_rising (p ∷ ps) (q ∷ qs) a b f g =
    let e : p ≡ q = ⊎_elim sym
    (λ c. ⊎_elim (λ e. e)
    (λ d. absurd (omega (arith, first_smaller q qs p b c, first_smaller p ps q a d))) (contains_cases p ps q (g q (contains_head q qs))))
    (contains_cases q qs p (f p (contains_head p ps))) in
    let e' = ap (λ (x : Pair). x.size) e in
    let rest = same_rising ps qs (rises_tail p ps a) (rises_tail q qs b)
    (λ x c. ⊎_elim (λ i. let s = ap (λ (y : Pair). y.size) i in absurd (omega (arith, first_smaller p ps x a c))) (λ d. d) (contains_cases q qs x (f x (contains_tail p ps x c))))
    (λ x c. ⊎_elim (λ i. let s = ap (λ (y : Pair). y.size) i in absurd (omega (arith, first_smaller q qs x b c))) (λ d. d) (contains_cases p ps x (g x (contains_tail q qs x c)))) in
    λ i. e i ∷ rest i

-- The Pareto frontier is unique.
pub one_layer : (Is : Pair → Type 0) (ps qs : List Pair) → IsLayer Is ps → IsLayer Is qs → ps ≡ qs
one_layer Is ps qs a b = same_rising ps qs a.rises b.rises (λ x c. (b.has x).1 ((a.has x).0 c)) (λ x c. (a.has x).1 ((b.has x).0 c))
