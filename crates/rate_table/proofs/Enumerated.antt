-- The list of all choices: it has exactly the choices, in the order of their index lists, and its best element is
-- the best choice.
use Rattle.std.proofs.Common.{◌≡◌, ℕ, ◌<◌, ◌≤◌, true, false, ◌&&◌, List, [], ◌∷◌, ◌++◌, map, length, None, Some, refl, sym, ap, ◌∙◌, subst, arith, ◌⊎◌, inl, inr, ⊎_elim}
use Rattle.std.specs.List.{Contains, flat_map, All}
use Rattle.std.proofs.lemmas.List.Elements.{All-head, All-tail, Contains-append_cases}
use Rattle.std.proofs.lemmas.Bool.{ltb-true, ltb-false, leb-true, le-leb, eqb-true, eqb-false, and_parts, and_cases, or_cases, or_parts, cases_Bool, both_ways, cond-true, cond-false}
use Rattle.rate_table.specs.declared.entry.Entry.{Entry}
use Rattle.rate_table.specs.Table.{Table, IndicesRise, IsSliceTable, IsTable, IsChoice, Fits, HasNoFit, size_of, error_of, pair_of, indices, ComesFirst, IsBest}
use Rattle.rate_table.specs.Choices.{all_choices, width, fits, beats, better, best_of}
use Rattle.rate_table.proofs.Lists.{contains_cases, contains_head, contains_tail, contains_none, contains_map, map_contains, contains_flat, flat_contains, length-flat}
use Rattle.rate_table.proofs.Entries.{index_after, rest_rises}

-- ---- its elements

abbrev with_entries : List Entry → List (List Entry) → List (List Entry)
with_entries slice choices = flat_map (λ x. map (λ choice. x ∷ choice) choices) slice

pub all_are_choices : (slices : List (List Entry)) (choice : List Entry) → Contains (all_choices slices) choice → IsChoice slices choice
all_are_choices [] choice c = ⊎_elim (λ e. subst (λ d. IsChoice [] d) e tt) (λ i. absurd (contains_none choice i)) (contains_cases [] [] choice c)
all_are_choices (s ∷ ss) choice c =
    let f = contains_flat (λ x. map (λ d. x ∷ d) (all_choices ss)) s choice c in
    let m = contains_map (λ d. f.0 ∷ d) (all_choices ss) choice f.2 in
    subst (λ d. IsChoice (s ∷ ss) d) m.2 (f.1, all_are_choices ss m.0 m.1)

pub choices_are_all : (slices : List (List Entry)) (choice : List Entry) → IsChoice slices choice → Contains (all_choices slices) choice
choices_are_all [] [] h = contains_head [] []
choices_are_all [] (x ∷ c) h = absurd h
choices_are_all (s ∷ ss) [] h = absurd h
choices_are_all (s ∷ ss) (x ∷ c) h =
    flat_contains (λ x. map (λ d. x ∷ d) (all_choices ss)) s x (x ∷ c) h.0
    (map_contains (λ d. x ∷ d) (all_choices ss) c (choices_are_all ss c h.1))

same_many : (x : Entry) (cs : List (List Entry)) → length (map (λ c. x ∷ c) cs) ≡ length cs
same_many x [] = refl
same_many x (c ∷ cs) = omega (arith, same_many x cs)

pub count_is_width : (slices : List (List Entry)) → length (all_choices slices) ≡ width slices
count_is_width [] = refl
count_is_width (s ∷ ss) =
    length-flat (λ x. map (λ d. x ∷ d) (all_choices ss)) (width ss) s (λ x. same_many x (all_choices ss) ∙ count_is_width ss)

-- ---- its order

pub comes_first-self : (xs : List ℕ) → ComesFirst xs xs
comes_first-self [] = tt
comes_first-self (x ∷ xs) = inr (refl, comes_first-self xs)

pub comes_first-then : (xs ys zs : List ℕ) → ComesFirst xs ys → ComesFirst ys zs → ComesFirst xs zs
comes_first-then [] ys zs a b = tt
comes_first-then (x ∷ xs) [] zs a b = absurd a
comes_first-then (x ∷ xs) (y ∷ ys) [] a b = absurd b
comes_first-then (x ∷ xs) (y ∷ ys) (z ∷ zs) a b =
    ⊎_elim (λ l. ⊎_elim (λ k. inl (omega arith)) (λ k. inl (omega (arith, k.0))) b)
    (λ l. ⊎_elim (λ k. inl (omega (arith, l.0))) (λ k. inr (l.0 ∙ k.0, comes_first-then xs ys zs l.1 k.1)) b) a

-- each choice comes before those after it
abbrev pub InOrder : List (List Entry) → Type 0
InOrder [] = Unit {0}
InOrder (c ∷ cs) = ((d : List Entry) → Contains cs d → ComesFirst (indices c) (indices d)) × InOrder cs

order-append : (cs ds : List (List Entry)) → InOrder cs → InOrder ds → ((c d : List Entry) → Contains cs c → Contains ds d → ComesFirst (indices c) (indices d)) → InOrder (cs ++ ds)
order-append [] ds h k across = k
order-append (c ∷ cs) ds h k across = (
  λ d e. ⊎_elim (λ i. h.0 d i) (λ j. across c d (contains_head c cs) j) (Contains-append_cases cs ds d e),
  order-append cs ds h.1 k (λ x y i j. across x y (contains_tail c cs x i) j),
)

order-map : (x : Entry) (cs : List (List Entry)) → InOrder cs → InOrder (map (λ c. x ∷ c) cs)
order-map x [] h = tt
order-map x (c ∷ cs) h = (
  λ d i. let m = contains_map (λ c. x ∷ c) cs d i in subst (λ w. ComesFirst (indices (x ∷ c)) (indices w)) m.2 (inr (refl, h.0 m.0 m.1)),
  order-map x cs h.1,
)

order-entries : (slice : List Entry) (cs : List (List Entry)) → IndicesRise slice → InOrder cs → InOrder (with_entries slice cs)
order-entries [] cs rises h = tt
order-entries (x ∷ xs) cs rises h =
    order-append (map (λ c. x ∷ c) cs) (with_entries xs cs) (order-map x cs h) (order-entries xs cs (rest_rises x xs rises) h) (λ a b i j.
    let m = contains_map (λ c. x ∷ c) cs a i in
    let f = contains_flat (λ x. map (λ c. x ∷ c) cs) xs b j in
    let n = contains_map (λ c. f.0 ∷ c) cs b f.2 in
    subst (λ w. ComesFirst (indices a) (indices w)) n.2 (subst (λ w. ComesFirst (indices w) (indices (f.0 ∷ n.0))) m.2 (inl (index_after x xs f.0 rises f.1))))

pub all_in_order : (slices : List (List Entry)) → All IsSliceTable slices → InOrder (all_choices slices)
all_in_order [] a = (λ d c. absurd (contains_none d c), tt)
all_in_order (s ∷ ss) a = order-entries s (all_choices ss) (All-head IsSliceTable s ss a).rises (all_in_order ss (All-tail IsSliceTable s ss a))

-- ---- its best element

-- b is no worse than a fitting choice c, and comes before it if they have the same pair
record Leads (b c : List Entry) : Type 0 where
  error : error_of b ≤ error_of c
  size : error_of c ≡ error_of b → size_of b ≤ size_of c
  first : pair_of c ≡ pair_of b → ComesFirst (indices b) (indices c)

-- b is one of the choices, it fits, and leads the others that fit
record Best (t : Table) (b : List Entry) (cs : List (List Entry)) : Type 0 where
  one : Contains cs b
  fits : Fits t b
  leads : (c : List Entry) → Contains cs c → Fits t c → Leads b c

leads-self : (b : List Entry) → Leads b b
leads-self b = record { error = omega arith; size = λ e. omega arith; first = λ e. comes_first-self (indices b) }

beats-cases : (c held : List Entry) → beats c held ≡ true → (error_of c < error_of held) ⊎ ((error_of c ≡ error_of held) × (size_of c < size_of held))
beats-cases c held h =
    ⊎_elim (λ e. inl (ltb-true _ _ e)) (λ e. let parts = and_parts _ _ e in inr (eqb-true _ _ parts.0, ltb-true _ _ parts.1)) (or_cases _ _ h)

beats-then : (b c held : List Entry) → beats c held ≡ true → Leads b c → Leads b held
beats-then b c held h l = ⊎_elim less smaller (beats-cases c held h)
  where
    less : error_of c < error_of held → Leads b held
    less e = record {
      error = omega (arith, l.error);
      size = λ same. omega (arith, l.error);
      first = λ same. let se = ap (λ p. p.error) same in absurd (omega (arith, l.error));
    }

    smaller : (error_of c ≡ error_of held) × (size_of c < size_of held) → Leads b held
    smaller e = record {
      error = omega (arith, l.error, e.0);
      size = λ same. let s = l.size (e.0 ∙ same) in omega (arith, e.1);
      first = λ same. let se = ap (λ p. p.error) same in let ss = ap (λ p. p.size) same in let s = l.size (e.0 ∙ se) in absurd (omega (arith, e.1));
    }

beaten-then : (b held c : List Entry) → beats c held ≡ false → ComesFirst (indices held) (indices c) → Leads b held → Leads b c
beaten-then b held c h before l =
    let parts = or_parts _ _ h in
    let error : error_of held ≤ error_of c = ltb-false _ _ parts.0 in
    let size : error_of c ≡ error_of held → size_of held ≤ size_of c = λ e.
    ⊎_elim (λ no. absurd (eqb-false _ _ no e)) (λ no. ltb-false _ _ no) (and_cases _ _ parts.1) in
    record {
      error = omega (arith, l.error);
      size = λ same. let e : error_of c ≡ error_of held = omega (arith, l.error) in let s = size e in let r = l.size (sym e ∙ same) in omega arith;
      first = λ same.
          let se = ap (λ p. p.error) same in
          let ss = ap (λ p. p.size) same in
          let e : error_of c ≡ error_of held = omega (arith, l.error) in
          let s = size e in
          let r = l.size (sym e ∙ se) in
          let m : size_of held ≡ size_of b = omega arith in
          let n : error_of held ≡ error_of b = sym e ∙ se in
          comes_first-then (indices b) (indices held) (indices c) (l.first (λ i. record { size = m i; error = n i })) before;
    }

-- a choice is taken or skipped
best-taken : (t : Table) (held c b : List Entry) (cs : List (List Entry)) → (fits t c && beats c held) ≡ true → Best t b (c ∷ cs) → Best t b (held ∷ c ∷ cs)
best-taken t held c b cs h r =
    let parts = and_parts _ _ h in
    record {
      one = contains_tail held (c ∷ cs) b r.one;
      fits = r.fits;
      leads = λ d i g. ⊎_elim
          (λ e. subst (λ w. Leads b w) e (beats-then b c held parts.1 (r.leads c (contains_head c cs) (leb-true _ _ parts.0))))
          (λ j. r.leads d j g) (contains_cases held (c ∷ cs) d i);
    }

best-passed : (t : Table) (held c b : List Entry) (cs : List (List Entry)) → (fits t c && beats c held) ≡ false → Fits t held → ComesFirst (indices held) (indices c) → Best t b (held ∷ cs) → Best t b (held ∷ c ∷ cs)
best-passed t held c b cs h f before r =
    let first = r.leads held (contains_head held cs) f in
    record {
      one = ⊎_elim (λ e. subst (λ w. Contains (held ∷ c ∷ cs) w) e (contains_head held (c ∷ cs))) (λ j. contains_tail held (c ∷ cs) b (contains_tail c cs b j)) (contains_cases held cs b r.one);
      fits = r.fits;
      leads = λ d i g. ⊎_elim
          (λ e. subst (λ w. Leads b w) e first)
          (λ j. ⊎_elim
          (λ e. let g' = subst (λ w. Fits t w) (sym e) g in
          ⊎_elim (λ no. absurd (both_ways _ no (le-leb _ _ g'))) (λ no. subst (λ w. Leads b w) e (beaten-then b held c no before first)) (and_cases _ _ h))
          (λ k. r.leads d (contains_tail held cs d k) g) (contains_cases c cs d j))
          (contains_cases held (c ∷ cs) d i);
    }

-- with a best choice so far: it and the choices after it
best_of-held : (t : Table) (held b : List Entry) (cs : List (List Entry)) → Fits t held → InOrder (held ∷ cs) → best_of t (Some held) cs ≡ Some b → Best t b (held ∷ cs)
best_of-held t held b [] f order e =
    let same : held ≡ b = cc in
    subst (λ w. Best t w (held ∷ [])) same (record {
      one = contains_head held [];
      fits = f;
      leads = λ c i g. ⊎_elim (λ e. subst (λ w. Leads held w) e (leads-self held)) (λ j. absurd (contains_none c j)) (contains_cases held [] c i);
    })
best_of-held t held b (c ∷ cs) f order e =
    ⊎_elim
    (λ h. let step : better t (Some held) c ≡ Some c = cond-true (fits t c && beats c held) (Some c) (Some held) h in
    best-taken t held c b cs h (best_of-held t c b cs (leb-true _ _ (and_parts _ _ h).0) order.1 (subst (λ w. best_of t w cs ≡ Some b) step e)))
    (λ h. let step : better t (Some held) c ≡ Some held = cond-false (fits t c && beats c held) (Some c) (Some held) h in
    best-passed t held c b cs h f (order.0 c (contains_head c cs))
    (best_of-held t held b cs f (λ d i. order.0 d (contains_tail c cs d i), order.1.1) (subst (λ w. best_of t w cs ≡ Some b) step e)))
    (cases_Bool (fits t c && beats c held))

best-unfit : (t : Table) (c b : List Entry) (cs : List (List Entry)) → fits t c ≡ false → Best t b cs → Best t b (c ∷ cs)
best-unfit t c b cs h r = record {
  one = contains_tail c cs b r.one;
  fits = r.fits;
  leads = λ d i g. ⊎_elim (λ e. absurd (both_ways _ h (le-leb _ _ (subst (λ w. Fits t w) (sym e) g)))) (λ j. r.leads d j g) (contains_cases c cs d i);
}

-- with no best choice so far
best_of-choices : (t : Table) (b : List Entry) (cs : List (List Entry)) → InOrder cs → best_of t None cs ≡ Some b → Best t b cs
best_of-choices t b [] order e = absurd (cc)
best_of-choices t b (c ∷ cs) order e =
    ⊎_elim
    (λ h. let step : better t None c ≡ Some c = cond-true (fits t c) (Some c) None h in
    best_of-held t c b cs (leb-true _ _ h) order (subst (λ w. best_of t w cs ≡ Some b) step e))
    (λ h. let step : better t None c ≡ None = cond-false (fits t c) (Some c) None h in
    best-unfit t c b cs h (best_of-choices t b cs order.1 (subst (λ w. best_of t w cs ≡ Some b) step e)))
    (cases_Bool (fits t c))

held_stays : (t : Table) (held : List Entry) (cs : List (List Entry)) → best_of t (Some held) cs ≡ None → ⊥
held_stays t held [] e = cc
held_stays t held (c ∷ cs) e =
    ⊎_elim (λ h. held_stays t c cs (subst (λ w. best_of t w cs ≡ None) (cond-true (fits t c && beats c held) (Some c) (Some held) h) e))
    (λ h. held_stays t held cs (subst (λ w. best_of t w cs ≡ None) (cond-false (fits t c && beats c held) (Some c) (Some held) h) e)) (cases_Bool (fits t c && beats c held))

none_fits : (t : Table) (cs : List (List Entry)) → best_of t None cs ≡ None → (c : List Entry) → Contains cs c → Fits t c → ⊥
none_fits t [] e c i g = contains_none c i
none_fits t (d ∷ cs) e c i g =
    ⊎_elim (λ h. held_stays t d cs (subst (λ w. best_of t w cs ≡ None) (cond-true (fits t d) (Some d) None h) e))
    (λ h. ⊎_elim (λ same. both_ways _ h (le-leb _ _ (subst (λ w. Fits t w) (sym same) g))) (λ j. none_fits t cs (subst (λ w. best_of t w cs ≡ None) (cond-false (fits t d) (Some d) None h) e) c j g) (contains_cases d cs c i)) (cases_Bool (fits t d))

-- The best of all choices by the test `beats`, from the first on, is the best choice.
pub best_of-is_best : (t : Table) (b : List Entry) → IsTable t → best_of t None (all_choices t.slices) ≡ Some b → IsBest t b
best_of-is_best t b ok e =
    let r = best_of-choices t b (all_choices t.slices) (all_in_order t.slices ok.each) e in
    record {
      choice = all_are_choices t.slices b r.one;
      fits = r.fits;
      error = λ other h g. (r.leads other (choices_are_all t.slices other h) g).error;
      size = λ other h g same. (r.leads other (choices_are_all t.slices other h) g).size same;
      first = λ other h same. let m = ap (λ p. p.size) same in (r.leads other (choices_are_all t.slices other h) (omega (arith, r.fits))).first same;
    }

-- If there is none, no choice fits.
pub best_of-none : (t : Table) → best_of t None (all_choices t.slices) ≡ None → HasNoFit t
best_of-none t e c h g = none_fits t (all_choices t.slices) e c (choices_are_all t.slices c h) g
