-- From found frontiers to the first choice with the goal's pair.
use Rattle.std.proofs.Common.{◌≡◌, ℕ, suc, ◌+◌, ◌-◌, ◌^◌, ◌<◌, ◌≤◌, List, [], ◌∷◌, ◌++◌, Bool, true, false, length, get_or, replicate, drop, refl, sym, ap, ◌∙◌, subst, arith, ⊎_elim}
use Rattle.std.specs.List.{Contains}
use Rattle.std.proofs.lemmas.List.{length-append, length-replicate, get_or_append_left, get_or_push, get_or_default, length_push, drop_all, map_push, append_assoc, append-nil}
use Rattle.std.proofs.lemmas.Bool.{cases_lt}
use Rattle.std.proofs.Math.Seq.{drop-cons}
use Rattle.rate_table.specs.declared.entry.Entry.{Entry}
use Rattle.rate_table.specs.declared.entry.Pair.{Pair}
use Rattle.rate_table.specs.Table.{Table, IsChoice, Fits, size_of, error_of, pair_of, indices, IndicesRise}
use Rattle.rate_table.specs.Pairs.{joined}
use Rattle.rate_layers.specs.First.{IsFirst, extended, IsFirstFrom, Leads}
use Rattle.rate_layers.specs.Layers.{Reaches, Rises, IsFront, AreKept, pairs_in}
use Rattle.rate_layers.specs.inner.Live.{LeadsOn, IsFirstOn, LeadOn, LeadTo, marked, MarkedOn, MarkedTo, AreFound, AreMarked}
use Rattle.rate_table.proofs.Lists.{contains_none}
use Rattle.rate_layers.proofs.Fronts.{same_pair}
use Rattle.rate_layers.proofs.Asked.{Stays, At, kept_test}
use Rattle.rate_layers.proofs.Kept.{kept_front}
use Rattle.rate_layers.proofs.Firsts.{IsOptimal, below_last, last_in, prefix_in, extended_cons, greedy_end}
use Rattle.rate_layers.proofs.Leading.{AreLive, leads_next, live_step, walk_step, live_end, first_from_none}
use Rattle.rate_layers.proofs.Marked.{marked_last}
use Rattle.rate_layers.proofs.Produced.{whole}

-- the entries of a slice, as an element of the table's
pub entries_at : (t : Table) (slices : List (List Entry)) (k : ℕ) (s entries : List Entry) → slices ≡ t.slices → k < length t.slices → s ≡ get_or slices k s → entries ≡ s → entries ≡ get_or t.slices k []
entries_at t slices k s entries same n is e = e ∙ is ∙ ap (λ l. get_or l k s) same ∙ get_or_default t.slices k s [] n

-- the marks of the frontiers from k on, the last one's first
pub record MarkedFrom (t : Table) (goal : Pair) (layers : List (List Pair)) (marks : List (List Bool)) (k : ℕ) : Type 0 where
  pub count : length marks + k ≡ suc (length t.slices)
  pub each : (i j : ℕ) → i < length marks → i + j ≡ length t.slices → MarkedTo (drop j t.slices) goal (get_or layers j []) (get_or marks i [])

module _ (t : Table) (m u : ℕ) (goal : Pair) (layers : List (List Pair)) (found : AreFound t m u goal layers) where
  front_at : (k : ℕ) → k ≤ length t.slices → IsFront (At t (Stays t m u) k) (get_or layers k [])
  front_at k l = kept_front t m u k (get_or layers k []) (found.kept.1 k l)

  last_front : IsFront (λ p. Reaches t.slices p × Stays t m u [] p) (found.last.0 ++ goal ∷ [])
  last_front = subst (λ l. IsFront (λ p. Reaches t.slices p × Stays t m u [] p) l) found.last.1
      (whole t (Stays t m u) (get_or layers (length t.slices) []) (front_at (length t.slices) (omega arith)))

  -- a choice has the goal's pair
  pub goal_reached : Reaches t.slices goal
  goal_reached = (last_front.only goal (last_in found.last.0 goal)).0

  pub goal_fits : t.fixed + goal.size ≤ t.budget
  goal_fits = let f = (last_front.only goal (last_in found.last.0 goal)).1.0 in omega arith

  -- a fitting choice whose error is within the bound
  goal_least : (other : List Entry) → IsChoice t.slices other → Fits t other → error_of other ≤ u → (goal.error ≤ error_of other) × (error_of other ≡ goal.error → goal.size ≤ size_of other)
  goal_least = below_last t u (Stays t m u) (kept_test t m u) found.last.0 goal last_front

  pub goal_below : goal.error ≤ u
  goal_below = let s = found.some in omega (arith, (goal_least s.0 s.1 s.2 s.3).0, s.3)

  -- no fitting choice has less error
  pub goal_all : (other : List Entry) → IsChoice t.slices other → Fits t other → goal.error ≤ error_of other
  goal_all other i f = ⊎_elim (λ b. omega (arith, goal_below)) (λ b. (goal_least other i f b).0) (cases_lt u (error_of other))

  pub goal_optimal : IsOptimal t goal
  goal_optimal other i f d =
      let e = goal_least other i f (omega (arith, d.1, goal_below)) in
      same_pair (pair_of other) goal (omega (arith, d.0, d.1, e.0, e.1)) (omega (arith, d.1, e.0))

  -- ---- from the last frontier back

  pub last_long : 0 < length (get_or layers (length t.slices) [])
  last_long = omega (arith, ap length found.last.1, length-append found.last.0 (goal ∷ []))

  -- the goal alone, in the last frontier
  pub lead_end : (marks : List Bool) → marks ≡ replicate (length (get_or layers (length t.slices) []) - 1) false ++ true ∷ [] → MarkedTo (drop (length t.slices) t.slices) goal (get_or layers (length t.slices) []) marks
  lead_end marks is =
      let layer = get_or layers (length t.slices) [] in
      let front = found.last.0 in
      let n = ap length found.last.1 in
      let count : length layer - 1 ≡ length front = omega (arith, n, length-append front (goal ∷ [])) in
      let is' : marks ≡ replicate (length front) false ++ true ∷ [] = is ∙ ap (λ k. replicate k false ++ true ∷ []) count in
      let one : marked marks layer ≡ goal ∷ [] = ap (λ ms. marked ms layer) is' ∙ ap (λ l. marked (replicate (length front) false ++ true ∷ []) l) found.last.1 ∙ marked_last front goal in
      let c : Contains layer goal = subst (λ l. Contains l goal) (sym found.last.1) (last_in front goal) in
      let a = live_end goal layer c in
      let l : LeadTo [] goal layer (goal ∷ []) = record { rises = tt; some = a.some; all = a.all } in
      let l' = subst (λ y. LeadTo y goal layer (goal ∷ [])) (sym (drop_all (length t.slices) t.slices (omega arith))) l in
      record {
        count = omega (arith, ap length is', length-append (replicate (length front) false) (true ∷ []), length-replicate (length front) false, n, length-append front (goal ∷ []));
        lead = subst (λ y. LeadTo (drop (length t.slices) t.slices) goal layer y) (sym one) l';
      }

  as_live : (later : List (List Entry)) (layer live : List Pair) → LeadTo later goal layer live → AreLive later goal layer live
  as_live later layer live a = record { some = a.some; all = a.all }

  pub lead_back : (k : ℕ) (live_next live : List Pair) → k < length t.slices → LeadTo (drop (suc k) t.slices) goal (get_or layers (suc k) []) live_next → LeadOn (get_or t.slices k []) live_next (get_or layers k []) live → LeadTo (drop k t.slices) goal (get_or layers k []) live
  lead_back k live_next live n a on =
      let s = live_step t u (Stays t m u) (kept_test t m u) goal goal_optimal goal_fits goal_below k (get_or layers k []) (get_or layers (suc k) []) live_next live n
      (front_at k (omega arith)) (front_at (suc k) n) (as_live _ _ live_next a) (λ p c. let s = on.some p c in (s.0, s.1.0, s.1.1, s.1.2)) (λ p c x i l. on.all p c (x, i, l)) in
      record { rises = on.rises; some = s.some; all = s.all }

  pub marks_first : (marks : List (List Bool)) (last : List Bool) → marks ≡ last ∷ [] → last ≡ replicate (length (get_or layers (length t.slices) []) - 1) false ++ true ∷ [] → MarkedFrom t goal layers marks (length t.slices)
  marks_first marks last e is =
      let n = ap length e in
      record {
        count = omega arith;
        each = λ i j l s.
            let z : 0 ≡ i = omega arith in
            let z' : length t.slices ≡ j = omega arith in
            subst (λ i'. MarkedTo (drop j t.slices) goal (get_or layers j []) (get_or marks i' [])) z
            (subst (λ j'. MarkedTo (drop j' t.slices) goal (get_or layers j' []) (get_or marks 0 [])) z'
            (subst (λ ms. MarkedTo (drop (length t.slices) t.slices) goal (get_or layers (length t.slices) []) (get_or ms 0 [])) (sym e) (lead_end last is)));
      }

  -- the marks of the next frontier, as the step before left them
  pub marks_last : (marks : List (List Bool)) (k : ℕ) → k < length t.slices → MarkedFrom t goal layers marks (suc k) → MarkedTo (drop (suc k) t.slices) goal (get_or layers (suc k) []) (get_or marks (length marks - 1) [])
  marks_last marks k n a = a.each (length marks - 1) (suc k) (omega (arith, a.count)) (omega (arith, a.count))

  pub marks_more : (marks : List (List Bool)) (k : ℕ) (slice : List Entry) (next layer : List Pair) (next_marks before : List Bool) → MarkedFrom t goal layers marks (suc k) → k < length t.slices → slice ≡ get_or t.slices k [] → next ≡ get_or layers (suc k) [] → next_marks ≡ get_or marks (length marks - 1) [] → layer ≡ get_or layers k [] → MarkedOn slice next next_marks layer before → MarkedFrom t goal layers (marks ++ before ∷ []) k
  marks_more marks k slice next layer next_marks before a n es en em el on =
      let on1 = subst (λ y. MarkedOn y next next_marks layer before) es on in
      let on2 = subst (λ y. MarkedOn (get_or t.slices k []) y next_marks layer before) en on1 in
      let on3 = subst (λ y. MarkedOn (get_or t.slices k []) (get_or layers (suc k) []) y layer before) em on2 in
      let on4 = subst (λ y. MarkedOn (get_or t.slices k []) (get_or layers (suc k) []) (get_or marks (length marks - 1) []) y before) el on3 in
      let next_live = marked (get_or marks (length marks - 1) []) (get_or layers (suc k) []) in
      let l = lead_back k next_live (marked before (get_or layers k [])) n (marks_last marks k n a).lead on4.lead in
      let b : MarkedTo (drop k t.slices) goal (get_or layers k []) before = record { count = on4.count; lead = l } in
      record {
        count = omega (arith, a.count, length_push marks before);
        each = λ x y l s. ⊎_elim
            (λ h. subst (λ v. MarkedTo (drop y t.slices) goal (get_or layers y []) v) (sym (get_or_append_left marks (before ∷ []) [] x h)) (a.each x y h s))
            (λ h. let x' : length marks ≡ x = omega (arith, length_push marks before) in
            let y' : k ≡ y = omega (arith, a.count) in
            subst (λ v. MarkedTo (drop y t.slices) goal (get_or layers y []) v) (sym (get_or_push marks before [] x x'))
            (subst (λ j. MarkedTo (drop j t.slices) goal (get_or layers j []) before) y' b))
            (cases_lt x (length marks));
      }

  pub layer_rises : (k : ℕ) → k ≤ length t.slices → Rises (get_or layers k [])
  layer_rises k l = (found.kept.1 k l).2

  pub marks_end : (marks : List (List Bool)) (k : ℕ) → k ≤ 0 → MarkedFrom t goal layers marks k → AreMarked t goal layers marks
  marks_end marks k z a = record {
    multiplier = m;
    error = u;
    found = found;
    count = omega (arith, a.count);
    each = λ i j s. a.each i j (omega (arith, a.count)) s;
  }

  -- ---- from the empty pair forward

  -- the empty pair is in the first frontier
  pub none_first : Contains (get_or layers 0 []) (record { size = 0; error = 0 })
  none_first =
      let r = goal_reached in
      let es : size_of r.0 ≡ goal.size = ap (λ (p : Pair). p.size) r.2 in
      let ee : error_of r.0 ≡ goal.error = ap (λ (p : Pair). p.error) r.2 in
      prefix_in t u (Stays t m u) (kept_test t m u) 0 (get_or layers 0 []) (front_at 0 (omega arith)) goal goal_optimal goal_fits goal_below [] r.0 tt r.1
      (same_pair (extended (pair_of []) r.0) goal (omega arith) (omega arith))

  pub none_leads : Leads t.slices (record { size = 0; error = 0 }) goal
  none_leads =
      let r = goal_reached in
      let es : size_of r.0 ≡ goal.size = ap (λ (p : Pair). p.size) r.2 in
      let ee : error_of r.0 ≡ goal.error = ap (λ (p : Pair). p.error) r.2 in
      (r.0, r.1, same_pair (extended (record { size = 0; error = 0 }) r.0) goal (omega arith) (omega arith))

  -- a live pair leads to a live pair
  pub live_on : (k : ℕ) (live live_next : List Pair) (p : Pair) → k < length t.slices → LeadTo (drop k t.slices) goal (get_or layers k []) live → LeadTo (drop (suc k) t.slices) goal (get_or layers (suc k) []) live_next → Contains live p → LeadsOn (get_or t.slices k []) live_next p
  live_on k live live_next p n a b c =
      let s = a.some p c in
      onward (subst (λ y. Leads y p goal) (drop-cons t.slices k [] n) s.1) s.0
    where
      onward : Leads (get_or t.slices k [] ∷ drop (suc k) t.slices) p goal → Contains (get_or layers k []) p → LeadsOn (get_or t.slices k []) live_next p
      onward ([], h, e) i = absurd h
      onward (x ∷ d, h, e) i =
          let l : Leads (drop (suc k) t.slices) (joined p x) goal = (d, h.1, sym (extended_cons p x d) ∙ e) in
          (x, h.0, b.all (joined p x) (leads_next t u (Stays t m u) (kept_test t m u) goal goal_optimal goal_fits goal_below k (get_or layers k []) (get_or layers (suc k) []) n (front_at k (omega arith)) (front_at (suc k) n) p i x h.0 l) l)

  pub first_step : (k : ℕ) (live live_next : List Pair) (p : Pair) (x : Entry) (d : List Entry) → k < length t.slices → LeadTo (drop k t.slices) goal (get_or layers k []) live → LeadTo (drop (suc k) t.slices) goal (get_or layers (suc k) []) live_next → Contains live p → IndicesRise (get_or t.slices k []) → IsFirstOn (get_or t.slices k []) live_next p x → IsFirstFrom (drop (suc k) t.slices) (joined p x) goal d → IsFirstFrom (drop k t.slices) p goal (x ∷ d)
  first_step k live live_next p x d n a b c rise f w =
      walk_step t u (Stays t m u) (kept_test t m u) goal goal_optimal goal_fits goal_below k (get_or layers k []) (get_or layers (suc k) []) live_next n (front_at k (omega arith)) (front_at (suc k) n)
      (as_live _ _ live_next b) rise p (a.some p c).0 x f.in_slice f.leads f.first d w

-- ---- the walk

-- the walk after k slices
pub record Walking (t : Table) (goal : Pair) (layers : List (List Pair)) (marks : List (List Bool)) (k : ℕ) (p : Pair) (chosen : List ℕ) : Type 0 where
  pub taken : List Entry
  pub has : chosen ≡ indices taken
  pub live : (i : ℕ) → i + k ≡ length t.slices → Contains (marked (get_or marks i []) (get_or layers k [])) p
  pub goes : (d : List Entry) → IsFirstFrom (drop k t.slices) p goal d → IsFirstFrom t.slices (record { size = 0; error = 0 }) goal (taken ++ d)

module _ (t : Table) (goal : Pair) (layers : List (List Pair)) (marks : List (List Bool)) (a : AreMarked t goal layers marks) where
  pub walk_first : (chosen : List ℕ) → chosen ≡ [] → Walking t goal layers marks 0 (record { size = 0; error = 0 }) chosen
  walk_first chosen e = record {
    taken = [];
    has = e;
    live = λ i s. (a.each i 0 s).lead.all (record { size = 0; error = 0 }) (none_first t a.multiplier a.error goal layers a.found) (none_leads t a.multiplier a.error goal layers a.found);
    goes = λ d w. w;
  }

  pub walk_on : (k i : ℕ) (p : Pair) (chosen : List ℕ) → suc i + k ≡ length t.slices → Walking t goal layers marks k p chosen → LeadsOn (get_or t.slices k []) (marked (get_or marks i []) (get_or layers (suc k) [])) p
  walk_on k i p chosen s w =
      live_on t a.multiplier a.error goal layers a.found k (marked (get_or marks (suc i) []) (get_or layers k [])) (marked (get_or marks i []) (get_or layers (suc k) [])) p (omega arith) (a.each (suc i) k s).lead (a.each i (suc k) (omega arith)).lead (w.live (suc i) s)

  pub walk_more : (k i : ℕ) (p : Pair) (x : Entry) (chosen : List ℕ) → suc i + k ≡ length t.slices → IndicesRise (get_or t.slices k []) → Walking t goal layers marks k p chosen → IsFirstOn (get_or t.slices k []) (marked (get_or marks i []) (get_or layers (suc k) [])) p x → Walking t goal layers marks (suc k) (joined p x) (chosen ++ x.index ∷ [])
  walk_more k i p x chosen s rise w f = record {
    taken = w.taken ++ x ∷ [];
    has = ap (λ l. l ++ x.index ∷ []) w.has ∙ sym (map_push (λ (y : Entry). y.index) w.taken x);
    live = λ j e. let e' : i ≡ j = omega arith in subst (λ j'. Contains (marked (get_or marks j' []) (get_or layers (suc k) [])) (joined p x)) e' f.leads;
    goes = λ d h.
        let step = first_step t a.multiplier a.error goal layers a.found k (marked (get_or marks (suc i) []) (get_or layers k [])) (marked (get_or marks i []) (get_or layers (suc k) [])) p x d (omega arith) (a.each (suc i) k s).lead (a.each i (suc k) (omega arith)).lead (w.live (suc i) s) rise f h in
        subst (λ l. IsFirstFrom t.slices (record { size = 0; error = 0 }) goal l) (sym (append_assoc w.taken (x ∷ []) d)) (w.goes (x ∷ d) step);
  }

  -- marked pairs are no greater than the goal
  pub walk_small : (i k : ℕ) (p : Pair) → i + k ≡ length t.slices → Contains (marked (get_or marks i []) (get_or layers k [])) p → (p.size ≤ goal.size) × (p.error ≤ goal.error)
  walk_small i k p s c =
      let l = ((a.each i k s).lead.some p c).1 in
      let es : p.size + size_of l.0 ≡ goal.size = ap (λ (q : Pair). q.size) l.2 in
      let ee : p.error + error_of l.0 ≡ goal.error = ap (λ (q : Pair). q.error) l.2 in
      (omega arith, omega arith)

  pub walk_end : (k : ℕ) (p : Pair) (chosen : List ℕ) → k ≡ length t.slices → Walking t goal layers marks k p chosen → (c : List Entry) × IsFirst t.slices goal c × (chosen ≡ indices c)
  walk_end k p chosen e w =
      let l = ((a.each 0 k (omega arith)).lead.some p (w.live 0 (omega arith))).1 in
      let none : drop k t.slices ≡ [] = drop_all k t.slices (omega arith) in
      let here = subst (λ y. Leads y p goal) none l in
      let is : p ≡ goal = stays p here in
      let g = subst (λ y. IsFirstFrom y p goal []) (sym none) (subst (λ q. IsFirstFrom [] p q []) is (greedy_end p)) in
      let f = subst (λ y. IsFirstFrom t.slices (record { size = 0; error = 0 }) goal y) (append-nil w.taken) (w.goes [] g) in
      (w.taken, first_from_none t.slices goal w.taken f, w.has)
    where
      stays : (p : Pair) → Leads [] p goal → p ≡ goal
      stays p ([], h, e) = let b = ap (λ (q : Pair). q.size) e in let b' = ap (λ (q : Pair). q.error) e in same_pair p goal (omega arith) (omega arith)
      stays p (x ∷ d, h, e) = absurd h

-- ---- what the last pair of the last frontier proves

module _ (t : Table) (m u : ℕ) (layers : List (List Pair)) (kept : AreKept t m u layers) where
  ends : (front : List Pair) (p : Pair) → get_or layers (length t.slices) [] ≡ front ++ p ∷ [] → IsFront (λ p. Reaches t.slices p × Stays t m u [] p) (front ++ p ∷ [])
  ends front p e = subst (λ l. IsFront (λ p. Reaches t.slices p × Stays t m u [] p) l) e
      (whole t (Stays t m u) (get_or layers (length t.slices) []) (kept_front t m u (length t.slices) (get_or layers (length t.slices) []) (kept.1 (length t.slices) (omega arith))))

  -- it is the goal if its error is within the bound
  pub found_here : pairs_in layers ≤ 2 ^ 25 → (at : ℕ) → at ≡ length t.slices → (p : Pair) → (front : List Pair) × (get_or layers at [] ≡ front ++ p ∷ []) → p.error ≤ u → AreFound t m u p layers
  found_here few at n p (front, e) l =
      let e' = subst (λ i. get_or layers i [] ≡ front ++ p ∷ []) n e in
      let o = (ends front p e').only p (last_in front p) in
      let c = o.0.0 in
      let es : size_of c ≡ p.size = ap (λ (q : Pair). q.size) o.0.2 in
      let ee : error_of c ≡ p.error = ap (λ (q : Pair). q.error) o.0.2 in
      let f = o.1.0 in
      record { kept = kept; few = few; some = (c, o.0.1, omega arith, omega arith); last = (front, e') }

  -- otherwise no fitting choice is within it
  pub none_within : (at : ℕ) → at ≡ length t.slices → (p : Pair) → (front : List Pair) × (get_or layers at [] ≡ front ++ p ∷ []) → u < p.error → (c : List Entry) → IsChoice t.slices c → Fits t c → u < error_of c
  none_within at n p (front, e) l c i f =
      let e' = subst (λ i. get_or layers i [] ≡ front ++ p ∷ []) n e in
      ⊎_elim (λ b. b) (λ b. absurd (omega (arith, (below_last t u (Stays t m u) (kept_test t m u) front p (ends front p e') c i f b).0))) (cases_lt u (error_of c))

  pub none_ends : (at : ℕ) → at ≡ length t.slices → get_or layers at [] ≡ [] → (c : List Entry) → IsChoice t.slices c → Fits t c → u < error_of c
  none_ends at n e c i f =
      let e' = subst (λ j. get_or layers j [] ≡ []) n e in
      let g = whole t (Stays t m u) (get_or layers (length t.slices) []) (kept_front t m u (length t.slices) (get_or layers (length t.slices) []) (kept.1 (length t.slices) (omega arith))) in
      ⊎_elim (λ b. b)
      (λ b. let q = g.covers (pair_of c) ((c, i, refl), (kept_test t m u).keeps [] (pair_of c) [] tt (omega arith) (omega arith)) in
      absurd (contains_none q.0 (subst (λ l. Contains l q.0) e' q.1))) (cases_lt u (error_of c))
