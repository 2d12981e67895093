-- The records of groups can be written in a proof, and are read again.
use Rattle.std.proofs.Common.{◌≡◌, ℕ, ◌+◌, ◌*◌, ◌<◌, ◌≤◌, ◌^◌, ⊎_elim, true, List, [], ◌∷◌, ◌++◌, arith, length, map, take, get_or, ap, sym, ◌∙◌}
use Rattle.std.specs.Prelude.{IsTrue, nat_le}
use Rattle.std.specs.List.{All, AllByRecursion}
use Rattle.std.proofs.lemmas.Bool.{cases_lt}
use Rattle.std.proofs.lemmas.Bool.Decides.{nat_tests}
use Rattle.std.proofs.lemmas.List.{length-map, length-take}
use Rattle.std.proofs.lemmas.List.Sums.{sum_by-cons}
use Rattle.std.proofs.lemmas.List.Elements.{All-take, All-contains, All-from_get_or, All-from_recursion, Contains-get_or, recursion_from_All}
use Rattle.rate_table.specs.declared.entry.Entry.{Entry}
use Rattle.rate_table.specs.declared.entry.Pair.{Pair}
use Rattle.rate_table.specs.Table.{Table, IsTable, IsSliceTable, IsEntry, IsChoice, IsBest, size_of, error_of, indices, least_bytes}
use Rattle.rate_table.specs.Records.{IsGoodFit, record_of}
use Rattle.rate_table.proofs.Entries.{least_choice}
use Rattle.rate_layers.specs.Layers.{IsKept, AreKept, pairs_in}
use Rattle.rate_layers.specs.Best.{TellsLayers, PassesByBest}
use Rattle.rate_layers.specs.Laws.{MultiplierExists, MultiplierIsOne}
use Rattle.rate_build.proofs.Whole.{choice_error_small}
use Rattle.rate_cert.specs.Settings as cert
use Rattle.rate_cert.specs.Layers.{most_pairs}
use Rattle.rate_cert.specs.Records.{Record, fits, none}
use Rattle.rate_cert.specs.Files.{IsPair, HasWidths, IsWritten, Progress, goes_on, further, most_records}
use Rattle.rate_cert.specs.Laws.{AreWritten}
use Rattle.run_encode.specs.declared.job.Job.{Job}
use Rattle.run_encode.specs.Groups.{IsFrameOf, IsJob, settings_of, coefficients_in, frame_slices, table_in}
use Rattle.run_encode.specs.Encoding.{Group, record_in}
use Rattle.run_encode.proofs.Grouped.{table-number}
use Rattle.run_encode.proofs.Layouts.{slices-same}
use Rattle.run_encode.proofs.Numbered.{Fulls}

-- ---- the widths of what is printed

-- the indices of a choice are bytes
choice-indices : (slices : List (List Entry)) (c : List Entry) → AllByRecursion IsSliceTable slices → IsChoice slices c → AllByRecursion (λ index. index < 256) (indices c)
choice-indices [] [] ok h = tt
choice-indices [] (e ∷ c) ok h = absurd h
choice-indices (s ∷ ss) [] ok h = absurd h
choice-indices (s ∷ ss) (e ∷ c) ok h = let b : IsEntry e = All-contains IsEntry s e ok.0.limits h.0 in (omega (arith, b.index_to), choice-indices ss c ok.1 h.1)

choice-size : (slices : List (List Entry)) (c : List Entry) → AllByRecursion IsSliceTable slices → IsChoice slices c → size_of c ≤ length slices * 2 ^ 16
choice-size [] [] ok h = omega arith
choice-size [] (e ∷ c) ok h = absurd h
choice-size (s ∷ ss) [] ok h = absurd h
choice-size (s ∷ ss) (e ∷ c) ok h =
    let b : IsEntry e = All-contains IsEntry s e ok.0.limits h.0 in
    omega (arith, b.size, choice-size ss c ok.1 h.1, sum_by-cons (λ (x : Entry). x.size) e c)

module _ (t : Table) (ok : IsTable t) where
  -- the pairs of a Pareto frontier
  layer-pairs : (m u k : ℕ) (layer : List Pair) → IsKept t m u k layer → All IsPair layer
  layer-pairs m u k layer kept = All-from_get_or IsPair layer (record { size = 0; error = 0 }) (λ i lt.
      let p = get_or layer i (record { size = 0; error = 0 }) in
      let held = ((kept.3 p).0 (Contains-get_or layer i (record { size = 0; error = 0 }) lt)).0 in
      let is = ((kept.1.has p).0 held).0 in
      let error = choice_error_small (take k t.slices) is.0.0 (All-take IsSliceTable k t.slices ok.each) (omega (arith, ok.few, length-take k t.slices)) is.0.1 in
      let e : error_of is.0.0 ≡ p.error = ap (λ (x : Pair). x.error) is.0.2 in
      let fit = is.1 in
      (omega (arith, fit, ok.budget_limit), omega (arith, error, e)))

  all-pairs : (m u : ℕ) (layers : List (List Pair)) → AreKept t m u layers → All (λ layer. All IsPair layer) layers
  all-pairs m u layers kept = All-from_get_or (λ layer. All IsPair layer) layers [] (λ i lt.
      layer-pairs m u i (get_or layers i []) (kept.1 i (omega (arith, lt, kept.0))))

  -- if no choice fits
  pub none-written : (format : ℕ) → IsWritten format (record { table = t; said = none (least_bytes t) })
  none-written format =
      let c = least_choice t.slices ok.each in
      let size = choice-size t.slices c.0 (recursion_from_All IsSliceTable t.slices ok.each) c.1 in
      record { table = ok; said = tt; widths = omega (arith, size, c.2, ok.few, ok.fixed_limit) }

  module _ (exists : MultiplierExists) (one : MultiplierIsOne) (c : List Entry) (m : ℕ) (layers : List (List Pair)) (best : IsBest t c) (told : TellsLayers t (record_of c m layers)) where
    multiplier-small : m < 2 ^ 64
    multiplier-small =
        let x = exists t c ok best.choice best.fits in
        let e : m ≡ x.0 = one t m x.0 told.multiplier x.1 in
        omega (arith, e, x.2)

    wide : HasWidths (record_of c m layers)
    wide = record {
      indices = All-from_recursion (λ index. index < 256) (indices c) (choice-indices t.slices c (recursion_from_All IsSliceTable t.slices ok.each) best.choice);
      size = let h = best.fits in omega (arith, h, ok.budget_limit);
      error = let h = choice_error_small t.slices c ok.each ok.few best.choice in omega (arith, h);
      multiplier = multiplier-small;
      pairs = all-pairs m (error_of c) layers told.kept;
    }

    few-pairs : (PassesByBest t → ⊥) → pairs_in layers ≤ most_pairs
    few-pairs narrow = ⊎_elim
        (λ (lt : 2 ^ 25 < pairs_in layers). absurd (narrow (record {
          multiplier = m;
          is_multiplier = told.multiplier;
          best = c;
          is_best = best;
          layers = layers;
          kept = told.kept;
          passes = lt;
        })))
        (λ le. le) (cases_lt (2 ^ 25) (pairs_in layers))

    pub fit-written : (format : ℕ) → IsGoodFit t (record_of c m layers) → (PassesByBest t → ⊥) → IsWritten format (record { table = t; said = fits (record_of c m layers) })
    fit-written format good narrow = record {
      table = ok;
      said = record { choice = good.counts.0; layers = good.counts.1; few = few-pairs narrow; order = λ _. good.order };
      widths = wide;
    }

-- ---- records in sequence

below-or-equal : (a b : ℕ) → a ≤ b → nat_le a b ≡ true
below-or-equal a b h = grind (arith, nat_tests)

module _ (j : Job) (is : IsJob j) where
  abbrev pub GroupIsWritten : Group → Type 0
  GroupIsWritten g = IsWritten j.format (record_in j g) × AllByRecursion (IsFrameOf j) (map (coefficients_in j) g.pictures)

  -- after a whole group a further record may follow
  goes-on : (g : Group) → AllByRecursion (IsFrameOf j) (map (coefficients_in j) g.pictures) → length g.pictures ≡ j.group → IsTrue (goes_on (settings_of j) (record_in j g))
  goes-on g of whole =
      let cs = map (coefficients_in j) g.pictures in
      let n : length cs ≡ j.group = length-map g.pictures (coefficients_in j) ∙ whole in
      let slices : j.group * frame_slices j ≡ length (table_in j g.pictures).slices = sym (table-number j cs of ∙ ap (λ k. k * frame_slices j) n) in
      let settings : j.group * cert.frame_slices (settings_of j) ≡ length (table_in j g.pictures).slices = ap (λ k. j.group * k) (slices-same j is) ∙ slices in
      below-or-equal (j.group * cert.frame_slices (settings_of j)) (length (table_in j g.pictures).slices) (omega (arith, settings))

  pub all-written : (gs : List Group) (p : Progress) → IsTrue p.more → p.count + length gs ≤ most_records → Fulls (λ g. g.pictures) j.group gs → AllByRecursion GroupIsWritten gs
      → AreWritten j.format (settings_of j) p (map (record_in j) gs)
  all-written [] p more few full h = tt
  all-written (g ∷ []) p more few full h = ((more, omega (arith, few)), h.0.0, tt)
  all-written (g ∷ g' ∷ gs) p more few full h = (
    (more, omega (arith, few)),
    h.0.0,
    all-written (g' ∷ gs) (further (settings_of j) p (record_in j g)) (goes-on g h.0.1 full.0) (omega (arith, few)) full.1 h.1,
  )

  pub small-written : (gs : List Group) (r : Record) (p : Progress) → IsTrue p.more → p.count + length gs < most_records → AllByRecursion (λ g. length g.pictures ≡ j.group) gs
      → AllByRecursion GroupIsWritten gs → IsWritten j.format r → AreWritten j.format (settings_of j) p (map (record_in j) gs ++ r ∷ [])
  small-written [] r p more few whole h last = ((more, omega (arith, few)), last, tt)
  small-written (g ∷ gs) r p more few whole h last = (
    (more, omega (arith, few)),
    h.0.0,
    small-written gs r (further (settings_of j) p (record_in j g)) (goes-on g h.0.1 whole.0) (omega (arith, few)) whole.1 h.1 last,
  )
