-- Facts of one group: its size, what its frames stand for, that no choice has less error, and that its record is
-- good.
use Rattle.std.proofs.Common.{◌≡◌, refl, ℕ, zero, suc, ◌+◌, ◌-◌, ◌*◌, ◌<◌, ◌≤◌, ◌^◌, List, [], ◌∷◌, ◌++◌, arith, length, map, ap, sym, subst, ◌∙◌}
use Rattle.std.specs.List.{flat_map, range_with_len, All, AllByRecursion, sum_by}
use Rattle.std.proofs.lemmas.List.{length-map}
use Rattle.std.proofs.lemmas.Nat.{mul-le}
use Rattle.std.proofs.lemmas.List.Elements.{All-from_recursion}
use Rattle.pw_planes.specs.declared.picture.Picture.{Picture}
use Rattle.pr_frame.specs.Laws.{WrittenStands, WrittenHasLength}
use Rattle.rate_table.specs.declared.entry.Entry.{Entry}
use Rattle.rate_table.specs.Table.{IsTable, IsChoice, size_of}
use Rattle.rate_table.specs.Records.{IsGoodFit}
use Rattle.rate_table.specs.Laws.{GoodIsLeast}
use Rattle.rate_layers.specs.Laws.{KeptIsGood}
use Rattle.rate_build.specs.Coefficients.{FrameCoefficients}
use Rattle.rate_build.specs.Tables.{entry_of, entries_of, fixed_bytes}
use Rattle.rate_build.specs.declared.slices.SliceCoefficients.{SliceCoefficients}
use Rattle.rate_build.specs.Laws.{FrameHasTableSize}
use Rattle.rate_cert.specs.Records.{HasIndices, IsTableOf}
use Rattle.run_encode.specs.declared.job.Job.{Job}
use Rattle.run_encode.specs.Groups.{IsFrameOf, IsJob, settings_of, coefficients_in, frame_slices, slice_tables, table_in}
use Rattle.run_encode.specs.Encoding.{Group, IsCoded, printed_of, frames_of}
use Rattle.run_encode.specs.Headline.{GroupHolds}
use Rattle.run_encode.proofs.Framed.{FrameIsReady, all-sizes, all-stand}
use Rattle.run_encode.proofs.Grouped.{table-slices, table-budget, table-fixed, table-number}
use Rattle.run_encode.proofs.Layouts.{slices-same}

-- ---- the entries of a table

entries-rise : (f : ℕ → Entry) (lo hi n : ℕ) → ((i : ℕ) → (f i).index ≡ i) → lo + n ≡ hi + 1 → HasIndices lo hi (map f (range_with_len lo n))
entries-rise f lo hi zero h e = omega arith
entries-rise f lo hi (suc n) h e = (h lo, entries-rise f (lo + 1) hi n h (omega arith))

slice-indices : (j : Job) → IsJob j → (c : FrameCoefficients) (s : SliceCoefficients) → HasIndices j.lo j.hi (entries_of c.layout.interlace c.alpha j.weights j.lo j.hi s)
unfolding entries_of
slice-indices j is c s =
    let le : j.lo ≤ j.hi = is.order in
    let n : j.lo + (j.hi + 1 - j.lo) ≡ j.hi + 1 = omega arith in
    entries-rise (entry_of c.layout.interlace c.alpha j.weights s) j.lo j.hi (j.hi + 1 - j.lo) (λ i. refl) n

some-indices : (j : Job) → IsJob j → (c : FrameCoefficients) (ss : List SliceCoefficients) (rest : List (List Entry)) → AllByRecursion (HasIndices j.lo j.hi) rest
    → AllByRecursion (HasIndices j.lo j.hi) (map (entries_of c.layout.interlace c.alpha j.weights j.lo j.hi) ss ++ rest)
some-indices j is c [] rest h = h
some-indices j is c (s ∷ ss) rest h = (slice-indices j is c s, some-indices j is c ss rest h)

all-indices : (j : Job) → IsJob j → (cs : List FrameCoefficients) → AllByRecursion (HasIndices j.lo j.hi) (flat_map (slice_tables j) cs)
all-indices j is [] = tt
all-indices j is (c ∷ cs) = some-indices j is c c.slices (flat_map (slice_tables j) cs) (all-indices j is cs)

-- a group's table fits the settings
pub table-of : (j : Job) (is : IsJob j) (ps : List Picture) → 1 ≤ length ps → length ps ≤ j.group → AllByRecursion (IsFrameOf j) (map (coefficients_in j) ps)
    → IsTableOf (settings_of j) (table_in j ps)
table-of j is ps some few of =
    let cs = map (coefficients_in j) ps in
    let number = length-map ps (coefficients_in j) in
    record {
      frames = length ps;
      some = some;
      few = few;
      slices = table-number j cs of ∙ ap (λ n. n * frame_slices j) number ∙ ap (λ n. length ps * n) (sym (slices-same j is));
      budget = table-budget j cs ∙ ap (λ n. n * j.budget) number;
      indices = subst (All (HasIndices j.lo j.hi)) (sym (table-slices j cs)) (All-from_recursion (HasIndices j.lo j.hi) (flat_map (slice_tables j) cs) (all-indices j is cs));
    }

-- ---- one group

module _ (j : Job) (is : IsJob j) (g : Group) (coded : IsCoded j g) (some : 1 ≤ length g.pictures) (few : length g.pictures ≤ j.group) (table : IsTable (table_in j g.pictures))
    (frame-size : FrameHasTableSize) (frame-length : WrittenHasLength) (frame-stands : WrittenStands) (kept-good : KeptIsGood) (good-least : GoodIsLeast)
    (of : AllByRecursion (IsFrameOf j) (map (coefficients_in j) g.pictures)) (ready : AllByRecursion (FrameIsReady j) (map (coefficients_in j) g.pictures)) where
  abbrev cs : List FrameCoefficients
  cs = map (coefficients_in j) g.pictures

  number : length cs ≡ length g.pictures
  number = length-map g.pictures (coefficients_in j)

  chosen : IsChoice (flat_map (slice_tables j) cs) g.choice
  chosen = subst (λ ss. IsChoice ss g.choice) (table-slices j cs) coded.best.choice

  fitting : length cs * fixed_bytes j.layout + size_of g.choice ≤ length cs * j.budget
  fitting = let h = coded.best.fits in omega (arith, h, table-fixed j cs of, table-budget j cs)

  good : IsGoodFit (table_in j g.pictures) (printed_of g)
  good = kept-good (table_in j g.pictures) g.choice g.multiplier g.layers table coded.best coded.layers.kept

  small : length cs * j.budget < 2 ^ 32
  small =
      let le : length cs * j.budget ≤ j.group * j.budget = mul-le (length cs) j.budget j.group j.budget (subst (λ n. n ≤ j.group) (sym number) few) (omega arith) in
      omega (arith, is.budget, le)

  pub holds : GroupHolds j g.pictures (frames_of j g) (printed_of g)
  holds = record {
    size = let e = all-sizes j frame-size frame-length frame-stands cs g.choice of ready chosen in
        subst (λ n. sum_by length (frames_of j g) ≤ n * j.budget) number (omega (arith, e, fitting));
    stands = all-stand j frame-size frame-length frame-stands cs g.choice (length cs * j.budget) small of ready chosen fitting;
    least = good-least (table_in j g.pictures) (printed_of g) good;
    good = record { table = table-of j is g.pictures some few of; verdict = good };
  }
