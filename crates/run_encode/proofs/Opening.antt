-- A proof stays open after whole groups; what is printed in it.
use Rattle.std.proofs.Common.{◌≡◌, ℕ, ◌*◌, ◌<◌, ◌≤◌, List, arith, length, ap, sym, subst, ◌∙◌, ⊎_elim}
use Rattle.std.specs.Prelude.{IsTrue, nat_le}
use Rattle.std.specs.List.{All, sum_by}
use Rattle.std.proofs.lemmas.Bool.{le-leb, cases_lt}
use Rattle.std.proofs.lemmas.List.Elements.{recursion_from_All}
use Rattle.rate_table.specs.Table.{Table}
use Rattle.rate_table.specs.Records.{Printed, IsGoodFit}
use Rattle.rate_build.specs.Coefficients.{FrameCoefficients}
use Rattle.rate_cert.specs.declared.settings.Settings.{Settings}
use Rattle.rate_cert.specs.Settings as cert
use Rattle.rate_cert.specs.Records.{fits}
use Rattle.rate_cert.specs.Files.{Writing, further, IsPrintable}
use Rattle.rate_layers.specs.Layers.{AreKept}
use Rattle.rate_layers.specs.Best.{TellsBest, TellsLayers, PassesByBest}
use Rattle.run_encode.specs.declared.job.Job.{Job}
use Rattle.run_encode.specs.Groups.{IsJob, IsFrameOf, frame_slices, settings_of, table_of_group}
use Rattle.run_encode.specs.inner.Steps.{IsOpen}
use Rattle.run_encode.proofs.Grouped.{table-number}
use Rattle.run_encode.proofs.Layouts.{slices-same}

-- after the record of a whole group a further one may follow
pub still-open : (j : Job) (cs : List FrameCoefficients) (t : Table) (r : Printed) (w w' : Writing) → IsJob j → All (IsFrameOf j) cs → t ≡ table_of_group j cs → IsOpen j w
    → w' ≡ record { settings = w.settings; format = w.format; progress = further w.settings w.progress (record { table = t; said = fits r }) } → length cs ≡ j.group → IsOpen j w'
still-open j cs t r w w' job is table old new whole =
    let n : length t.slices ≡ length cs * frame_slices j = ap (λ (x : Table). length x.slices) table ∙ table-number j cs (recursion_from_All (IsFrameOf j) cs is) in
    let m : j.group * cert.frame_slices (settings_of j) ≡ length cs * frame_slices j = ap (λ k. k * cert.frame_slices (settings_of j)) (sym whole) ∙ ap (λ k. length cs * k) (slices-same j job) in
    let enough : j.group * cert.frame_slices (settings_of j) ≤ length t.slices = omega (arith, n, m) in
    subst (IsOpen j) (sym new) (record {
      settings = old.settings;
      format = old.format;
      more = subst (λ (s : Settings). IsTrue (nat_le (s.group * cert.frame_slices s) (length t.slices))) (sym old.settings) (le-leb _ _ enough);
    })

-- a fitting choice of the search can be printed, if its Pareto frontiers don't have too many pairs
pub printable : (format : ℕ) (t : Table) (r : Printed) → TellsBest t r → TellsLayers t r → IsGoodFit t r → (PassesByBest t → ⊥) → IsPrintable format t r
printable format t r best layers good narrow = record {
  choice = good.counts.0;
  layers = good.counts.1;
  few = few;
  order = λ _. good.order;
}
  where
    passing : 33554432 < sum_by length r.layers → PassesByBest t
    passing lt = record {
      multiplier = r.multiplier;
      is_multiplier = layers.multiplier;
      best = best.best;
      is_best = best.is_best;
      layers = r.layers;
      kept = subst (λ e. AreKept t r.multiplier e r.layers) best.error layers.kept;
      passes = lt;
    }

    few : sum_by length r.layers ≤ 33554432
    few = ⊎_elim (λ lt. absurd (narrow (passing lt))) (λ le. le) (cases_lt 33554432 (sum_by length r.layers))
