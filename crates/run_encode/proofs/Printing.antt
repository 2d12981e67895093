-- What is written of a printed choice is what is written of the best choice.
use Rattle.std.proofs.Common.{◌≡◌, ℕ, ◌+◌, ◌++◌, List, length, map, ap, subst, ◌∙◌}
use Rattle.std.specs.List.{flat_map}
use Rattle.pw_outside.specs.Writing.{SinkState, Puts, PutsFront}
use Rattle.pr_frame.specs.Written.{coded_bytes}
use Rattle.qt_movie.specs.MovieBytes.{frame_bytes}
use Rattle.rate_table.specs.declared.entry.Entry.{Entry}
use Rattle.rate_table.specs.declared.entry.Pair.{Pair}
use Rattle.rate_table.specs.Table.{Table, IsBest, least_bytes}
use Rattle.rate_table.specs.Records.{Printed, record_of}
use Rattle.rate_layers.specs.Best.{TellsBest, TellsLayers, PassesByBest}
use Rattle.rate_build.specs.Coefficients.{FrameCoefficients}
use Rattle.run_encode.specs.declared.job.Job.{Job}
use Rattle.rate_build.specs.Groups.{shares}
use Rattle.rate_cert.specs.Records.{Record, fits, none}
use Rattle.rate_cert.specs.Files.{record_bytes}
use Rattle.run_encode.specs.Groups.{frame_slices, table_of_group, coded_group}
use Rattle.run_encode.specs.Outputs.{Outputs, PutsAll, PutsFronts}
use Rattle.run_encode.specs.Encoding.{part_lines}
use Rattle.run_encode.specs.inner.Steps.{Counts}
use Rattle.run_encode.specs.inner.Over.{IsChosen, WroteFrames, frames_lists, fit_lists, none_of_frames}

module _ (a b : SinkState) (j : Job) (cs : List FrameCoefficients) (choice choice' : List ℕ) (e : choice ≡ choice') where
  pub movie-all : Puts a b (flat_map frame_bytes (map coded_bytes (coded_group j cs choice))) → Puts a b (flat_map frame_bytes (map coded_bytes (coded_group j cs choice')))
  movie-all p = subst (λ c. Puts a b (flat_map frame_bytes (map coded_bytes (coded_group j cs c)))) e p

  pub movie-front : PutsFront a b (flat_map frame_bytes (map coded_bytes (coded_group j cs choice))) → PutsFront a b (flat_map frame_bytes (map coded_bytes (coded_group j cs choice')))
  movie-front p = subst (λ c. PutsFront a b (flat_map frame_bytes (map coded_bytes (coded_group j cs c)))) e p

module _ (a b : SinkState) (format format' : ℕ) (same : format ≡ format') (t t' : Table) (r : Printed) (e : t ≡ t') (printed : Record) (is : printed ≡ record { table = t; said = fits r }) where
  bytes-same : record_bytes format printed ≡ record_bytes format' (record { table = t'; said = fits r })
  bytes-same = ap (record_bytes format) (is ∙ ap (λ x. record { table = x; said = fits r }) e) ∙ ap (λ f. record_bytes f (record { table = t'; said = fits r })) same

  pub proof-all : Puts a b (record_bytes format printed) → Puts a b (record_bytes format' (record { table = t'; said = fits r }))
  proof-all p = subst (Puts a b) bytes-same p

  pub proof-front : PutsFront a b (record_bytes format printed) → PutsFront a b (record_bytes format' (record { table = t'; said = fits r }))
  proof-front p = subst (PutsFront a b) bytes-same p

-- a prefix of the record that says that no choice fits
pub none-front : (a b : SinkState) (j : Job) (cs : List FrameCoefficients) (format least : ℕ) (t : Table) → t ≡ table_of_group j cs → format ≡ j.format → least ≡ least_bytes t
    → PutsFront a b (record_bytes format (record { table = t; said = none least })) → PutsFront a b (none_of_frames j cs).proof
none-front a b j cs format least t table same e p =
    subst (PutsFront a b) (λ i. record_bytes (same i) (record { table = table i; said = none ((e ∙ ap least_bytes table) i) })) p

module _ (j : Job) (number : ℕ) (cs : List FrameCoefficients) (t : Table) (r : Printed) (lines : List ℕ) (before after : Outputs) (table : t ≡ table_of_group j cs)
    (best : TellsBest t r) (layers : TellsLayers t r) (lines-are : lines ≡ part_lines j number (map (λ p. p.1) (shares (frame_slices j) cs best.best))) where
  printed-is : r ≡ record_of best.best r.multiplier r.layers
  printed-is = λ i. record { choice = best.choice i; size = best.size i; error = best.error i; multiplier = r.multiplier; layers = r.layers }

  lists-are : fit_lists j cs r lines ≡ frames_lists j number cs best.best r.multiplier r.layers
  lists-are = λ i. fit_lists j cs (printed-is i) (lines-are i)

  chosen : IsChosen j cs best.best r.multiplier r.layers
  chosen = record {
    best = subst (λ x. IsBest x best.best) table best.is_best;
    layers_are = subst (λ x. TellsLayers x (record_of best.best r.multiplier r.layers)) table (subst (TellsLayers t) printed-is layers);
  }

  -- prefixes were written
  pub failed-fit : PutsFronts before after (fit_lists j cs r lines)
      → (choice : List Entry) × (m : ℕ) × (ls : List (List Pair)) × IsChosen j cs choice m ls × PutsFronts before after (frames_lists j number cs choice m ls)
  failed-fit p = (best.best, r.multiplier, r.layers, chosen, subst (PutsFronts before after) lists-are p)

  -- all was written
  pub wrote-fit : (old new : Counts) → (PassesByBest t → ⊥) → PutsAll before after (fit_lists j cs r lines) → new.sizes ≡ old.sizes ++ map length (map coded_bytes (coded_group j cs r.choice))
      → new.records ≡ old.records + 1 → WroteFrames j number cs old new before after
  wrote-fit old new narrow p sizes records = record {
    choice = best.best;
    multiplier = r.multiplier;
    layers = r.layers;
    chosen = chosen;
    narrow = subst (λ x. PassesByBest x → ⊥) table narrow;
    puts = subst (PutsAll before after) lists-are p;
    sizes = sizes ∙ ap (λ c. old.sizes ++ map length (map coded_bytes (coded_group j cs c))) best.choice;
    records = records;
  }
