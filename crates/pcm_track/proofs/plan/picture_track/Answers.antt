use Rattle.std.proofs.Common.{arith, ◌≤◌, ℕ, length, ap}
use Rattle.std.proofs.lemmas.List.{length-map}
use Rattle.qt_tables.specs.declared.tables.TheConstants.{MAX_SAMPLES}
use Rattle.qt_tables.specs.Samples.{samples}
use Rattle.qt_tables.specs.declared.runs.Sample.{Sample}
use Rattle.pcm_track.specs.Adding.{first_place, picture_places}
use Rattle.pcm_track.proofs.Runs.{runs-few, where-few}
use Rattle.pcm_track.proofs.Shares.{parts-of-few, pictures-of}
use Rattle.pcm_track.proofs.plan.picture_track.Goals as goal

pub picture_places-requires-clause-few : goal.picture_places-requires-clause-few
picture_places-requires-clause-few c =
    let t = c.args.movie.now.tables in
    let few : length (samples t) ≤ MAX_SAMPLES = omega (arith, ap length c.requires.samples, c.requires.few) in
    omega (arith, ap length c.requires.parts, parts-of-few t.timescale c.args.pcm (samples t) few)

pub returns-clause-fits : goal.returns-clause-fits
returns-clause-fits c =
    let t = c.args.movie.now.tables in
    let lasting = length-map c.args.samples.now (λ (s : Sample). s.duration) in
    let sized = length-map c.args.samples.now (λ (s : Sample). s.size) in
    record {
      few_times = omega (arith, ap length c.in_ok-runs_of.ensures, runs-few c.deref.result.now, ap length c.deref.ensures.value, ap length c.in_ok-durations.ensures, lasting, c.requires.few);
      few_runs = omega (arith, ap length c.in_ok-where_some.ensures, where-few {A = ℕ × ℕ × ℕ} (length c.args.samples.now) (1, 1, 1));
      few_sizes = omega (arith, ap length c.in_ok-sizes_of.ensures, sized, c.requires.few);
      few_chunks = omega (
        arith,
        ap length c.in_ok-picture_places.ensures,
        ap (λ l. length (picture_places c.args.pcm.channels first_place l)) c.requires.parts,
        pictures-of t.timescale c.args.pcm (samples t) c.args.pcm.channels first_place,
        ap length c.requires.samples,
        c.requires.few,
      );
      sized = omega (arith, ap length c.in_ok-sizes_of.ensures, sized);
    }
