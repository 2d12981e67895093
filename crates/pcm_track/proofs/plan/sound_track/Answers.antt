use Rattle.std.proofs.Common.{arith, ◌≤◌, ℕ, length, ap, ◌∙◌}
use Rattle.qt_tables.specs.declared.tables.TheConstants.{MAX_SAMPLES}
use Rattle.qt_tables.specs.Samples.{samples}
use Rattle.qt_tables.proofs.Again.{samples_counted}
use Rattle.pcm_track.specs.Adding.{first_place, chunk_frames}
use Rattle.pcm_track.proofs.Runs.{runs-few, runs-counted, counted, chunk-runs-many, where-few}
use Rattle.pcm_track.proofs.Shares.{parts-of-few, chunks-of-few, sounds-many}
use Rattle.pcm_track.proofs.plan.sound_track.Goals as goal

pub runs_of-requires : goal.runs_of-requires
runs_of-requires c =
    let t = c.args.movie.now.tables in
    let few : length (samples t) ≤ MAX_SAMPLES = omega (arith, samples_counted t c.requires.tables, c.requires.tables.few_samples) in
    omega (arith, ap length c.deref.ensures.value, ap length c.in_ok-frames.ensures, ap (λ l. length (chunk_frames l)) c.requires.parts, chunks-of-few t.timescale c.args.pcm (samples t) few)

pub chunk_runs-requires : goal.chunk_runs-requires
chunk_runs-requires c =
    let t = c.args.movie.now.tables in
    let few : length (samples t) ≤ MAX_SAMPLES = omega (arith, samples_counted t c.requires.tables, c.requires.tables.few_samples) in
    let same = ap counted (c.deref-2.ensures.value ∙ c.in_ok-runs.ensures) in
    omega (arith, same, runs-counted c.deref.result.now, ap length c.deref.ensures.value, ap length c.in_ok-frames.ensures, ap (λ l. length (chunk_frames l)) c.requires.parts, chunks-of-few t.timescale c.args.pcm (samples t) few)

pub sound_places-requires-clause-few : goal.sound_places-requires-clause-few
sound_places-requires-clause-few c =
    let t = c.args.movie.now.tables in
    let few : length (samples t) ≤ MAX_SAMPLES = omega (arith, samples_counted t c.requires.tables, c.requires.tables.few_samples) in
    omega (arith, ap length c.requires.parts, parts-of-few t.timescale c.args.pcm (samples t) few)

pub returns-clause-fits : goal.returns-clause-fits
returns-clause-fits c =
    let t = c.args.movie.now.tables in
    let few : length (samples t) ≤ MAX_SAMPLES = omega (arith, samples_counted t c.requires.tables, c.requires.tables.few_samples) in
    let chunks = chunks-of-few t.timescale c.args.pcm (samples t) few in
    let parts = ap (λ l. length (chunk_frames l)) c.requires.parts in
    record {
      few_times = omega (arith, ap length c.in_ok-where_some.ensures, where-few {A = ℕ × ℕ} c.args.pcm.frames (c.args.pcm.frames, 1));
      few_runs = omega (arith, ap length c.in_ok-chunk_runs.ensures, chunk-runs-many 1 c.deref-2.result.now, ap length c.deref-2.ensures.value, ap length c.in_ok-runs.ensures, runs-few c.deref.result.now, ap length c.deref.ensures.value, ap length c.in_ok-frames.ensures, parts, chunks);
      few_sizes = omega (arith, ap length c.new.ensures.items);
      few_chunks = omega (arith, ap length c.in_ok-sound_places.ensures, sounds-many c.args.pcm.channels first_place c.args.parts.now, parts, chunks);
      sized = grind arith;
    }
