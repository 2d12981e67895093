-- The number of samples.
use Rattle.std.proofs.Common.{◌≡◌, ℕ, suc, ◌+◌, ◌-◌, ◌<◌, ◌≤◌, List, [], ◌∷◌, ◌++◌, Some, Result, Ok, Err, OnErr, arith, length, take, drop, ap, sym, subst, append_assoc, append-nil, take-append-drop, ◌∙◌}
use Rattle.std.specs.Prelude.{slice_get, get_or, unwrap_or}
use Rattle.std.proofs.lemmas.Option.{slice_get_within, slice_get-get_or}
use Rattle.std.proofs.Math.Seq.{take-suc}
use Rattle.std.proofs.lemmas.List.{length-append, length-take, length-take-le, length-drop, get_or-drop, take_all}
use lib.Seq.{take-add}
use Rattle.pw_outside.specs.Writing.{SinkState, Puts, PutsFront}
use Rattle.pw_outside.proofs.Puts.{puts_then, puts_front, front_more, then_front}
use Rattle.qt_tables.specs.declared.runs.Sample.{Sample}
use Rattle.qt_tables.specs.Samples.{Chunk, samples_at, samples_in}
use Rattle.run_look.specs.Listing.{sample_line, sample_lines}

-- no more samples than sizes
at-most : (description at : ℕ) (sizes durations : List ℕ) → length (samples_at description at sizes durations) ≤ length sizes
at-most description at [] durations = omega arith
at-most description at (size ∷ sizes) [] = omega arith
at-most description at (size ∷ sizes) (duration ∷ durations) = let h = at-most description (at + size) sizes durations in omega (arith, h)

pub few_samples : (cs : List Chunk) (sizes durations : List ℕ) → length (samples_in cs sizes durations) ≤ length sizes
few_samples [] sizes durations = omega arith
few_samples (c ∷ cs) sizes durations =
    let here = samples_at c.description c.at (take c.samples sizes) durations in
    let there = samples_in cs (drop c.samples sizes) (drop c.samples durations) in
    omega (
      arith,
      length-append here there,
      at-most c.description c.at (take c.samples sizes) durations,
      few_samples cs (drop c.samples sizes) (drop c.samples durations),
      length-take c.samples sizes,
      length-drop c.samples sizes,
    )
