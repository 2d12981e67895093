use Rattle.std.proofs.Common.{rules, arith, ◌<◌, ◌+◌, length, drop, get_or, ap, ◌∙◌}
use Rattle.std.specs.List.{sum_by}
use Rattle.std.proofs.lemmas.List.Sums.{sum_by-cons}
use Rattle.pcm_track.specs.declared.parts.Part.{Part}
use Rattle.pcm_track.specs.declared.parts.Part.TheVariants as parts
use Rattle.pcm_track.specs.Adding.{part_frames}
use Rattle.pcm_track.proofs.Pieces.{any_err}
use Rattle.pcm_track.proofs.Shares.{drop-at}
use Rattle.pcm_track.proofs.DataAtoms.{ends-on, written-on, written-front}
use Rattle.pcm_track.proofs.adding.write_parts.Goals as goal

pub returns-in_err-write_part-clause-err : goal.returns-in_err-write_part-clause-err
returns-in_err-write_part-clause-err g c =
    let xs = c.args.parts.now in
    let lt : c.loop-k.k < length xs = search rules in
    let err = rw (c.loop-k.invariant.form, c.loop-k.invariant.bytes) at c.in_err-write_part.ensures.err in
    any_err c.from_residual.result (written-front (g.M.ByteStore.bytes c.args.movie.now) (g.S.ByteSource.left c.args.wav.now) (g.S.ByteSource.left c.loop-k.wav) c.args.reader.now.form.channels _ (drop (c.loop-k.k + 1) xs) (drop c.loop-k.k xs) xs _ _ _
    c.loop-k.invariant.told (drop-at xs c.loop-k.k _ lt) c.loop-k.invariant.put err)

pub loop-k-preserved : goal.loop-k-preserved
loop-k-preserved g c =
    let xs = c.args.parts.now in
    let lt : c.loop-k.k < length xs = search rules in
    let passes = rw (c.loop-k.invariant.form, c.loop-k.invariant.bytes) at c.in_ok-write_part.ensures.passes in
    let ok = rw (c.loop-k.invariant.form, c.loop-k.invariant.bytes) at c.in_ok-write_part.ensures.ok in
    let d : Part = parts.Picture (record { at = 0; size = 0; duration = 0; description = 0 }) in
    let ahead = drop-at xs c.loop-k.k d lt in
    let fewer = ap (sum_by part_frames) ahead ∙ sum_by-cons part_frames (get_or xs c.loop-k.k d) (drop (c.loop-k.k + 1) xs) in
    record {
      told = λ i. c.in_ok-write_part.ensures.told (c.loop-k.invariant.told i);
      ends = λ h i. ends-on _ c.args.reader.now.form.channels (get_or xs c.loop-k.k d) (drop (c.loop-k.k + 1) xs) (drop c.loop-k.k xs) _ _ ahead (passes h (c.loop-k.invariant.told i)) ∙ c.loop-k.invariant.ends h i;
      put = written-on (g.M.ByteStore.bytes c.args.movie.now) (g.S.ByteSource.left c.args.wav.now) (g.S.ByteSource.left c.loop-k.wav) (g.S.ByteSource.left c.write_part.new.wav) c.args.reader.now.form.channels
          c.loop-k.reader.place c.write_part.new.reader.place (get_or xs c.loop-k.k d) (drop (c.loop-k.k + 1) xs) (drop c.loop-k.k xs) xs _ _ _ c.loop-k.invariant.told ahead passes c.loop-k.invariant.put ok;
      form = search rules;
      left = omega (arith, fewer, c.in_ok-write_part.ensures.left, c.loop-k.invariant.left);
      within = omega (arith, c.in_ok-write_part.ensures.left, c.loop-k.invariant.within);
      length = c.in_ok-write_part.ensures.length ∙ c.loop-k.invariant.length;
      bytes = search rules;
      read = search rules;
      heard = search rules;
      write = search rules;
    }
