use Rattle.std.proofs.Common.{rules, arith, ◌+◌, ◌≤◌, length, drop}
use Rattle.std.proofs.lemmas.List.{length-append, length-drop, length-take}
use Rattle.pcm_track.proofs.Pieces.{behind-stored, within-stored, copied_then, copied_then_front, front_of_more, any_err, front_resized, copied_resized}
use Rattle.pcm_track.proofs.copying.copy_stored.Goals as goal

pub returns-in_err-copy_some-clause-err : goal.returns-in_err-copy_some-clause-err
returns-in_err-copy_some-clause-err g c =
    let n = c.min-count.result in
    let le : c.loop-done.done + n ≤ c.args.size = search rules in
    let fits : n ≤ length c.loop-done.piece = search rules in
    let told = g.M.ByteStore.bytes c.args.store.now in
    let err = rw c.loop-done.invariant.bytes at c.in_err-copy_some.ensures.err in
    any_err c.from_residual.result (front_of_more c.args.size le
    (copied_then_front (behind-stored told c.args.place c.loop-done.done (within-stored told c.args.place c.args.size c.loop-done.done c.requires.inside c.loop-done.invariant.within)) c.loop-done.invariant.copied
    (front_resized {n = n} err (omega (arith, fits, length-take n c.loop-done.piece)))))

pub loop-done-preserved : goal.loop-done-preserved
loop-done-preserved g c =
    let n = c.min-count.result in
    let le : c.loop-done.done + n ≤ c.args.size = search rules in
    let fits : n ≤ length c.loop-done.piece = search rules in
    let told = g.M.ByteStore.bytes c.args.store.now in
    let ok = rw c.loop-done.invariant.bytes at c.in_ok-copy_some.ensures.ok in
    record {
      within = le;
      copied = copied_then (behind-stored told c.args.place c.loop-done.done (within-stored told c.args.place c.args.size c.loop-done.done c.requires.inside c.loop-done.invariant.within)) c.loop-done.invariant.copied
          (copied_resized {n = n} ok (omega (arith, fits, length-take n c.loop-done.piece)));
      length = omega (arith, fits, length-append c.copy_some.new.piece (drop n c.loop-done.piece), length-drop n c.loop-done.piece, length-take n c.loop-done.piece, c.in_ok-copy_some.ensures.length, c.loop-done.invariant.length);
      bytes = search rules;
      settled = search rules;
      read = search rules;
      write = search rules;
    }
