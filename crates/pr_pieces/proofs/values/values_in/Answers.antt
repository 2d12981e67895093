use Rattle.std.proofs.Common.{◌≡◌, suc, ◌+◌, ◌-◌, ◌*◌, ◌<◌, ◌++◌, ◌∷◌, [], pos, length, replicate, set, arith, sym, ap, ◌∙◌, append_assoc, length-append}
use mir.Val.{to_z, of_z}
use mir.Syntax.{w16}
use Rattle.std.proofs.lemmas.List.{length-replicate}
use Rattle.pr_coeff.specs.Component.{places, listed, run_book, level_book}
use Rattle.pr_coeff.specs.Lengths.{run_in, level_in}
use Rattle.pr_pieces.proofs.ShortLemmas.{values_same}
use Rattle.pw_bits.specs.Places.{ahead}
use Rattle.pr_coeff.specs.Reading.{Fault, Triple, signed, values_at, triple_at}
use Rattle.pr_coeff.proofs.CodingLemmas.{kept_value}
use Rattle.pr_coeff.proofs.SetLemmas.{put_at}
use Rattle.pr_coeff.proofs.LengthLemmas.{run_class_small, level_class_small, run_named, level_named}
use Rattle.pr_pieces.proofs.FindLemmas.{finds_whole}
use Rattle.pr_coeff.proofs.ValuesLemmas.{values_front, values_front-nil, values_step, values_end, values_err}
use Rattle.pr_pieces.proofs.WordLemmas.{ones_before, zeros_behind}
use Rattle.pr_pieces.proofs.values.values_in.Goals as goal

pub loop-at-init : goal.loop-at-init
unfolding run_in level_in
loop-at-init c =
    let n = length c.args.blocks.now in
    record {
      front = [];
      turns = 63 * n + 1;
      enough = omega arith;
      count = omega arith;
      blocks = c.requires.blocks;
      listed = λ ds e h. h;
      place = c.requires.inside;
      classes = (omega arith, omega arith);
      reads = values_front-nil (values_at (63 * n + 1) (63 * n) 4 2 (ahead c.args.padded.now c.args.stretch.end c.args.stretch.first));
    }

pub loop-at-preserved : goal.loop-at-preserved
loop-at-preserved c =
    let inv = c.loop-at.invariant in
    let n = length c.args.blocks.now in
    let t = c.in-Ok.step in
    let v = signed t.negative t.level in
    let room = c.loop-at.room in
    let inside = c.in-Ok.ensures.inside in
    let in_room : t.run < room = inside.0 in
    let l = ahead c.args.padded.now c.args.stretch.end c.loop-at.at in
    let now = ahead c.args.padded.now c.args.stretch.end t.next in
    let r : Triple = record { run = t.run; level = t.level; negative = t.negative; rest = now } in
    let more = replicate t.run (pos 0) ++ v ∷ [] in
    let old = listed (places c.args.scan) c.loop-at.blocks in
    let size : length c.loop-at.blocks ≡ n = omega arith in
    let value : to_z w16 (of_z w16 c.signed_level-value.result) ≡ v = kept_value c.signed_level-value.result c.signed_level-value.ensures.small ∙ c.signed_level-value.ensures.value in
    let behind : room - t.run - 1 ≡ room - (t.run + 1) = omega arith in
    record {
      front = inv.front ++ more;
      turns = inv.turns - 1;
      enough = omega (arith, inv.enough, in_room);
      count = omega (arith, inv.count, in_room, length-append inv.front more, length-append (replicate t.run (pos 0)) (v ∷ []), length-replicate t.run (pos 0));
      blocks = c.put_value.ensures.blocks;
      listed = λ ds e h.
          let index = 64 * length c.args.blocks.now - (room - (t.run + 1)) - 1 in
          let at : index ≡ length (ds ++ inv.front) + t.run = omega (arith, e, size, inv.count, in_room, length-append ds inv.front) in
          c.put_value.ensures.listed ∙ ap (set old index) value
          ∙ put_at old (ds ++ inv.front) t.run room index v (inv.listed ds e h ∙ sym (append_assoc ds inv.front (replicate room (pos 0)))) at in_room
          ∙ ap (λ x. x ++ replicate (room - t.run - 1) (pos 0)) (append_assoc ds inv.front more) ∙ append_assoc ds (inv.front ++ more) (replicate (room - t.run - 1) (pos 0))
          ∙ ap (λ m. ds ++ ((inv.front ++ more) ++ replicate m (pos 0))) behind;
      place = c.in-Ok.ensures.place.1;
      classes = (omega (arith, c.in-Ok.ensures.classes.0, run_class_small t.run), omega (arith, c.in-Ok.ensures.classes.1, level_class_small (t.level + 1)));
      reads =
          let on = ones_before c.args.padded.now c.args.stretch.end c.args.stretch.last c.loop-at.at c.requires.last c.loop-at-test.true in
          inv.reads ∙ values_step inv.front inv.turns room (run_in c.loop-at.run_class) (level_in c.loop-at.level_class) l r inv.enough on c.in-Ok.ensures.value
          ∙ ap (λ m. values_front (inv.front ++ more) (values_at (inv.turns - 1) m t.run (suc t.level) now)) behind
          ∙ ap (values_front (inv.front ++ more)) (values_same (inv.turns - 1) (room - (t.run + 1)) t.run (run_in t.run_class) (suc t.level) (level_in t.level_class) now
          (ap (λ n. run_book (run_in n)) c.in-Ok.ensures.classes.0 ∙ run_named t.run)
          (ap (λ n. level_book (level_in n)) c.in-Ok.ensures.classes.1 ∙ level_named (t.level + 1) ∙ ap level_book (let e : t.level + 1 ≡ suc t.level = omega arith in e)));
    }

pub returns-in-Err-clause-fault : goal.returns-in-Err-clause-fault
returns-in-Err-clause-fault c =
    let inv = c.loop-at.invariant in
    let n = length c.args.blocks.now in
    let size : length c.loop-at.blocks ≡ n = omega arith in
    let l = ahead c.args.padded.now c.args.stretch.end c.loop-at.at in
    let first = ahead c.args.padded.now c.args.stretch.end c.args.stretch.first in
    let on = ones_before c.args.padded.now c.args.stretch.end c.args.stretch.last c.loop-at.at c.requires.last c.loop-at-test.true in
    finds_whole c.in-Err.fault (triple_at c.loop-at.room (run_in c.loop-at.run_class) (level_in c.loop-at.level_class) l) (values_at (63 * length c.loop-at.blocks + 1) (63 * length c.loop-at.blocks) 4 2 first)
    (λ (x : Fault) e. ap (λ m. values_at (63 * m + 1) (63 * m) 4 2 first) size ∙ inv.reads ∙ values_err inv.front inv.turns c.loop-at.room (run_in c.loop-at.run_class) (level_in c.loop-at.level_class) l x inv.enough on e)
    c.in-Err.ensures.fault

pub returns-clause-value : goal.returns-clause-value
returns-clause-value c = λ ds e h.
    let inv = c.loop-at.invariant in
    let n = length c.args.blocks.now in
    let size : length c.loop-at.blocks ≡ n = omega arith in
    let l = ahead c.args.padded.now c.args.stretch.end c.loop-at.at in
    let ended = zeros_behind c.args.padded.now c.args.stretch.end c.args.stretch.last c.loop-at.at c.requires.last c.loop-at-test.false inv.place in (
      inv.front ++ replicate c.loop-at.room (pos 0),
      inv.listed ds (e ∙ size) (h ∙ ap (λ m. ds ++ replicate (63 * m) (pos 0)) size),
      ap (λ m. values_at (63 * m + 1) (63 * m) 4 2 (ahead c.args.padded.now c.args.stretch.end c.args.stretch.first)) size ∙ inv.reads
          ∙ values_end inv.front inv.turns c.loop-at.room (run_in c.loop-at.run_class) (level_in c.loop-at.level_class) l inv.enough ended,
    )
