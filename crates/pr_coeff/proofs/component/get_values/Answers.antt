use Rattle.std.proofs.Common.{◌≡◌, suc, ◌+◌, ◌-◌, ◌*◌, ◌<◌, ◌++◌, ◌∷◌, [], pos, length, replicate, set, arith, refl, sym, ap, ◌∙◌, append_assoc, length-append}
use mir.Val.{to_z, of_z}
use mir.Syntax.{w16}
use Rattle.pw_bits.specs.Reading.{unread}
use Rattle.pw_outside.proofs.Loops.{Lowers-then, Lowers-same}
use Rattle.pw_bits.proofs.ReadingLemmas.{told-bound}
use Rattle.pr_coeff.specs.Component.{places, listed}
use Rattle.pr_coeff.proofs.CodingLemmas.{kept_value}
use Rattle.pr_coeff.proofs.SetLemmas.{put_at}
use Rattle.std.proofs.lemmas.List.{length-replicate}
use Rattle.pr_coeff.specs.Reading.{Triple, signed, values_at}
use Rattle.pr_coeff.proofs.ValuesLemmas.{values_front, values_front-nil, values_step, values_end, values_fault}
use Rattle.pr_coeff.proofs.component.get_values.Goals as goal

pub triples-init : goal.triples-init
triples-init g c =
    let n = length c.args.blocks.now in
    record {
      front = [];
      turns = 63 * n + 1;
      enough = omega arith;
      count = omega arith;
      blocks = c.requires.blocks;
      listed = λ ds e h. h;
      bound = c.requires.bound;
      told = λ told. told;
      reads = λ told. values_front-nil (values_at (63 * n + 1) (63 * n) 4 2 (unread c.args.reader.now (g.S.ByteSource.left c.args.source.now)));
      becomes = λ first h. h;
      most = Lowers-same (g.S.ByteSource.most c.args.source.now);
      kept = refl;
    }

pub returns-in-Ok-None-clause-value : goal.returns-in-Ok-None-clause-value
returns-in-Ok-None-clause-value g c = λ ds e h.
    let inv = c.triples.invariant in
    let n = length c.args.blocks.now in
    let size : length c.triples.blocks ≡ n = omega arith in
    let l = unread c.triples.reader (g.S.ByteSource.left c.triples.source) in (
      inv.front ++ replicate c.triples.room (pos 0),
      inv.listed ds (e ∙ size) (h ∙ ap (λ m. ds ++ replicate (63 * m) (pos 0)) size),
      λ told.
          let ended = (rw c.in-Ok-None.field-0-is at c.in-Ok-None.ensures.value) (inv.told told) in
          ap (λ m. values_at (63 * m + 1) (63 * m) 4 2 (unread c.args.reader.now (g.S.ByteSource.left c.args.source.now))) size ∙ inv.reads told
          ∙ values_end inv.front inv.turns c.triples.room c.triples.run c.triples.magnitude l inv.enough ended,
    )

pub triples-preserved : goal.triples-preserved
triples-preserved g c =
    let inv = c.triples.invariant in
    let n = length c.args.blocks.now in
    let t = c.in-Ok-Some.triple in
    let v = signed t.negative t.level in
    let room = c.triples.room in
    let inside = rw c.in-Ok-Some.field-0-is at c.in-Ok-Some.ensures.inside in
    let in_room : t.run < room = inside.0 in
    let l = unread c.triples.reader (g.S.ByteSource.left c.triples.source) in
    let now = unread c.get_triple.new.reader (g.S.ByteSource.left c.get_triple.new.source) in
    let r : Triple = record { run = t.run; level = t.level; negative = t.negative; rest = now } in
    let more = replicate t.run (pos 0) ++ v ∷ [] in
    let old = listed (places c.args.scan) c.triples.blocks in
    let size : length c.triples.blocks ≡ n = omega arith in
    let value : to_z w16 (of_z w16 c.signed_level-value.result) ≡ v = kept_value c.signed_level-value.result c.signed_level-value.ensures.small ∙ c.signed_level-value.ensures.value in
    let behind : room - t.run - 1 ≡ room - (t.run + 1) = omega arith in
    record {
      front = inv.front ++ more;
      turns = inv.turns - 1;
      enough = omega (arith, inv.enough, in_room);
      count = omega (arith, inv.count, in_room, length-append inv.front more, length-append (replicate t.run (pos 0)) (v ∷ []), length-replicate t.run (pos 0));
      blocks = c.set_value.ensures.blocks;
      listed = λ ds e h.
          let index = 64 * length c.args.blocks.now - (room - (t.run + 1)) - 1 in
          let at : index ≡ length (ds ++ inv.front) + t.run = omega (arith, e, size, inv.count, in_room, length-append ds inv.front) in
          c.set_value.ensures.listed ∙ ap (set old index) value
          ∙ put_at old (ds ++ inv.front) t.run room index v (inv.listed ds e h ∙ sym (append_assoc ds inv.front (replicate room (pos 0)))) at in_room
          ∙ ap (λ x. x ++ replicate (room - t.run - 1) (pos 0)) (append_assoc ds inv.front more) ∙ append_assoc ds (inv.front ++ more) (replicate (room - t.run - 1) (pos 0))
          ∙ ap (λ m. ds ++ ((inv.front ++ more) ++ replicate m (pos 0))) behind;
      bound = told-bound (g.S.ByteSource.most c.triples.source) (g.S.ByteSource.most c.get_triple.new.source) 0 c.in-Ok-Some.ensures.most inv.bound;
      told = λ told. c.in-Ok-Some.ensures.told (inv.told told);
      reads = λ told.
          let w = (rw c.in-Ok-Some.field-0-is at c.in-Ok-Some.ensures.value) (inv.told told) in
          inv.reads told ∙ values_step inv.front inv.turns room c.triples.run c.triples.magnitude l r inv.enough w.0 w.1
          ∙ ap (λ m. values_front (inv.front ++ more) (values_at (inv.turns - 1) m t.run (suc t.level) now)) behind
          ∙ ap (λ m. values_front (inv.front ++ more) (values_at (inv.turns - 1) (room - (t.run + 1)) t.run m now)) (let e : suc t.level ≡ t.level + 1 = omega arith in e);
      becomes = λ first h. c.in-Ok-Some.ensures.becomes first (inv.becomes first h);
      most = Lowers-then (g.S.ByteSource.most c.args.source.now) (g.S.ByteSource.most c.triples.source) (g.S.ByteSource.most c.get_triple.new.source) 0 0 inv.most c.in-Ok-Some.ensures.most;
      kept = c.in-Ok-Some.ensures.cause.kept ∙ inv.kept;
    }

pub returns-in-Err-clause-fault : goal.returns-in-Err-clause-fault
returns-in-Err-clause-fault g c = λ told.
    let inv = c.triples.invariant in
    let n = length c.args.blocks.now in
    let size : length c.triples.blocks ≡ n = omega arith in
    let l = unread c.triples.reader (g.S.ByteSource.left c.triples.source) in
    values_fault inv.front inv.turns c.triples.room c.triples.run c.triples.magnitude l (values_at (63 * length c.triples.blocks + 1) (63 * length c.triples.blocks) 4 2 (unread c.args.reader.now (g.S.ByteSource.left c.args.source.now))) c.in-Err.fault inv.enough
    (ap (λ m. values_at (63 * m + 1) (63 * m) 4 2 (unread c.args.reader.now (g.S.ByteSource.left c.args.source.now))) size ∙ inv.reads told) (c.in-Err.ensures.fault (inv.told told))
