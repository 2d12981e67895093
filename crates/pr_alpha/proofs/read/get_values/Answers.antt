use Rattle.std.proofs.Common.{◌≡◌, ◌+◌, ◌-◌, ◌<◌, ◌++◌, ◌∷◌, [], length, replicate, Ok, arith, refl, sym, ap, ◌∙◌, subst, length-append}
use Rattle.std.proofs.lemmas.List.{take_all, length-replicate}
use Rattle.pw_bits.specs.Reading.{unread}
use Rattle.pw_outside.proofs.Loops.{Lowers-then, Lowers-same}
use Rattle.pr_alpha.specs.Alpha.{greatest, AreBelow}
use Rattle.pr_alpha.specs.Reading.{Fault, wanting, step_behind, step_at, values_at}
use Rattle.pr_alpha.proofs.ReadLemmas.{with_front, with_front-nil, rows_read, values_fail, values_end, fault_whole, end_whole, set_front, below_more, below_none}
use Rattle.pr_alpha.proofs.read.get_values.Goals as goal

pub rows-init : goal.rows-init
rows-init g c =
    let n = length c.args.values.now in
    record {
      front = [];
      turns = n;
      enough = omega arith;
      inside = omega (arith, c.requires.some);
      same = refl;
      size = refl;
      values = refl;
      below = below_none c.args.bits (omega (arith, c.greatest_value-last.ensures.below));
      last = c.greatest_value-last.ensures.below;
      told = λ told. told;
      reads = λ told.
          let rest = c.args.first ∷ unread c.args.reader.now (g.S.ByteSource.left c.args.source.now) in
          with_front-nil (values_at n c.args.bits (greatest c.args.bits) n rest)
          ∙ ap (λ x. with_front [] (values_at n c.args.bits x n rest)) (sym c.greatest_value-last.ensures.value)
          ∙ ap (λ x. with_front [] (values_at n c.args.bits c.greatest_value-last.result x rest)) (let e : n ≡ n - 0 = omega arith in e);
      becomes = λ first h. h;
      most = Lowers-same (g.S.ByteSource.most c.args.source.now);
      kept = refl;
    }

pub returns-in-Err-clause-fault : goal.returns-in-Err-clause-fault
returns-in-Err-clause-fault g c = λ told.
    let inv = c.rows.invariant in
    let n = length c.args.values.now in
    let m = length c.rows.values in
    let l = unread c.rows.reader (g.S.ByteSource.left c.rows.source) in
    let start = c.args.first ∷ unread c.args.reader.now (g.S.ByteSource.left c.args.source.now) in
    fault_whole c.in-Err.fault (step_behind c.args.bits c.rows.last (m - c.rows.done) c.rows.long l) (values_at m c.args.bits (greatest c.args.bits) m start)
    (λ (x : Fault) e. ap (λ k. values_at k c.args.bits (greatest c.args.bits) k start) inv.same ∙ inv.reads told
    ∙ values_fail inv.front inv.turns c.args.bits c.rows.last (n - c.rows.done) (c.rows.long ∷ l) (omega (arith, inv.inside)) inv.enough x
    (ap (λ k. step_behind c.args.bits c.rows.last (k - c.rows.done) c.rows.long l) (sym inv.same) ∙ e)) (c.in-Err.ensures.fault (inv.told told))

pub returns-then-done-values-clause-value : goal.returns-then-done-values-clause-value
returns-then-done-values-clause-value g c = λ told.
    let inv = c.rows.invariant in
    let n = length c.args.values.now in
    let new = c.set_row.new.values in
    let row = c.in-Ok.row in
    let end = c.rows.done + row.count in
    let l = unread c.rows.reader (g.S.ByteSource.left c.rows.source) in
    let rest = unread c.get_row.new.reader (g.S.ByteSource.left c.get_row.new.source) in
    let start = c.args.first ∷ unread c.args.reader.now (g.S.ByteSource.left c.args.source.now) in
    let size : length new ≡ n = omega (arith, inv.same) in
    let read = rows_read n (length c.rows.values) c.args.bits c.rows.last row.value c.rows.done row.count inv.turns c.rows.long inv.front l rest start inv.same inv.inside inv.enough (inv.reads told) (c.in-Ok.ensures.value (inv.told told)) in
    let all : inv.front ++ replicate row.count row.value ≡ new =
    sym (set_front c.rows.values new inv.front c.rows.done row.count row.value inv.size inv.values c.set_row.ensures) ∙ take_all end new (omega (arith, c.if-done-values.true)) in
    ap (λ k. values_at k c.args.bits (greatest c.args.bits) k start) size ∙ read
    ∙ values_end (inv.front ++ replicate row.count row.value) (inv.turns - 1) c.args.bits row.value (n - end) rest (omega (arith, c.if-done-values.true, size))
    ∙ ap Ok all

pub returns-then-done-values-clause-below : goal.returns-then-done-values-clause-below
returns-then-done-values-clause-below g c =
    let inv = c.rows.invariant in
    let new = c.set_row.new.values in
    let row = c.in-Ok.row in
    let all : inv.front ++ replicate row.count row.value ≡ new =
    sym (set_front c.rows.values new inv.front c.rows.done row.count row.value inv.size inv.values c.set_row.ensures) ∙ take_all (c.rows.done + row.count) new (omega (arith, c.if-done-values.true)) in
    subst (AreBelow c.args.bits) all (below_more c.args.bits row.count row.value inv.front c.in-Ok.ensures.inside.0 inv.below)

pub returns-in-Err-get_bit-clause-fault : goal.returns-in-Err-get_bit-clause-fault
returns-in-Err-get_bit-clause-fault g c = λ told.
    let inv = c.rows.invariant in
    let n = length c.args.values.now in
    let new = c.set_row.new.values in
    let row = c.in-Ok.row in
    let end = c.rows.done + row.count in
    let l = unread c.rows.reader (g.S.ByteSource.left c.rows.source) in
    let rest = unread c.get_row.new.reader (g.S.ByteSource.left c.get_row.new.source) in
    let start = c.args.first ∷ unread c.args.reader.now (g.S.ByteSource.left c.args.source.now) in
    let size : length new ≡ n = omega (arith, inv.same) in
    let inside = c.in-Ok.ensures.inside in
    let some : 0 < n - end = omega (arith, c.if-done-values.false, size, inside.2, inv.same, inv.inside) in
    let read = rows_read n (length c.rows.values) c.args.bits c.rows.last row.value c.rows.done row.count inv.turns c.rows.long inv.front l rest start inv.same inv.inside inv.enough (inv.reads told) (c.in-Ok.ensures.value (inv.told told)) in
    end_whole c.in-Err-get_bit.fault rest (values_at (length new) c.args.bits (greatest c.args.bits) (length new) start)
    (λ e. ap (λ k. values_at k c.args.bits (greatest c.args.bits) k start) size ∙ read
    ∙ values_fail (inv.front ++ replicate row.count row.value) (inv.turns - 1) c.args.bits row.value (n - end) rest some (omega (arith, inv.enough, inside.1)) wanting (ap (step_at c.args.bits row.value (n - end)) e))
    (c.in-Err-get_bit.ensures.fault (c.in-Ok.ensures.told (inv.told told)))

pub rows-preserved : goal.rows-preserved
rows-preserved g c =
    let inv = c.rows.invariant in
    let n = length c.args.values.now in
    let new = c.set_row.new.values in
    let row = c.in-Ok.row in
    let end = c.rows.done + row.count in
    let l = unread c.rows.reader (g.S.ByteSource.left c.rows.source) in
    let rest = unread c.get_row.new.reader (g.S.ByteSource.left c.get_row.new.source) in
    let now = unread c.get_bit.new.reader (g.S.ByteSource.left c.get_bit.new.source) in
    let start = c.args.first ∷ unread c.args.reader.now (g.S.ByteSource.left c.args.source.now) in
    let more = replicate row.count row.value in
    let size : length new ≡ n = omega (arith, inv.same) in
    let inside = c.in-Ok.ensures.inside in
    record {
      front = inv.front ++ more;
      turns = inv.turns - 1;
      enough = omega (arith, inv.enough, inside.1);
      inside = omega (arith, c.if-done-values.false, size, inside.2, inv.same, inv.inside);
      same = size;
      size = omega (arith, inv.size, length-append inv.front more, length-replicate row.count row.value);
      values = set_front c.rows.values new inv.front c.rows.done row.count row.value inv.size inv.values c.set_row.ensures;
      below = below_more c.args.bits row.count row.value inv.front inside.0 inv.below;
      last = inside.0;
      told = λ told. c.in-Ok-get_bit.ensures.told (c.in-Ok.ensures.told (inv.told told));
      reads = λ told.
          rows_read n (length c.rows.values) c.args.bits c.rows.last row.value c.rows.done row.count inv.turns c.rows.long inv.front l rest start inv.same inv.inside inv.enough (inv.reads told) (c.in-Ok.ensures.value (inv.told told))
          ∙ ap (λ r. with_front (inv.front ++ more) (values_at (inv.turns - 1) c.args.bits row.value (n - end) r)) (c.in-Ok-get_bit.ensures.value (c.in-Ok.ensures.told (inv.told told)));
      becomes = λ first h. c.in-Ok-get_bit.ensures.becomes first (c.in-Ok.ensures.becomes first (inv.becomes first h));
      most = Lowers-then (g.S.ByteSource.most c.args.source.now) (g.S.ByteSource.most c.get_row.new.source) (g.S.ByteSource.most c.get_bit.new.source) 0 0
          (Lowers-then (g.S.ByteSource.most c.args.source.now) (g.S.ByteSource.most c.rows.source) (g.S.ByteSource.most c.get_row.new.source) 0 0 inv.most c.in-Ok.ensures.most) c.in-Ok-get_bit.ensures.most;
      kept = c.in-Ok-get_bit.ensures.cause.kept ∙ c.in-Ok.ensures.cause.kept ∙ inv.kept;
    }
