use Rattle.std.proofs.Common.{◌≡◌, ◌+◌, ◌-◌, ◌*◌, ◌≤◌, ◌++◌, ◌∷◌, [], pos, nat_abs, length, replicate, set, false, arith, refl, sym, ap, ◌∙◌, subst, length-append}
use Rattle.pw_bits.specs.Reading.{unread}
use Rattle.pw_outside.proofs.Loops.{Lowers-then}
use Rattle.pr_coeff.specs.Component.{places, listed}
use Rattle.pr_coeff.proofs.CodingLemmas.{kept_value}
use Rattle.pr_coeff.proofs.SetLemmas.{put_at}
use Rattle.pr_coeff.specs.declared.write.Differences.{Differences}
use Rattle.pr_coeff.specs.Reading.{Fault, First, firsts_at, all_firsts_at, first_at}
use Rattle.pr_coeff.proofs.FirstLemmas.{with_front, with_front-more, with_front-one, firsts_more, firsts_err, fault_whole}
use Rattle.pr_coeff.proofs.component.get_firsts.Goals as goal

pub loop-index-init : goal.loop-index-init
loop-index-init g c =
    let v = c.in-Ok.value in
    let n = length c.args.blocks.now in
    let k = kept_value v c.in-Ok.ensures.small in
    let s : Differences = record { last = v; negative = false; code = 5 } in
    let d = c.behind-differences.result in
    let start : d ≡ s = c.behind-differences.ensures ∙ ap (λ x. (let d : Differences = record { last = x; negative = false; code = 5 } in d)) k in
    let now = unread c.get_first.new.reader (g.S.ByteSource.left c.get_first.new.source) in
    record {
      ds = v ∷ [];
      count = refl;
      blocks = c.set_value.ensures.blocks;
      listed = c.set_value.ensures.listed ∙ ap (set (listed (places c.args.scan) c.args.blocks.now) 0) k
          ∙ put_at (listed (places c.args.scan) c.args.blocks.now) [] 0 (64 * n) 0 v c.requires.zeros (omega arith) (omega arith)
          ∙ ap (λ m. v ∷ replicate m (pos 0)) (let e : 64 * n - 0 - 1 ≡ 64 * n - 1 = omega arith in e);
      small = subst (λ (d : Differences). nat_abs d.last ≤ 32767) (sym start) c.in-Ok.ensures.small;
      told = c.in-Ok.ensures.told;
      reads = λ told.
          ap (λ m. all_firsts_at m (unread c.args.reader.now (g.S.ByteSource.left c.args.source.now))) (let e : n ≡ n - 1 + 1 = omega arith in e)
          ∙ c.in-Ok.ensures.value told (n - 1)
          ∙ with_front-one v (firsts_at (n - 1) v false 5 now)
          ∙ ap (λ (d : Differences). with_front (v ∷ []) (firsts_at (n - 1) d.last d.negative d.code now)) (sym start);
      becomes = c.in-Ok.ensures.becomes;
      most = c.in-Ok.ensures.most;
      kept = c.in-Ok.ensures.cause.kept;
    }

pub returns-in-Err-get_difference-clause-fault : goal.returns-in-Err-get_difference-clause-fault
returns-in-Err-get_difference-clause-fault g c = λ told.
    let inv = c.loop-index.invariant in
    let t = c.loop-index.differences in
    let n = length c.args.blocks.now in
    let i = c.loop-index.index in
    let l = unread c.loop-index.reader (g.S.ByteSource.left c.loop-index.source) in
    let size : length c.loop-index.blocks ≡ n = omega arith in
    fault_whole c.in-Err-get_difference.fault (first_at t.last t.negative t.code l) (all_firsts_at (length c.loop-index.blocks) (unread c.args.reader.now (g.S.ByteSource.left c.args.source.now)))
    (λ (x : Fault) e. ap (λ m. all_firsts_at m (unread c.args.reader.now (g.S.ByteSource.left c.args.source.now))) size ∙ inv.reads told ∙ ap (with_front inv.ds) (firsts_err (n - i - 1) (n - i) t.last t.negative t.code l x (omega arith) e))
    (c.in-Err-get_difference.ensures.fault (inv.told told))

pub loop-index-preserved : goal.loop-index-preserved
loop-index-preserved g c =
    let inv = c.loop-index.invariant in
    let t = c.loop-index.differences in
    let u = c.get_difference.new.differences in
    let v = c.in-Ok-get_difference.value in
    let last = c.in-Ok-get_difference.ensures.last in
    let k = kept_value v last.1 in
    let n = length c.args.blocks.now in
    let i = c.loop-index.index in
    let l = unread c.loop-index.reader (g.S.ByteSource.left c.loop-index.source) in
    let now = unread c.get_difference.new.reader (g.S.ByteSource.left c.get_difference.new.source) in
    let d : First = record { value = v; negative = u.negative; code = u.code; rest = now } in
    record {
      ds = inv.ds ++ v ∷ [];
      count = omega (arith, length-append inv.ds (v ∷ []), inv.count);
      blocks = c.set_value-in-Ok-get_difference.ensures.blocks;
      listed = c.set_value-in-Ok-get_difference.ensures.listed ∙ ap (set (listed (places c.args.scan) c.loop-index.blocks) i) k
          ∙ put_at (listed (places c.args.scan) c.loop-index.blocks) inv.ds 0 (64 * n - i) i v inv.listed (omega (arith, inv.count)) (omega arith)
          ∙ ap (λ m. (inv.ds ++ v ∷ []) ++ replicate m (pos 0)) (let e : 64 * n - i - 0 - 1 ≡ 64 * n - (i + 1) = omega arith in e);
      small = omega (arith, last.1, ap nat_abs last.0);
      told = λ told. c.in-Ok-get_difference.ensures.told (inv.told told);
      reads = λ told.
          inv.reads told ∙ ap (with_front inv.ds) (firsts_more (n - i - 1) (n - i) t.last t.negative t.code l d (omega arith) (c.in-Ok-get_difference.ensures.value (inv.told told)))
          ∙ with_front-more inv.ds v (firsts_at (n - i - 1) v u.negative u.code now)
          ∙ ap (λ m. with_front (inv.ds ++ v ∷ []) (firsts_at m v u.negative u.code now)) (let e : n - i - 1 ≡ n - (i + 1) = omega arith in e)
          ∙ ap (λ x. with_front (inv.ds ++ v ∷ []) (firsts_at (n - (i + 1)) x u.negative u.code now)) (sym last.0);
      becomes = λ first h. c.in-Ok-get_difference.ensures.becomes first (inv.becomes first h);
      most = Lowers-then (g.S.ByteSource.most c.args.source.now) (g.S.ByteSource.most c.loop-index.source) (g.S.ByteSource.most c.get_difference.new.source) 0 0 inv.most c.in-Ok-get_difference.ensures.most;
      kept = c.in-Ok-get_difference.ensures.cause.kept ∙ inv.kept;
    }
