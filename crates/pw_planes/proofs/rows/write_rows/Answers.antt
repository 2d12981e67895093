use Rattle.std.proofs.Common.{◌≡◌, ◌+◌, ◌-◌, ◌*◌, ◌≤◌, ◌∙◌, ℕ, List, length, get_or, ap, arith, rules}
use Rattle.std.proofs.lemmas.List.Edits.{length-between, get_or-between}
use Rattle.std.proofs.lemmas.Nat.{mul-le}
use Rattle.pw_planes.proofs.RowLemmas.{rows_written_more, others_stay_more}
use Rattle.pw_planes.proofs.rows.write_rows.Goals as goal

pub loop-row-preserved : goal.loop-row-preserved
loop-row-preserved c =
    let w = c.args.width in
    let row = c.loop-row.row in
    let columns = c.args.columns in
    let place = c.args.at + row * w in
    let old = c.loop-row.samples in
    let ys = c.copy_from_slice.new.self in
    let n = place + columns - place in
    let same : n ≡ columns = omega arith in
    let values = c.args.block.now in
    let all : length values ≡ 64 = search rules in
    let len : length ys ≡ n = ap length c.copy_from_slice.ensures.after ∙ length-between values (8 * row) (8 * row + columns) (omega arith) ∙ omega arith in
    let kept : length old ≡ length c.args.samples.now = c.loop-row.auto.samples in
    let fits : place + columns ≤ length old = omega (arith, mul-le row w (c.args.rows - 1) w (omega arith) (omega arith), c.requires.inside) in
    record {
      written = rows_written_more c.args.samples.now old ys values w c.args.at columns row n same c.requires.apart fits len
          (λ i h. ap (λ (l : List ℕ). get_or l i 0) c.copy_from_slice.ensures.after ∙ get_or-between values (8 * row) (8 * row + columns) i 0 (omega arith)) c.loop-row.invariant.written;
      others = others_stay_more c.args.samples.now old ys values w c.args.at columns row n same c.requires.apart fits len c.loop-row.invariant.others;
    }

pub returns-clause-others : goal.returns-clause-others
returns-clause-others c =
    λ k away. c.loop-row.invariant.others k (λ r column h l. away r column (omega arith) l)
