use Rattle.std.proofs.Common.{◌≡◌, ℕ, ◌+◌, ◌*◌, ◌/◌, ◌<◌, ◌≤◌, List, ◌++◌, length, get_or, ap, ◌∙◌, sym, subst, arith, length-append}
use Rattle.std.proofs.lemmas.List.Edits.{length-between, get_or-between}
use Rattle.std.proofs.Math.Nat.{mul-le-mul_right}
use Rattle.std.specs.List.{between}
use Rattle.pw_planes.proofs.RowLemmas.{raster_by, rows_more}
use Rattle.pic_y4m.proofs.frame.widened.Goals as goal

pub loop-row-preserved : goal.loop-row-preserved
loop-row-preserved c =
    let w = c.args.width in
    let row = c.loop-row.row in
    let at = row / 2 * w in
    let f : ℕ → ℕ → ℕ = λ column row. get_or c.args.stored.now (row / 2 * w + column) 0 in
    let ys = between at (at + w) c.args.stored.now in
    let inside : at + w ≤ length c.args.stored.now =
    let more : row / 2 + 1 ≤ (c.args.height + 1) / 2 = omega arith in
    omega (arith, mul-le-mul_right w more, c.requires.whole) in
    let len : length ys ≡ w = length-between c.args.stored.now at (at + w) inside ∙ omega arith in
    let e : c.extend_from_slice.new.self.items ≡ c.loop-row.samples.items ++ ys = c.in_ok-extend_from_slice.ensures.items in
    record {
      len = ap length e ∙ omega (arith, length-append c.loop-row.samples.items ys, c.loop-row.invariant.len);
      done = λ k h. ap (λ (l : List ℕ). get_or l k 0) e ∙ rows_more w row f c.loop-row.samples.items ys c.loop-row.invariant.len len c.loop-row.invariant.done
          (λ column l. get_or-between c.args.stored.now at (at + w) column 0 (omega arith)) k (omega arith);
    }

pub returns-clause-value : goal.returns-clause-value
returns-clause-value c =
    let same : c.loop-row.row ≡ c.args.height = omega arith in
    let w = c.args.width in
    let e : c.loop-row.row * w ≡ c.args.height * w = ap (λ r. r * w) same in
    raster_by w c.args.height (λ column row. get_or c.args.stored.now (row / 2 * w + column) 0) c.loop-row.samples.items (c.loop-row.invariant.len ∙ e) (λ k h. c.loop-row.invariant.done k (subst (λ n. k < n) (sym e) h))

pub returns-clause-len : goal.returns-clause-len
returns-clause-len c =
    let same : c.loop-row.row ≡ c.args.height = omega arith in
    c.loop-row.invariant.len ∙ ap (λ r. r * c.args.width) same
