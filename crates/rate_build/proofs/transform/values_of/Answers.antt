use Rattle.std.proofs.Common.{◌≡◌, ℕ, ◌+◌, ◌*◌, ◌/◌, ◌%◌, [], ◌∷◌, ◌++◌, map, sym, ap, ◌∙◌, arith}
use Rattle.std.specs.List.{range_with_len}
use Rattle.std.proofs.lemmas.List.FromFn.{map-range_with_len_more}
use Rattle.pw_planes.specs.Plane.{sample_at}
use Rattle.pw_planes.specs.Rows.{raster}
use Rattle.rate_build.specs.Coefficients.{alpha_values}
use Rattle.rate_build.proofs.transform.values_of.Goals as goal

pub loop-k-preserved : goal.loop-k-preserved
loop-k-preserved c =
    let s = c.args.slice.now in
    let plane = c.args.plane.now in
    let k = c.loop-k.k in
    let f = λ (k : ℕ). sample_at plane (16 * s.column + k % (16 * s.width)) (16 * s.row + k / (16 * s.width)) in
    let one : c.sample.result ≡ f k =
    c.sample.ensures ∙ (λ j. sample_at plane (16 * c.from-column.ensures j + k % (16 * c.from-width.ensures j)) (16 * c.from-row.ensures j + k / (16 * c.from-width.ensures j))) in
    rw c.in_ok-push.ensures.items ((λ j. c.loop-k.invariant j ++ one j ∷ []) ∙ sym (map-range_with_len_more f 0 k k (omega arith)))

pub returns : goal.returns
unfolding alpha_values raster
returns c =
    let s = c.args.slice.now in
    let plane = c.args.plane.now in
    let f = λ (k : ℕ). sample_at plane (16 * s.column + k % (16 * s.width)) (16 * s.row + k / (16 * s.width)) in
    let last : c.loop-k.k ≡ 16 * (16 * s.width) = omega (arith, c.loop-k-test.false, c.loop-k.auto.k-end, c.from-width.ensures) in
    c.loop-k.invariant ∙ ap (λ n. map f (range_with_len 0 n)) last
