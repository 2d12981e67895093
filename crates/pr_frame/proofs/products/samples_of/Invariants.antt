use Rattle.std.proofs.Common.{◌≡◌, ◌<◌, ℕ, length, get_or, pos}
use Rattle.pr_dct.specs.Shown as clipping
use Rattle.pr_frame.proofs.products.samples_of.Given as goal

abbrev pub invariant-loop-place : goal.invariant-loop-place
invariant-loop-place l = record {
  whole : length l.samples ≡ 64;
  values : (k : ℕ) → k < l.place → pos (get_or l.samples k 0) ≡ clipping.shown l.depth (get_or l.values k (pos 0));
}
