use Rattle.std.proofs.Common.{◌∙◌}
use Rattle.rate_build.specs.Coefficients.{planes_of}
use Rattle.rate_build.proofs.Sliced.{slice_is}
use Rattle.rate_build.proofs.transform.slice_of.Goals as goal

pub returns : goal.returns
returns c =
    slice_is (planes_of c.args.picture.now) c.args.picture.now.depth c.args.layout.now.chroma c.args.slice.now _ _ _ _
    (c.from_vec.ensures ∙ c.in_ok-y.ensures.value) (c.from_vec-2.ensures ∙ c.in_ok-cb.ensures.value) (c.from_vec-3.ensures ∙ c.in_ok-cr.ensures.value) (c.from_vec-4.ensures ∙ c.in_ok-alpha.ensures)
