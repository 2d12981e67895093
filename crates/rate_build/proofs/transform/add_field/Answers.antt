use Rattle.std.proofs.Common.{ap}
use Rattle.rate_build.specs.Coefficients.{Planes}
use Rattle.rate_build.proofs.Layouts.{field_has_depth}
use Rattle.rate_build.proofs.transform.add_field.Goals as goal

pub add_picture-requires-clause-luma : goal.add_picture-requires-clause-luma
add_picture-requires-clause-luma c =
    let e = c.in_ok-field.ensures in
    field_has_depth c.args.picture.now.y _ c.args.parity c.args.picture.now.depth _ (ap (λ (p : Planes). p.y) e.planes) e.depth c.requires.picture.y

pub add_picture-requires-clause-chroma : goal.add_picture-requires-clause-chroma
add_picture-requires-clause-chroma c =
    let e = c.in_ok-field.ensures in (
      field_has_depth c.args.picture.now.cb _ c.args.parity c.args.picture.now.depth _ (ap (λ (p : Planes). p.cb) e.planes) e.depth c.requires.picture.cb,
      field_has_depth c.args.picture.now.cr _ c.args.parity c.args.picture.now.depth _ (ap (λ (p : Planes). p.cr) e.planes) e.depth c.requires.picture.cr,
    )
