use Rattle.std.proofs.Common.{◌≡◌, ◌*◌, length, ap, ◌∙◌, arith}
use Rattle.std.specs.Vec.{vec_len}
use Rattle.qt_movie.proofs.FramesTrak.{moov_is}
use Rattle.qt_movie.proofs.pictures.moov_of.Goals as goal

pub returns : goal.returns
returns c =
    let len : vec_len c.args.sizes ≡ length c.args.sizes.items = omega arith in
    moov_is c.write_moov.result c.args.head.now c.args.sizes.items _ c.in_ok-trak.trak (ap (λ n. n * c.args.head.now.den) (c.len.ensures ∙ len)) c.in_ok-trak.ensures.value c.write_moov.ensures
