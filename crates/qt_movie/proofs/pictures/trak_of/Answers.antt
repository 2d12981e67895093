use Rattle.std.proofs.Common.{◌≡◌, length, sym, ap, subst, ◌∙◌, arith}
use Rattle.std.specs.Vec.{vec_len}
use Rattle.qt_tables.specs.Writing.{places_of}
use Rattle.qt_movie.specs.Trak.{IsTrak}
use Rattle.qt_movie.specs.MovieBytes.{extents}
use Rattle.qt_movie.proofs.FramesTrak.{length-extents, trak_is, trak_can}
use Rattle.qt_movie.proofs.pictures.trak_of.Goals as goal

pub returns-clause-value : goal.returns-clause-value
returns-clause-value c =
    let len : vec_len c.args.sizes ≡ length c.args.sizes.items = omega arith in
    trak_is c.args.head.now c.args.sizes.items c.args.duration c.kind_of.result c.pixel_bits.result c.in_ok-stts.stts.items c.in_ok-stsc.stsc.items c.len-count.result c.in_ok-offsets.offsets.items
    c.requires.duration (c.len-count.ensures ∙ len) c.kind_of.ensures c.pixel_bits.ensures c.in_ok-stts.ensures c.in_ok-stsc.ensures (c.in_ok-offsets.ensures ∙ ap (λ l. places_of (extents l)) c.deref.ensures.value)

pub returns-clause-can : goal.returns-clause-can
returns-clause-can c = subst IsTrak (sym (returns-clause-value c)) (trak_can c.args.head.now (extents c.args.sizes.items) (omega (arith, length-extents c.args.sizes.items, c.requires.few)))
