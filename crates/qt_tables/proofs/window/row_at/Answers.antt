use Rattle.std.proofs.Common.{arith, ap, sym, Ok}
use Rattle.pw_outside.specs.Reading.{bytes_of}
use Rattle.qt_tables.proofs.Pieces.{in-piece, at-start}
use Rattle.qt_tables.proofs.window.row_at.Goals as goal

pub returns-then-place-window-clause-value : goal.returns-then-place-window-clause-value
returns-then-place-window-clause-value g c h =
    ap Ok (sym (in-piece c.args.window.now.piece (bytes_of (g.M.ByteStore.bytes c.args.store.now)) c.args.window.now.held c.args.window.now.from c.args.place c.args.count (c.requires.shows.same h) (omega arith) (omega arith)))

pub returns-clause-value : goal.returns-clause-value
returns-clause-value g c h =
    ap Ok (sym (at-start c.move_to.new.window.piece (bytes_of (g.M.ByteStore.bytes c.args.store.now)) c.move_to.new.window.held c.move_to.new.window.from c.args.place c.args.count (c.in_ok-move_to.ensures.shows.same h) c.in_ok-move_to.ensures.from c.if-window-count.false))
