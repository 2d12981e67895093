use Rattle.std.proofs.Common.{length, take, drop, arith, length-append, ◌∙◌}
use Rattle.std.proofs.lemmas.List.{length-drop, length-take}
use Rattle.pw_outside.proofs.Loops.{Lowers-then}
use Rattle.pw_bits.proofs.ReadingLemmas.{told-read}
use Rattle.pw_bits.proofs.WindowLemmas.{window-consumes, window-end, moved-behind}
use Rattle.pw_bits.proofs.window.WindowByteSource.read.Goals as goal

pub returns-clause-bytes : goal.returns-clause-bytes
returns-clause-bytes g c =
    let r = c.in_ok-count.ensures in
    let w = c.args.self.now.left in
    let k = c.in_ok-count.count in
    let room = c.min-room.result in
    let piece = c.args.piece.now in
    let sub = c.read.new.piece in
    let rest = drop room piece in (
      window-consumes w k (g.S.ByteSource.left c.args.self.now.source.now) (g.S.ByteSource.left c.read.new.self) sub rest r.count.0 (omega (arith, r.count.0, c.read.auto.piece, length-take room piece, c.min-room.ensures)) r.bytes.0,
      λ none more. window-end w k (length piece) (g.S.ByteSource.left c.read.new.self) sub
          (omega (arith, c.read.auto.piece, length-take room piece, c.min-room.ensures)) r.bytes.1 none (omega (arith, more, length-append sub rest, length-drop room piece, c.read.auto.piece, length-take room piece)),
    )

pub returns-clause-becomes : goal.returns-clause-becomes
returns-clause-becomes g c = λ first m.
    let r = c.in_ok-count.ensures in
    let w = c.args.self.now.left in
    let k = c.in_ok-count.count in
    let old = g.S.ByteSource.left c.args.self.now.source.now in
    let new = g.S.ByteSource.left c.read.new.self in
    let room = c.min-room.result in
    let piece = c.args.piece.now in
    record {
      same = m.same;
      port = λ earlier h. r.becomes earlier (m.port earlier h);
      bound = Lowers-then (g.S.ByteSource.most first.source.now) (g.S.ByteSource.most c.args.self.now.source.now) (g.S.ByteSource.most c.read.new.self) 0 k m.bound r.most;
      told = λ t. told-read old new (take k c.read.new.piece) r.bytes.0 (m.told t);
      behind = λ t. moved-behind w k old new (take k c.read.new.piece) r.count.1 (omega (arith, r.count.0, c.read.auto.piece, length-take room piece, c.min-room.ensures)) r.bytes.0 (m.told t) ∙ m.behind t;
    }
