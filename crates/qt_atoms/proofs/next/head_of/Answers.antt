use Rattle.std.proofs.Common.{refl}
use Rattle.pw_outside.specs.Reading.{bytes_of}
use Rattle.qt_atoms.proofs.Heads.{ok-is, head-size, head-kind}
use Rattle.qt_atoms.proofs.next.head_of.Goals as goal

pub returns-clause-value : goal.returns-clause-value
returns-clause-value g c h =
    let file = bytes_of (g.M.ByteStore.bytes c.args.store.now) in
    let head = ok-is _ _ (c.in_ok-head.ensures.value h) in
    let size = head-size file c.args.at _ _ head c.copy_from_slice.ensures.after in
    let kind = head-kind file c.args.at _ _ head c.copy_from_slice-2.ensures.after in
    rw (size, kind, c.from_be_bytes.ensures) refl
