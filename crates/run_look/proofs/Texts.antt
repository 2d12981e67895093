-- A text that extends what was held.
use Rattle.std.proofs.Common.{ℕ, ◌≤◌, List, [], ◌++◌, take}
use Rattle.pw_outside.specs.Ports.{last}
use Rattle.pw_outside.specs.Writing.{SinkState, Puts, PutsFront, Extends}
pub use Rattle.pw_outside.proofs.Puts.{none_extends, front_extends}
use Rattle.pw_outside.proofs.Puts.{puts_then}
use Rattle.run_look.specs.declared.end.LookEnd.{LookEnd}
use Rattle.run_look.specs.declared.end.LookEnd.TheVariants as ends
use Rattle.run_look.specs.Ends.{PrintsLine}

-- a line, a prefix of it, or nothing was appended
pub printed_extends : (end : LookEnd) (line : List ℕ) (before after : SinkState) → PrintsLine end line before after → Extends before after
printed_extends ends.Done line before after p = (line, p)
printed_extends ends.WriteFault line before after p = front_extends before after line p
printed_extends ends.NoMemory line before after p = ([], p)
printed_extends ends.ReadFault line before after p = ([], p)
printed_extends (ends.BadPictures kind place) line before after p = ([], p)
printed_extends (ends.BadMovie kind place) line before after p = ([], p)
printed_extends (ends.BadFrame sample kind place) line before after p = ([], p)
printed_extends (ends.BadProof kind place) line before after p = ([], p)
printed_extends (ends.Refused frame clause) line before after p = ([], p)

-- one thing was appended, and then another
pub extends_then : (a b c : SinkState) (bytes : List ℕ) → Puts a b bytes → Extends b c → Extends a c
extends_then a b c bytes p q = (bytes ++ q.0, puts_then p q.1)
