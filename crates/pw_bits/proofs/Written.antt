-- What a sink has after bits were written and padded.
use Rattle.std.proofs.Common.{◌≡◌, List, [], ◌++◌, Bool, length, take, take_at, refl, ap, sym, subst, ◌∙◌}
use Rattle.std.specs.Io.KnownBytes.{Appends}
use Rattle.pw_outside.specs.Ports.{taken_more}
use Rattle.pw_outside.specs.Writing.{sink_state, Puts, PutsFront}
use Rattle.pw_bits.specs.Bits.{bytes, whole, left, padding}
use Rattle.pw_bits.specs.Writing.{Written, Writes, Begins}
use Rattle.pw_bits.proofs.WritingLemmas.{padding-left}

pub padding_after : {before after : Written} {l : List Bool} → Writes before after l → before.pending ≡ [] → padding after.pending ≡ padding l
padding_after {before} {after} {l} w e = ap padding (w.pending ∙ ap (λ p. left (p ++ l)) e) ∙ padding-left l

pub front_of : {before after : Written} {k : List Bool} (l : List Bool) → Begins before after k → before.pending ≡ [] → k ≡ l ++ padding l →
    PutsFront (sink_state before.held before.taken) (sink_state after.held after.taken) (bytes l)
front_of {before} {after} {k} l b none e =
    let all : b.front ++ b.rest ≡ bytes l = b.parts ∙ ap (λ p. whole (p ++ k)) none ∙ ap whole e in
    let same : take (length b.front) (bytes l) ≡ b.front = ap (take (length b.front)) (sym all) ∙ take_at b.front b.rest (length b.front) refl in
    record {
      out = length b.front;
      front = subst (Puts (sink_state before.held before.taken) (sink_state after.held after.taken)) (sym same) (record { bytes_held = b.bytes; count = b.taken });
    }

pub all_of : (before after : Written) (l : List Bool) → Appends before.held after.held (bytes l) → after.taken ≡ taken_more before.taken (length (bytes l)) →
    Puts (sink_state before.held before.taken) (sink_state after.held after.taken) (bytes l)
all_of before after l held taken = record { bytes_held = held; count = taken }
