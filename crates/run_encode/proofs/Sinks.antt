-- What three sinks took, one list after the other.
use Rattle.pw_outside.proofs.Puts.{puts_then, puts_front, front_more, then_front, puts_then_none}
use Rattle.run_encode.specs.Outputs.{Outputs, Lists, nothing, joined, PutsAll, PutsFronts}

pub all_then : {a b c : Outputs} {x y : Lists} → PutsAll a b x → PutsAll b c y → PutsAll a c (joined x y)
all_then p q = record { movie = puts_then p.movie q.movie; proof = puts_then p.proof q.proof; text = puts_then p.text q.text }

pub all_fronts : {a b : Outputs} {x : Lists} → PutsAll a b x → PutsFronts a b x
all_fronts p = record { movie = puts_front p.movie; proof = puts_front p.proof; text = puts_front p.text }

pub fronts_more : {a b : Outputs} {x : Lists} (y : Lists) → PutsFronts a b x → PutsFronts a b (joined x y)
fronts_more y p = record { movie = front_more y.movie p.movie; proof = front_more y.proof p.proof; text = front_more y.text p.text }

pub then_fronts : {a b c : Outputs} {x y : Lists} → PutsAll a b x → PutsFronts b c y → PutsFronts a c (joined x y)
then_fronts p q = record { movie = then_front p.movie q.movie; proof = then_front p.proof q.proof; text = then_front p.text q.text }

-- then nothing
pub all_then_none : {a b c : Outputs} {x : Lists} → PutsAll a b x → PutsAll b c nothing → PutsAll a c x
all_then_none p q = record { movie = puts_then_none p.movie q.movie; proof = puts_then_none p.proof q.proof; text = puts_then_none p.text q.text }
