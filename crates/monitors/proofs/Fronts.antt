-- The empty text is a prefix of every text.
use Rattle.std.proofs.Common.{◌≡◌, ℕ, List, append-nil, sym, ◌∙◌}
use Rattle.monitors.specs.States.{IsFrontAdded}

pub none_added : (before after bytes : List ℕ) → after ≡ before → IsFrontAdded before after bytes
none_added before after bytes e = record { out = 0; front = e ∙ sym (append-nil before) }
