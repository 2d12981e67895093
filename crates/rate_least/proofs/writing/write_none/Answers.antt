use Rattle.std.proofs.Common.{List, ℕ, ◌∷◌, [], sym, ap}
use Rattle.std.proofs.lemmas.Result.{on_err_weaker}
use Rattle.pw_outside.proofs.Puts.{part_front}
use Rattle.rate_least.proofs.Written.{two_front}
use Rattle.rate_least.proofs.writing.write_none.Goals as goal

pub returns-clause-front : goal.returns-clause-front
returns-clause-front g c = on_err_weaker c.put_all-2.result (λ e. two_front (0 ∷ []) c.to_be_bytes.result _ (ap (λ (l : List ℕ). 0 ∷ l) (sym c.to_be_bytes.ensures)) c.in_ok-put_all.ensures.ok (part_front e)) c.put_all-2.ensures.err
