use Rattle.std.proofs.Common.{map, Vec, Global}
use Rattle.std.specs.List.{flat_map}
use Rattle.std.proofs.lemmas.Result.{on_err_weaker}
use Rattle.pw_outside.proofs.Puts.{part_front, then_front, front_more}
use Rattle.pw_outside.proofs.Results.{any_err}
use Rattle.rate_least.specs.declared.outcome.WidePair.{WidePair}
use Rattle.rate_least.specs.Files.{layer_bytes}
use Rattle.rate_least.proofs.writing.write_fit.Goals as goal

pub returns-in_err-put_all-2-clause-front : goal.returns-in_err-put_all-2-clause-front
returns-in_err-put_all-2-clause-front g c =
    any_err c.from_residual-in_err-put_all-2.result (then_front c.in_ok-put_all.ensures.ok (front_more _ (part_front c.in_err-put_all-2.ensures.err)))

pub returns-in_err-put_all-3-clause-front : goal.returns-in_err-put_all-3-clause-front
returns-in_err-put_all-3-clause-front g c =
    any_err c.from_residual-in_err-put_all-3.result (then_front c.in_ok-put_all.ensures.ok (then_front c.in_ok-put_all-2.ensures.ok
    (front_more (flat_map layer_bytes (map (λ (l : Vec WidePair Global). l.items) c.args.layers.now)) (part_front c.in_err-put_all-3.ensures.err))))

pub returns-clause-front : goal.returns-clause-front
returns-clause-front g c =
    on_err_weaker c.write_layers.result (λ front. then_front c.in_ok-put_all.ensures.ok (then_front c.in_ok-put_all-2.ensures.ok (then_front c.in_ok-put_all-3.ensures.ok front))) c.write_layers.ensures.front
