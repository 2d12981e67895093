use Rattle.std.proofs.Common.{List, ℕ, ◌++◌, sym, ap}
use Rattle.std.proofs.lemmas.Result.{on_err_weaker, on_ok_weaker}
use Rattle.pw_outside.proofs.Puts.{part_front}
use Rattle.pw_outside.proofs.Results.{any_err}
use Rattle.rate_table.specs.Body.{body_bytes}
use Rattle.rate_least.proofs.Written.{one_front, two_front, two_all}
use Rattle.rate_least.proofs.writing.write_front.Goals as goal

pub returns-in_err-put_all-clause-front : goal.returns-in_err-put_all-clause-front
returns-in_err-put_all-clause-front g c =
    let body = body_bytes c.args.table.now in
    any_err c.from_residual.result (one_front c.bytes_of_start.result body _ (ap (λ (l : List ℕ). l ++ body) (sym c.bytes_of_start.ensures)) (part_front c.in_err-put_all.ensures.err))

pub returns-clause-all : goal.returns-clause-all
returns-clause-all g c =
    let body = body_bytes c.args.table.now in
    on_ok_weaker c.write_body.result (λ all. two_all c.bytes_of_start.result body _ (ap (λ (l : List ℕ). l ++ body) (sym c.bytes_of_start.ensures)) c.in_ok-put_all.ensures.ok all) c.write_body.ensures.all

pub returns-clause-front : goal.returns-clause-front
returns-clause-front g c =
    let body = body_bytes c.args.table.now in
    on_err_weaker c.write_body.result (λ front. two_front c.bytes_of_start.result body _ (ap (λ (l : List ℕ). l ++ body) (sym c.bytes_of_start.ensures)) c.in_ok-put_all.ensures.ok front) c.write_body.ensures.front
