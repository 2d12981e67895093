use Rattle.std.proofs.Common.{◌∷◌, ◌++◌, sym}
use Rattle.std.specs.Prelude.{codes}
use Rattle.std.specs.Int.{w64, to_be_bytes}
use Rattle.std.proofs.lemmas.Result.{on_err_weaker, on_ok_weaker}
use Rattle.pw_outside.proofs.Results.{any_err}
use Rattle.rate_table.specs.Body.{body_bytes}
use Rattle.rate_least.specs.Records.{Certificate, said_by}
use Rattle.rate_least.specs.Files.{said_bytes, cert_bytes}
use Rattle.rate_least.proofs.Written.{one_front, two_front, two_all, cert_parts}
use Rattle.rate_least.proofs.writing.write_least.Goals as goal

pub returns-in_err-write_front-clause-front : goal.returns-in_err-write_front-clause-front
returns-in_err-write_front-clause-front g c =
    let w : Certificate = record { table = c.args.table.now; cap = c.args.cap; said = said_by c.args.outcome.now } in
    any_err c.from_residual.result (one_front ((codes "PWLC" ++ (1 ∷ to_be_bytes w64 w.cap)) ++ body_bytes w.table) (said_bytes w.said) (cert_bytes w) (sym (cert_parts w)) c.in_err-write_front.ensures.front)

pub returns-clause-all : goal.returns-clause-all
returns-clause-all g c =
    let w : Certificate = record { table = c.args.table.now; cap = c.args.cap; said = said_by c.args.outcome.now } in
    on_ok_weaker c.write_said.result (λ all. two_all ((codes "PWLC" ++ (1 ∷ to_be_bytes w64 w.cap)) ++ body_bytes w.table) (said_bytes w.said) (cert_bytes w) (sym (cert_parts w)) c.in_ok-write_front.ensures.all all) c.write_said.ensures.all

pub returns-clause-front : goal.returns-clause-front
returns-clause-front g c =
    let w : Certificate = record { table = c.args.table.now; cap = c.args.cap; said = said_by c.args.outcome.now } in
    on_err_weaker c.write_said.result (λ front. two_front ((codes "PWLC" ++ (1 ∷ to_be_bytes w64 w.cap)) ++ body_bytes w.table) (said_bytes w.said) (cert_bytes w) (sym (cert_parts w)) c.in_ok-write_front.ensures.all front) c.write_said.ensures.front
