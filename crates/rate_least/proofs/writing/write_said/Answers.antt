use Rattle.std.proofs.Common.{List, Vec, Global, map, sym, ap, ◌∙◌, subst}
use Rattle.std.proofs.lemmas.Result.{on_err_weaker, on_ok_weaker}
use Rattle.pw_outside.specs.Writing.{Puts, PutsFront}
use Rattle.rate_least.specs.declared.outcome.WidePair.{WidePair}
use Rattle.rate_least.specs.Records.{Printed, said_by}
use Rattle.rate_least.specs.Files.{said_bytes}
use Rattle.rate_least.proofs.Written.{fit_text, none_text}
use Rattle.rate_least.proofs.writing.write_said.Goals as goal

pub returns-in-Fits-clause-all : goal.returns-in-Fits-clause-all
returns-in-Fits-clause-all g c =
    let r : Printed = record { choice = c.in-Fits.choice.items; size = c.in-Fits.size; error = c.in-Fits.error; multiplier = c.in-Fits.multiplier; layers = map (λ (l : Vec WidePair Global). l.items) c.in-Fits.layers.items } in
    let text = fit_text r _ _ _ c.as_slice.ensures.value c.bytes_of_sums-sums.ensures (ap (λ (l : List (Vec WidePair Global)). map (λ (v : Vec WidePair Global). v.items) l) c.as_slice-in-Fits.ensures.value) in
    on_ok_weaker c.write_fit.result (λ all. subst (Puts _ _) (text ∙ ap (λ o. said_bytes (said_by o)) (sym c.in-Fits.is)) all) c.write_fit.ensures.all

pub returns-in-Fits-clause-front : goal.returns-in-Fits-clause-front
returns-in-Fits-clause-front g c =
    let r : Printed = record { choice = c.in-Fits.choice.items; size = c.in-Fits.size; error = c.in-Fits.error; multiplier = c.in-Fits.multiplier; layers = map (λ (l : Vec WidePair Global). l.items) c.in-Fits.layers.items } in
    let text = fit_text r _ _ _ c.as_slice.ensures.value c.bytes_of_sums-sums.ensures (ap (λ (l : List (Vec WidePair Global)). map (λ (v : Vec WidePair Global). v.items) l) c.as_slice-in-Fits.ensures.value) in
    on_err_weaker c.write_fit.result (λ front. subst (PutsFront _ _) (text ∙ ap (λ o. said_bytes (said_by o)) (sym c.in-Fits.is)) front) c.write_fit.ensures.front

pub returns-in-None-clause-all : goal.returns-in-None-clause-all
returns-in-None-clause-all g c =
    on_ok_weaker c.write_none.result (λ all. subst (Puts _ _) (none_text c.in-None.least_error ∙ ap (λ o. said_bytes (said_by o)) (sym c.in-None.is)) all) c.write_none.ensures.all

pub returns-in-None-clause-front : goal.returns-in-None-clause-front
returns-in-None-clause-front g c =
    on_err_weaker c.write_none.result (λ front. subst (PutsFront _ _) (none_text c.in-None.least_error ∙ ap (λ o. said_bytes (said_by o)) (sym c.in-None.is)) front) c.write_none.ensures.front
