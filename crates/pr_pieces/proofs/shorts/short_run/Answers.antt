use Rattle.std.proofs.Common.{ap, ◌∙◌}
use Rattle.pr_coeff.specs.Component.{run_book}
use Rattle.pr_coeff.specs.Lengths.{run_in}
use Rattle.pr_pieces.proofs.ShortLemmas.{short_is, no_run}
use Rattle.pr_pieces.proofs.shorts.short_run.Goals as goal

pub returns-in-Ok : goal.returns-in-Ok
returns-in-Ok c =
    let next = c.class_of_run in
    record {
      word = short_is c.book_of_run.result (run_book (run_in c.args.class)) c.args.front (record { size = c.in-Ok.size; number = c.in-Ok.number; class = next.result }) (c.book_of_run.ensures.value ∙ ap run_book c.run_of.ensures) c.in-Ok.ensures.value c.in-Ok.ensures.place.1 c.if-number-lt256.true;
      next = next.ensures.value;
    }

pub returns-in_default : goal.returns-in_default
returns-in_default c = no_run c.args.class c.args.front

pub returns-in_default-2 : goal.returns-in_default-2
returns-in_default-2 c = no_run c.args.class c.args.front
