use Rattle.std.proofs.Common.{ap, ◌∙◌}
use Rattle.pr_coeff.specs.Component.{level_book}
use Rattle.pr_coeff.specs.Lengths.{level_in}
use Rattle.pr_pieces.proofs.ShortLemmas.{short_is, no_level}
use Rattle.pr_pieces.proofs.shorts.short_level.Goals as goal

pub returns-in-Ok : goal.returns-in-Ok
returns-in-Ok c =
    let next = c.class_of_level in
    record {
      word = short_is c.book_of_level.result (level_book (level_in c.args.class)) c.args.front (record { size = c.in-Ok.size; number = c.in-Ok.number; class = next.result }) (c.book_of_level.ensures.value ∙ ap level_book c.level_of.ensures) c.in-Ok.ensures.value c.in-Ok.ensures.place.1 c.if-number-lt256.true;
      next = next.ensures.value;
    }

pub returns-in_default : goal.returns-in_default
returns-in_default c = no_level c.args.class c.args.front

pub returns-in_default-2 : goal.returns-in_default-2
returns-in_default-2 c = no_level c.args.class c.args.front
