use Rattle.run_look.proofs.Parts.{size_test}
use Rattle.run_look.proofs.comparing.has_size.Goals as goal

pub returns-in-Some : goal.returns-in-Some
returns-in-Some c =
    size_test c.indices_tell_choice.ensures c.args.slices.now c.requires.some c.requires.few c.requires.each c.args.part.now c.in-Some.bytes _ c.in-Some.ensures.some
    c.from.result c.from-in-Some.result c.args.share c.args.size c.from.ensures c.from-in-Some.ensures
