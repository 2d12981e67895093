use Rattle.run_encode.proofs.Below.{LawsOfGroups}
use Rattle.run_encode.proofs.Whole.{cut-headline}
use Rattle.run_encode.proofs.laws.cut_has_headline.Goals as goal

pub returns : goal.returns
returns c = λ j ps frame coded is are first there.
    let of-groups : LawsOfGroups = record {
      of_layout = c.coefficients_are_of_layout.ensures;
      group_table = c.group_table_is_table.ensures;
      coded = c.coded_can_be_written.ensures.coded;
      indices = c.coded_can_be_written.ensures.indices;
      frame_size = c.frame_has_table_size.ensures;
      frame_length = c.written_has_length.ensures;
      frame_stands = c.written_stands.ensures;
      kept_good = c.kept_is_good.ensures;
      good_least = c.good_is_least.ensures;
    } in
    cut-headline j is ps are of-groups coded first frame there
