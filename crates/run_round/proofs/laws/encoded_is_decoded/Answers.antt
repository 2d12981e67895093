use Rattle.run_encode.proofs.Below.{LawsOfGroups}
use Rattle.run_round.proofs.Decoded.{is-decoded}
use Rattle.run_round.proofs.laws.encoded_is_decoded.Goals as goal

pub returns : goal.returns
returns c =
    let of-groups : LawsOfGroups = record {
      of_layout = c.coefficients_are_of_layout.ensures;
      group_table = c.group_table_is_table.ensures;
      coded = c.coded_can_be_written.ensures.coded;
      indices = c.coded_can_be_written.ensures.indices;
      frame_size = c.frame_has_table_size.ensures;
      frame_length = c.written_has_length.ensures;
      frame_stands = c.written_stands.ensures;
      kept_good = c.kept_is_good.ensures;
      good_least = c.good_is_least.ensures;
    } in
    is-decoded c.named_weights_are_in_range.ensures c.pictures_have_form.ensures of-groups c.written_movie_is_read.ensures
    c.written_samples_are_read.ensures c.written_frames_are_read.ensures
