use Rattle.run_encode.proofs.Below.{LawsOfGroups, LawsOfFiles}
use Rattle.run_round.proofs.Checked.{is-checked}
use Rattle.run_round.proofs.laws.encoded_is_checked.Goals as goal

pub returns : goal.returns
returns c =
    let of-groups : LawsOfGroups = record {
      of_layout = c.coefficients_are_of_layout.ensures;
      group_table = c.group_table_is_table.ensures;
      coded = c.coded_can_be_written.ensures.coded;
      indices = c.coded_can_be_written.ensures.indices;
      frame_size = c.frame_has_table_size.ensures;
      frame_length = c.written_has_length.ensures;
      frame_stands = c.written_stands.ensures;
      kept_good = c.kept_is_good.ensures;
      good_least = c.good_is_least.ensures;
    } in
    let of-files : LawsOfFiles = record {
      movie_read = c.written_movie_is_read.ensures;
      frames_read = c.written_frames_are_read.ensures;
      none_below = c.none_fits_below_least.ensures;
      multiplier_exists = c.multiplier_exists.ensures;
      multiplier_is_one = c.multiplier_is_one.ensures;
      proof_read = c.proof_is_read_again.ensures;
    } in
    is-checked c.named_weights_are_in_range.ensures c.pictures_have_form.ensures of-groups of-files c.written_samples_are_read.ensures
