-- Laws of lower crates that the headline uses.
use Rattle.pr_frame.specs.Laws.{WrittenStands, WrittenHasLength}
use Rattle.qt_movie.specs.Laws.{WrittenMovieIsRead, WrittenFramesAreRead}
use Rattle.rate_table.specs.Laws.{GoodIsLeast, NoneFitsBelowLeast}
use Rattle.rate_layers.specs.Laws.{KeptIsGood, MultiplierExists, MultiplierIsOne}
use Rattle.rate_build.specs.Groups.{GroupTableIsTable}
use Rattle.rate_build.specs.Laws.{CoefficientsAreOfLayout, CodedIsReady, ChoiceHasIndices, FrameHasTableSize}
use Rattle.rate_cert.specs.Laws.{ProofIsReadAgain}

-- laws that each group uses
pub record LawsOfGroups : Type 0 where
  pub of_layout : CoefficientsAreOfLayout
  pub group_table : GroupTableIsTable
  pub coded : CodedIsReady
  pub indices : ChoiceHasIndices
  pub frame_size : FrameHasTableSize
  pub frame_length : WrittenHasLength
  pub frame_stands : WrittenStands
  pub kept_good : KeptIsGood
  pub good_least : GoodIsLeast

-- laws that a whole movie and a whole proof use
pub record LawsOfFiles : Type 0 where
  pub movie_read : WrittenMovieIsRead
  pub frames_read : WrittenFramesAreRead
  pub none_below : NoneFitsBelowLeast
  pub multiplier_exists : MultiplierExists
  pub multiplier_is_one : MultiplierIsOne
  pub proof_read : ProofIsReadAgain
