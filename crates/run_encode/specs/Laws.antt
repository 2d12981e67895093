-- Laws of encoding, over the definitions alone.
use Rattle.std.specs.Prelude.{◌≡◌, ℕ, ◌<◌, List, length}
use Rattle.std.specs.List.{All}
use Rattle.pic_y4m.specs.Frames.{Pictures}
use Rattle.run_encode.specs.declared.job.Job.{Job}
use Rattle.run_encode.specs.declared.end.EncodeEnd.{EncodeEnd}
use Rattle.run_encode.specs.declared.end.EncodeEnd.TheVariants as ends
use Rattle.run_encode.specs.Groups.{IsJob, ArePictures, group_count}
use Rattle.run_encode.specs.Outputs.{Lists, joined}
use Rattle.run_encode.specs.Encoding.{Group, IsNarrow, AreFirst, Encodes, cut_lists}
use Rattle.run_encode.specs.Headline.{Headline}

-- The result of encoding has the headline, if no group's Pareto frontiers have too many pairs.
abbrev pub EncodedHasHeadline : Type 0
EncodedHasHeadline = (j : Job) (ps : Pictures) (end : EncodeEnd) (lists : Lists) → IsJob j → ArePictures j.head ps
    → (e : Encodes j ps end lists) → All (IsNarrow j) e.coded → Headline j ps end lists.movie lists.proof

-- What was written of the first groups has the headline, if the next group's Pareto frontiers have too many pairs.
abbrev pub CutHasHeadline : Type 0
CutHasHeadline = (j : Job) (ps : Pictures) (frame : ℕ) (coded : List Group) → IsJob j → ArePictures j.head ps → AreFirst j ps coded
    → length coded < group_count j.group ps → Headline j ps (ends.LayersFull frame) (cut_lists j coded).movie (cut_lists j coded).proof

-- What was written of the first groups is a prefix of the result of encoding: these pictures have an outcome and
-- lists, and these lists begin so.
abbrev pub EncodingGoesOn : Type 0
EncodingGoesOn = (j : Job) (ps : Pictures) (coded : List Group) → IsJob j → ArePictures j.head ps → AreFirst j ps coded
    → (end : EncodeEnd) × (lists : Lists) × Encodes j ps end lists × ((more : Lists) × (joined (cut_lists j coded) more ≡ lists))

-- The result of encoding is unique: one outcome, and one list for each sink.
abbrev pub EncodingIsOne : Type 0
EncodingIsOne = (j : Job) (ps : Pictures) (end end' : EncodeEnd) (lists lists' : Lists) → IsJob j → ArePictures j.head ps
    → Encodes j ps end lists → Encodes j ps end' lists' → (end ≡ end') × (lists ≡ lists')
