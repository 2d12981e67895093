-- What a run over synthetic pictures prints: the text of encoding them, then what decoding and checking print. Our
-- own definitions.
use Rattle.std.specs.Prelude.{◌≡◌, ℕ, ◌*◌, ◌<◌, ◌≤◌, ◌^◌, ◌⊎◌, Bool, true, false, List, [], ◌++◌, length, None, Some}
use Rattle.std.specs.List.{All}
use Rattle.pw_outside.specs.Writing.{SinkState, Puts, PutsFront}
use Rattle.pw_planes.specs.declared.plane.TheConstants.{MAX_WIDTH, MAX_HEIGHT}
use Rattle.pic_y4m.specs.Frames.{Pictures}
use Rattle.pic_y4m.specs.declared.head.Head.{Head}
use Rattle.pic_synth.specs.declared.synthetic.Synthetic.{Synthetic}
use Rattle.pic_synth.specs.Pictures.{synthetic_head, synthetic_pictures}
use Rattle.pr_quant.specs.declared.weights.Matrix.TheVariants.{Flat}
use Rattle.rate_layers.specs.Best.{PassesByPicks}
use Rattle.run_encode.specs.declared.job.Job.{Job}
use Rattle.run_encode.specs.declared.job.EncodeWords.{EncodeWords}
use Rattle.run_encode.specs.declared.end.EncodeEnd.TheVariants as encoded
use Rattle.run_encode.specs.Completing.{EachFits}
use Rattle.run_encode.specs.Encoding.{Group, AreFirst, Encodes, IsNarrow, group_behind, lines_of}
use Rattle.run_encode.specs.Groups.{IsJobOf, group_count, table_in}
use Rattle.run_encode.specs.Outputs.{Lists}
use Rattle.run_decode.specs.Running.{pictures_line}
use Rattle.run_look.specs.Checking.{check_text}
use Rattle.run_synth.specs.declared.words.SynthWords.{SynthWords}
use Rattle.run_synth.specs.declared.end.SynthEnd.{SynthEnd}
use Rattle.run_synth.specs.declared.end.SynthEnd.TheVariants as ends

-- ---- the operands

-- the values that the command line allows
pub record AreSynthWords (w : SynthWords) : Type 0 where
  pub some_columns : 1 ≤ w.width
  pub columns : w.width ≤ MAX_WIDTH
  pub some_rows : 1 ≤ w.height
  pub rows : w.height ≤ MAX_HEIGHT
  pub some_frames : 1 ≤ w.frames
  pub frames : w.frames ≤ 100
  pub some_budget : 1 ≤ w.budget
  pub budget : w.budget < 2 ^ 31

-- the parameters of the pictures
abbrev pub synthetic_in : SynthWords → Synthetic
synthetic_in w = record { width = w.width; height = w.height; frames = w.frames; seed = w.seed }

-- the format of the pictures
abbrev pub head_in : SynthWords → Head
head_in w = synthetic_head (synthetic_in w)

-- the encoded pictures
abbrev pub pictures_read : SynthWords → Pictures
pictures_read w = record { pictures = synthetic_pictures (synthetic_in w); fault = None }

-- The options: raw planes, indices 1 to 64, slices of eight macroblocks, the flat matrix, a group for each frame,
-- and a proof in format 2.
abbrev pub encode_words : SynthWords → EncodeWords
encode_words w = record {
  budget = w.budget;
  lo = 1;
  hi = 64;
  log2 = 3;
  matrix = Flat;
  raw = Some (head_in w);
  group = 1;
  proof = 2;
}

-- ---- the text

-- Encoding the pictures is done: the text is that of encoding, then the number of decoded pictures, then the number
-- of good records.
pub record PrintsAll (j : Job) (ps : Pictures) (text : List ℕ) : Type 0 where
  pub lists : Lists
  pub encodes : Encodes j ps encoded.Done lists
  pub narrow : All (IsNarrow j) encodes.coded
  pub text_is : text ≡ lists.text ++ pictures_line (length ps.pictures) ++ check_text (length ps.pictures)

-- No choice fits for a frame: the text is that of encoding.
pub record PrintsSmall (j : Job) (ps : Pictures) (frame least : ℕ) (text : List ℕ) : Type 0 where
  pub lists : Lists
  pub encodes : Encodes j ps (encoded.TooSmall frame least) lists
  pub narrow : All (IsNarrow j) encodes.coded
  pub text_is : text ≡ lists.text

-- The Pareto frontiers of a frame have too many pairs: the text is the lines of the frames before it.
pub record PrintsFull (j : Job) (ps : Pictures) (frame : ℕ) (text : List ℕ) : Type 0 where
  pub coded : List Group
  pub first : AreFirst j ps coded
  pub there : length coded < group_count j.group ps
  pub frame_is : frame ≡ j.group * length coded
  pub passes : PassesByPicks (table_in j (group_behind j ps coded))
  pub narrow : All (IsNarrow j) coded
  pub text_is : text ≡ lines_of j 0 coded

-- A run over these pictures has this outcome and this text, if the port doesn't fail and memory doesn't run out.
abbrev pub Prints : Job → Pictures → SynthEnd → List ℕ → Type 0
Prints j ps ends.Done text = PrintsAll j ps text
Prints j ps (ends.TooSmall frame least) text = PrintsSmall j ps frame least text
Prints j ps (ends.LayersFull frame) text = PrintsFull j ps frame text
Prints j ps ends.NoMemory text = ⊥
Prints j ps ends.WriteFault text = ⊥

-- The same in terms of the operands, which fix what all frames share.
abbrev pub PrintsOn : SynthWords → SynthEnd → List ℕ → Type 0
PrintsOn w end text = (j : Job) × IsJobOf (encode_words w) (head_in w) j × Prints j (pictures_read w) end text

-- ---- what a run did

-- What a run did, by its outcome. Memory runs out before the first byte is written; a write fault leaves a prefix
-- of the text.
abbrev pub RanOn : SynthWords → SynthEnd → SinkState → SinkState → Type 0
RanOn w ends.NoMemory before after = Puts before after []
RanOn w ends.WriteFault before after = (end : SynthEnd) × (text : List ℕ) × PrintsOn w end text × PutsFront before after text
RanOn w end before after = (text : List ℕ) × PrintsOn w end text × Puts before after text

-- If each frame has a fitting choice and Pareto frontiers without too many pairs, a run is done, unless memory runs
-- out.
abbrev pub CompletesSynth : SynthWords → SynthEnd → Type 0
CompletesSynth w end = ((j : Job) → IsJobOf (encode_words w) (head_in w) j → EachFits j (pictures_read w))
    → (end ≡ ends.Done) ⊎ (end ≡ ends.NoMemory)

-- ---- by the outcome

abbrev pub is_write_fault : SynthEnd → Bool
is_write_fault ends.WriteFault = true
is_write_fault _ = false

-- the outcomes after which all is flushed
abbrev pub is_settled : SynthEnd → Bool
is_settled ends.Done = true
is_settled (ends.TooSmall _ _) = true
is_settled _ = false
