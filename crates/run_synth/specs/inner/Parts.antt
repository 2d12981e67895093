-- Inputs and results of the parts of a run. Our own definitions.
use Rattle.std.specs.Prelude.{◌≡◌, ℕ, List, length, Ok}
use Rattle.pw_planes.specs.declared.kinds.Depth.TheVariants.{D10}
use Rattle.pic_synth.specs.Numbered.{synthetic_bytes}
use Rattle.pr_frame.specs.declared.showing.Shown.{Shown}
use Rattle.qt_tables.specs.Samples.{samples}
use Rattle.qt_movie.specs.Movie.{Movie, movie_in}
use Rattle.run_encode.specs.declared.job.Job.{Job}
use Rattle.run_encode.specs.declared.end.EncodeEnd.TheVariants as encoded
use Rattle.run_encode.specs.Encoding.{Encodes, IsNarrow}
use Rattle.run_encode.specs.Groups.{IsJobOf}
use Rattle.run_encode.specs.Outputs.{Lists}
use Rattle.std.specs.List.{All}
use Rattle.run_decode.specs.declared.job.Form.TheVariants as forms
use Rattle.run_decode.specs.declared.end.DecodeEnd.TheVariants as decoded
use Rattle.run_decode.specs.Decoding.{Decodes, job_in}
use Rattle.run_synth.specs.declared.words.SynthWords.{SynthWords}
use Rattle.run_synth.specs.declared.encoding.Coded.{Coded}
use Rattle.run_synth.specs.declared.encoding.Coded.TheVariants as coded
use Rattle.run_synth.specs.Synthesis.{encode_words, head_in, pictures_read, synthetic_in, PrintsOn}

-- the bytes of the pictures
abbrev pub bytes_in : SynthWords → List ℕ
bytes_in w = synthetic_bytes (synthetic_in w)

-- The movie, the proof and the text are the result of encoding the pictures.
pub record AreEncoded (w : SynthWords) (movie proof text : List ℕ) : Type 0 where
  pub job : Job
  pub of : IsJobOf (encode_words w) (head_in w) job
  pub lists : Lists
  pub encodes : Encodes job (pictures_read w) encoded.Done lists
  pub narrow : All (IsNarrow job) encodes.coded
  pub movie_is : movie ≡ lists.movie
  pub proof_is : proof ≡ lists.proof
  pub text_is : text ≡ lists.text

-- The result of encoding the pictures: all three files, or a text and an outcome, or out of memory.
abbrev pub AreCoded : SynthWords → Coded → Type 0
AreCoded w (coded.Whole files) = AreEncoded w files.movie.bytes.items files.proof.bytes.items files.text.bytes.items
AreCoded w (coded.Cut said) = PrintsOn w said.end said.text.bytes.items
AreCoded w coded.NoMemory = Unit {0}

-- Decoding `file`, as raw planes of 10 bits, is done and shows `pictures` pictures.
pub record IsDecodable (file : List ℕ) (pictures : ℕ) : Type 0 where
  pub movie : Movie
  pub is_movie : movie_in file ≡ Ok movie
  pub shown : List Shown
  pub decodes : Decodes (job_in forms.Raw D10 movie) file (samples movie.tables) shown decoded.Done
  pub count : length shown ≡ pictures
