-- What a run of each command does: if the bytes that it reads are visible, they decide the status and every byte that
-- is written. A new command adds an equation. Our own definitions.
use Rattle.std.specs.Prelude.{Ok, Err}
use Rattle.pw_outside.specs.Reading.{Told}
use Rattle.pic_raw.specs.Any.{pictures_of}
use Rattle.qt_movie.specs.Movie.{movie_in}
use Rattle.rate_table.specs.Reading.{tabled}
use Rattle.rate_least.specs.Files.{certified}
use Rattle.run_look.specs.Checking.{ChecksAlone}
use Rattle.run_look.specs.Agreeing.{Checks}
use Rattle.pcm_track.specs.Adding.{added}
use Rattle.pcm_track.specs.Sounding.{sounded}
use Rattle.workshop.specs.declared.words.Task.{Task}
use Rattle.workshop.specs.declared.words.Task.TheVariants as task
use Rattle.workshop.specs.declared.status.Status.{Status}
use Rattle.workshop.specs.Words.{Said}
use Rattle.workshop.specs.World.{World, outputs_in, decode_in, rescue_in}
use Rattle.workshop.specs.Plan.{RunsPlan}
use Rattle.workshop.specs.Encoding.{AnswersEncode}
use Rattle.workshop.specs.Listing.{RunsList}
use Rattle.workshop.specs.Checking.{RunsCheck}
use Rattle.workshop.specs.Reproofing.{RunsReproof}
use Rattle.workshop.specs.Decoding.{RunsDecode}
use Rattle.workshop.specs.Rescuing.{RunsRescue}
use Rattle.workshop.specs.Sounding.{RunsSound}
use Rattle.workshop.specs.Least.{AnswersLeast, AnswersCheckLeast, PrintsYes, RunsCurve}
use Rattle.workshop.specs.Synthesis.{AnswersSynth}

abbrev pub RunsTask : Task → World → World → Status → Type 0
-- BadProof has the first error, if and only if the bytes aren't a table file; LayersFull, frame 0, depends on the size
-- of the table's Pareto frontiers. After Done the whole text of the table's best choice was appended, after a write
-- fault a prefix of it.
RunsTask task.Plan w w' status = Told w.proof (λ bytes. RunsPlan (tabled bytes) status w.text w'.text)
-- After a write fault each sink has a prefix of the result of encoding; after every other refusal the sinks hold whole
-- groups or nothing.
RunsTask (task.Encode v) w w' status = Told w.pictures (λ bytes. AnswersEncode v (pictures_of v.raw bytes) status (outputs_in w) (outputs_in w'))
-- BadMovie has the first error, if and only if the bytes aren't a movie with a track of ProRes. After Done the movie's
-- whole text was appended; after every refusal a prefix of it, or nothing if the file is no such movie.
RunsTask task.List w w' status = Told w.movie (λ file. RunsList (movie_in file) status w.text w'.text)
-- BadProof has the first error, and Refused the first clause that fails with the first frame of its record, whichever
-- comes first. After Done the whole line with the number of records was appended, after a write fault a prefix of it,
-- after every other status nothing.
RunsTask task.Check w w' status = Told w.proof (λ bytes. RunsCheck (ChecksAlone bytes) status w.text w'.text)
-- BadProof, BadMovie, BadPictures and BadFrame have the first error, and Refused the first clause that fails with its
-- frame, whichever comes first. The line is that of `check` with a proof alone.
RunsTask task.CheckAll w w' status = Told w.proof (λ bytes. Told w.movie (λ file. Told w.pictures (λ shown. RunsCheck (Checks bytes file shown) status w.text w'.text)))
-- BadProof has the first error, and Refused clause 6 with the first frame of the first record that fails it, whichever
-- comes first. After Done the proof in format 2 and the line with the number of records were appended; after an error
-- of the input the records before it, and no line; if a port failed or memory ran out prefixes of these.
RunsTask task.Reproof w w' status = Told w.proof (λ bytes. RunsReproof bytes status w.cert w'.cert w.text w'.text)
-- After every status both sinks have prefixes of the result of decoding, and nothing is written if the file is no such
-- movie; and the status says what was reported to each monitor.
RunsTask (task.Decode v) w w' status = Told w.movie (λ file. RunsDecode v file (movie_in file) status (decode_in w) (decode_in w'))
-- Done has the movie of the frames in the file, and BadMovie comes if and only if the file has none, or more than
-- 1,000,000. After every status both sinks have prefixes of the result of rescuing.
RunsTask (task.Rescue rate) w w' status = Told w.movie (λ file. RunsRescue rate file status (rescue_in w) (rescue_in w'))
-- BadMovie and BadSound have the first error in the order of reading and writing, if and only if there is one. After
-- Done the movie with sound and the line were appended; after every other status a prefix of each, with bytes missing
-- from an input taken as 0.
RunsTask task.AddSound w w' status = Told w.movie (λ file. Told w.pictures (λ wav. RunsSound (added file wav) status w.out w'.out w.text w'.text))
-- BadMovie has the first error in the order of reading, if and only if there is one. After Done the header of a WAV,
-- the bytes of the chunks, and the line were appended; after every other status a prefix of each, with bytes missing
-- from the file taken as 0.
RunsTask task.Sound w w' status = Told w.movie (λ file. RunsSound (sounded file) status w.out w'.out w.text w'.text)
-- BadProof has the first error; LayersFull, frame 0, depends on the size of the table's Pareto frontiers. After Done the
-- certificate of the smallest choice that meets the cap, or of none, and its lines were appended whole; after a write
-- fault prefixes of them, after every other status nothing.
RunsTask (task.Least cap) w w' status = Told w.proof (λ bytes. AnswersLeast cap (tabled bytes) status w.cert w'.cert w.text w'.text)
-- BadProof has the first error, and Refused, frame 0, the first clause that fails. Also where the bytes are opaque:
-- after Done the whole line was appended, after a write fault a prefix of it, after every other status nothing.
RunsTask task.CheckLeast w w' status = Told w.proof (λ bytes. AnswersCheckLeast (certified bytes) status) × PrintsYes status w.text w'.text
-- BadProof has the first error, and LayersFull, frame 0, comes if and only if the curves of the first slices have more
-- than 2^25 points together. After Done the lines of all undominated pairs were appended whole; after a write fault a
-- prefix of them, after every other status nothing.
RunsTask task.Curve w w' status = Told w.proof (λ bytes. RunsCurve (tabled bytes) status w.text w'.text)
-- After Done what encoding the pictures prints, their number, and what the check prints; after TooSmall and LayersFull
-- what encoding prints; after a write fault a prefix of these. ReadFault never comes.
RunsTask (task.Synth v) w w' status = AnswersSynth v status w.text w'.text

-- the same by the words; if these have an error, `usage` and `unused` say all
abbrev pub Runs : Said → World → World → Status → Type 0
Runs (Ok s) w w' status = RunsTask s.0 w w' status
Runs (Err fault) w w' status = Unit {0}
