-- When a command is done: if no port that it uses failed, a valid input is done, unless memory runs out. A new command
-- adds an equation. Our own definitions.
use Rattle.std.specs.Prelude.{Ok, Err}
use Rattle.pw_outside.specs.Reading.{Told}
use Rattle.pic_raw.specs.Any.{pictures_of}
use Rattle.qt_movie.specs.Movie.{movie_in}
use Rattle.rate_table.specs.Reading.{tabled}
use Rattle.rate_least.specs.Files.{certified}
use Rattle.run_look.specs.Checking.{ChecksAlone}
use Rattle.run_look.specs.Agreeing.{Checks}
use Rattle.pcm_track.specs.Adding.{added}
use Rattle.pcm_track.specs.Sounding.{sounded}
use Rattle.workshop.specs.declared.words.Task.{Task}
use Rattle.workshop.specs.declared.words.Task.TheVariants as task
use Rattle.workshop.specs.declared.status.Status.{Status}
use Rattle.workshop.specs.Words.{Said, uses_of}
use Rattle.workshop.specs.Faults.{NoPortFailed}
use Rattle.workshop.specs.World.{World}
use Rattle.workshop.specs.Plan.{CompletesPlan}
use Rattle.workshop.specs.Encoding.{CompletesEncode}
use Rattle.workshop.specs.Listing.{CompletesList}
use Rattle.workshop.specs.Checking.{CompletesCheck}
use Rattle.workshop.specs.Reproofing.{CompletesReproof}
use Rattle.workshop.specs.Decoding.{CompletesDecode}
use Rattle.workshop.specs.Rescuing.{CompletesRescue}
use Rattle.workshop.specs.Sounding.{CompletesSound}
use Rattle.workshop.specs.Least.{CompletesLeast, CompletesCheckLeast, CompletesCurve}
use Rattle.workshop.specs.Synthesis.{CompletesSynth}

-- the status, by the bytes that are read, of a run none of whose ports failed
abbrev pub CompletesTask : Task → World → Status → Type 0
-- A table whose Pareto frontiers don't have too many pairs is planned.
CompletesTask task.Plan w status = Told w.proof (λ bytes. CompletesPlan status (tabled bytes))
-- Pictures without an error, whose groups each have a fitting choice and Pareto frontiers without too many pairs, are
-- encoded.
CompletesTask (task.Encode v) w status = Told w.pictures (λ bytes. CompletesEncode v (pictures_of v.raw bytes) status)
-- A movie is listed.
CompletesTask task.List w status = Told w.movie (λ file. CompletesList status (movie_in file))
-- A proof without an error whose records are all good is Done.
CompletesTask task.Check w status = Told w.proof (λ bytes. CompletesCheck status (ChecksAlone bytes))
-- A proof whose records are good and agree with the pictures and the movie is Done.
CompletesTask task.CheckAll w status = Told w.proof (λ bytes. Told w.movie (λ file. Told w.pictures (λ shown. CompletesCheck status (Checks bytes file shown))))
-- A proof without an error, whose Pareto frontiers all rise in size and fall in error, is Done.
CompletesTask task.Reproof w status = Told w.proof (λ bytes. CompletesReproof status bytes)
-- A movie whose samples all lie in the file and stand for frames like the first is decoded.
CompletesTask (task.Decode v) w status = Told w.movie (λ file. CompletesDecode v file (movie_in file) status)
-- The status is the result of rescuing.
CompletesTask (task.Rescue rate) w status = Told w.movie (λ file. CompletesRescue file status)
-- The status is that of adding the sound.
CompletesTask task.AddSound w status = Told w.movie (λ file. Told w.pictures (λ wav. CompletesSound (added file wav).end status))
-- The status is that of extracting the sound.
CompletesTask task.Sound w status = Told w.movie (λ file. CompletesSound (sounded file).end status)
-- A table whose bounded Pareto frontiers don't have too many pairs is Done.
CompletesTask (task.Least cap) w status = Told w.proof (λ bytes. CompletesLeast cap (tabled bytes) status)
-- A good certificate is Done.
CompletesTask task.CheckLeast w status = Told w.proof (λ bytes. CompletesCheckLeast (certified bytes) status)
-- A table whose curves don't have too many points is Done.
CompletesTask task.Curve w status = Told w.proof (λ bytes. CompletesCurve (tabled bytes) status)
-- Pictures that each have a fitting choice and Pareto frontiers without too many pairs are Done.
CompletesTask (task.Synth v) w status = CompletesSynth v status

-- the same by the words, if no port that the command uses failed
abbrev pub Completes : Said → World → World → Status → Type 0
Completes (Ok s) w w' status = NoPortFailed (uses_of s.0) w.faults w'.faults → CompletesTask s.0 w status
Completes (Err fault) w w' status = Unit {0}
