-- What it means that a command is done: what was written is what the command promises. `Runs` says what every run
-- writes; these commands promise more of it. A new command that does adds an equation. Our own definitions.
use Rattle.std.specs.Prelude.{ℕ, List, Ok, Err}
use Rattle.std.specs.Bool.{OnTrue}
use Rattle.pw_outside.specs.Reading.{Told}
use Rattle.pw_outside.specs.Writing.{Puts}
use Rattle.pic_raw.specs.Any.{pictures_of}
use Rattle.rate_least.specs.Files.{certified}
use Rattle.rate_least.specs.Runs.{SaysTrue}
use Rattle.rescue_run.specs.Laws.{IsMovieOf}
use Rattle.run_look.specs.Reproofing.{reproofed, SaysTheSame, IsProofIn}
use Rattle.workshop.specs.declared.words.Task.{Task}
use Rattle.workshop.specs.declared.words.Task.TheVariants as task
use Rattle.workshop.specs.declared.status.Status.{Status}
use Rattle.workshop.specs.Status.{is_done}
use Rattle.workshop.specs.Words.{Said}
use Rattle.workshop.specs.World.{World, outputs_in}
use Rattle.workshop.specs.Encoding.{HoldsHeadline}
use Rattle.workshop.specs.Sounding.{ReadsAgain}

abbrev pub MeansTask : Task → World → World → Status → Type 0
-- What was appended has the headline: each group has at most its budget's bytes; each sample stands for its picture's
-- coefficients quantised at the chosen indices; no choice that fits has less error; the printed records are good; if no
-- choice fits, the last record says so.
MeansTask (task.Encode v) w w' status = Told w.pictures (λ bytes. HoldsHeadline v (pictures_of v.raw bytes) status (outputs_in w) (outputs_in w'))
-- After Done the written proof has the settings and the records of the input; a proof of format 2 is unchanged, byte
-- for byte.
MeansTask task.Reproof w w' status = Told w.proof (λ bytes. OnTrue (is_done status)
    (SaysTheSame bytes (reproofed bytes).cert × (IsProofIn 2 bytes → Puts w.cert w'.cert bytes)))
-- After Done what was appended to `out` is read as a movie whose samples are the frames in the file, byte for byte.
MeansTask (task.Rescue rate) w w' status = Told w.movie (λ file. OnTrue (is_done status)
    ((bytes : List ℕ) × Puts w.out w'.out bytes × IsMovieOf file bytes))
-- After Done what was appended to `out` is a movie of the same pictures (kind, size and time scale; the bytes and the
-- duration of each sample), and `sound` extracts the WAV's sound from it.
MeansTask task.AddSound w w' status = Told w.movie (λ file. Told w.pictures (λ wav. ReadsAgain status file wav w.out w'.out))
-- After Done the certificate is true: no choice that meets its cap has less size than the printed one, or none meets it.
MeansTask task.CheckLeast w w' status = Told w.proof (λ bytes. OnTrue (is_done status) (SaysTrue (certified bytes)))
MeansTask _ w w' status = Unit {0}

-- the same by the words
abbrev pub Means : Said → World → World → Status → Type 0
Means (Ok s) w w' status = MeansTask s.0 w w' status
Means (Err fault) w w' status = Unit {0}
