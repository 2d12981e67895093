-- If no port failed, and all samples of a movie are shown, a run of `decode` is done.
use Rattle.std.proofs.Common.{◌≡◌, ℕ, List, ◌⊎◌, inl, inr, Result, Ok, Err, ap}
use Rattle.pw_outside.specs.Reading.{Fault}
use Rattle.qt_tables.specs.declared.fault.MovieKind.{MovieKind}
use Rattle.qt_movie.specs.Movie.{Movie}
use Rattle.run_decode.specs.declared.end.DecodeEnd.{DecodeEnd}
use Rattle.run_decode.specs.declared.end.DecodeEnd.TheVariants as ends
use Rattle.run_decode.specs.Laws as laws
use Rattle.workshop.specs.declared.status.Status.TheVariants as s
use Rattle.workshop.specs.Decoding.{status_of, CompletesDecode}
use Rattle.workshop.specs.declared.words.DecodeWords.{DecodeWords}

-- the same for the status
answered : (end : DecodeEnd) → (end ≡ ends.Done) ⊎ (end ≡ ends.NoMemory) → (status_of end ≡ s.Done) ⊎ (status_of end ≡ s.NoMemory)
answered end (inl e) = inl (ap status_of e)
answered end (inr e) = inr (ap status_of e)

pub complete : (w : DecodeWords) (file : List ℕ) (input : Result Movie (Fault MovieKind)) (end : DecodeEnd) → laws.CompletesDecode w.form w.depth file input end
    → CompletesDecode w file input (status_of end)
complete w file (Err f) end h = tt
complete w file (Ok m) end h = λ shown d. answered end (h shown d)
