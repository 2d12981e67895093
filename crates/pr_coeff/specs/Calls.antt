-- What the calls that read return (our own).
use Rattle.std.specs.Prelude.{◌≡◌, ℕ, Bool, true, false, List, Option, Some, None, Result, Ok, Err}
use Rattle.pr_codes.specs.Words.{after}
use Rattle.pr_codes.specs.declared.book.Codebook.{Codebook}
use Rattle.pr_coeff.specs.Reading.{Fault, codeword, run_past, level_range, faulty, word_at, no_ones, Triple}
use Rattle.pr_coeff.specs.declared.read.CoeffFault.{CoeffFault}
use Rattle.pr_coeff.specs.declared.read.CoeffFault.TheVariants as faults
use Rattle.pr_coeff.specs.declared.triple.RunLevel.{RunLevel}

-- The error is the fault that reading the bits finds; a source's failure says nothing about them.
abbrev pub IsFault : {A : Type 0} → CoeffFault → Result A Fault → Type 0
IsFault faults.Codeword found = found ≡ Err codeword
IsFault faults.RunPast found = found ≡ Err run_past
IsFault faults.LevelRange found = found ≡ Err level_range
IsFault faults.Failed found = Unit {0}

-- The data hasn't ended, and the error is the fault that reading on finds.
abbrev pub IsFaultThere : {A : Type 0} → CoeffFault → List Bool → Result A Fault → Type 0
IsFaultThere faults.Failed l found = Unit {0}
IsFaultThere faults.Codeword l found = (no_ones l ≡ false) × (found ≡ Err codeword)
IsFaultThere faults.RunPast l found = (no_ones l ≡ false) × (found ≡ Err run_past)
IsFaultThere faults.LevelRange l found = (no_ones l ≡ false) × (found ≡ Err level_range)

-- whether the source failed
abbrev pub is_failed : {T : Type 0} → Result T CoeffFault → Bool
is_failed (Ok _) = false
is_failed (Err faults.Codeword) = false
is_failed (Err faults.RunPast) = false
is_failed (Err faults.LevelRange) = false
is_failed (Err faults.Failed) = true

-- A codeword begins after z zeros, whose 1 was taken; or all bits are zeros, and the data has ended.
abbrev pub WordBegins : Codebook → List Bool → List Bool → Option ℕ → Type 0
WordBegins book l now (Some z) = (no_ones l ≡ false) × (word_at book l ≡ faulty (after book z now))
WordBegins book l now None = no_ones l ≡ true

-- The number of the next codeword; or all bits are zeros, and the data has ended.
abbrev pub WordOrEnd : Codebook → List Bool → List Bool → Option ℕ → Type 0
WordOrEnd book l now (Some n) = (no_ones l ≡ false) × (word_at book l ≡ Ok (n, now))
WordOrEnd book l now None = no_ones l ≡ true

-- The next run, level and sign; or all bits are zeros, and the data has ended.
abbrev pub TripleOrEnd : List Bool → List Bool → Result Triple Fault → Option RunLevel → Type 0
TripleOrEnd l now found (Some t) = (no_ones l ≡ false) × (found ≡ Ok (record { run = t.run; level = t.level; negative = t.negative; rest = now }))
TripleOrEnd l now found None = no_ones l ≡ true
