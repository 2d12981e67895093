-- What reading a codeword returns (our own).
use Rattle.std.specs.Prelude.{◌≡◌, ℕ, Bool, true, false, List, Result, Ok, Err}
use Rattle.pr_codes.specs.Words.{WordFault, at_end, too_large}
use Rattle.pr_codes.specs.declared.codes.CodeFault.{CodeFault}
use Rattle.pr_codes.specs.declared.codes.CodeFault.TheVariants as faults

-- The result is what reading the bits gives, and after a number's codeword these bits are left.
abbrev pub Reads : Result ℕ CodeFault → Result (ℕ × List Bool) WordFault → List Bool → Type 0
Reads (Ok n) read rest = read ≡ Ok (n, rest)
Reads (Err faults.End) read rest = read ≡ Err at_end
Reads (Err faults.TooLarge) read rest = read ≡ Err too_large
Reads (Err faults.Failed) read rest = Unit {0}

-- whether the source failed
abbrev pub is_failed : {T : Type 0} → Result T CodeFault → Bool
is_failed (Ok _) = false
is_failed (Err faults.End) = false
is_failed (Err faults.TooLarge) = false
is_failed (Err faults.Failed) = true
