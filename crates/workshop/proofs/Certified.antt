-- If no port failed, runs over a table or a certificate are done, unless memory runs out.
use Rattle.std.proofs.Common.{◌≡◌, ℕ, true, refl, ◌⊎◌, inl, inr, Result, Ok, Err, ⊎_elim}
use Rattle.pw_outside.specs.Reading.{Fault}
use Rattle.rate_table.specs.declared.fault.ProofKind.{ProofKind}
use Rattle.rate_table.specs.Table.{Table}
use Rattle.rate_least.specs.declared.end.LeastEnd.{LeastEnd}
use Rattle.rate_least.specs.declared.end.LeastEnd.TheVariants as ends
use Rattle.rate_least.specs.Ends.{is_read_fault, is_write_fault}
use Rattle.rate_least.specs.Records.{Certificate}
use Rattle.rate_least.specs.Leasting as leasting
use Rattle.rate_least.specs.Runs as runs
use Rattle.rate_least.proofs.Judged.{exactly}
use Rattle.workshop.specs.Least.{status_of, CompletesLeast, CompletesCheckLeast, CompletesCurve}

pub least : (cap : ℕ) (input : Result Table (Fault ProofKind)) (end : LeastEnd) → leasting.AnswersLeast cap input end
    → (is_read_fault end ≡ true → ⊥) → (is_write_fault end ≡ true → ⊥) → CompletesLeast cap input (status_of end)
least cap (Err f) end h nr nw = tt
least cap (Ok t) ends.Done h nr nw = λ few. inl refl
least cap (Ok t) ends.NoMemory h nr nw = λ few. inr refl
least cap (Ok t) ends.ReadFault h nr nw = λ few. absurd (nr refl)
least cap (Ok t) ends.WriteFault h nr nw = λ few. absurd (nw refl)
least cap (Ok t) ends.LayersFull h nr nw = λ few. absurd (few h)
least cap (Ok t) (ends.BadProof kind place) h nr nw = absurd h
least cap (Ok t) (ends.Refused clause) h nr nw = absurd h

pub check : (input : Result Certificate (Fault ProofKind)) (end : LeastEnd) → runs.AnswersCheck input end
    → (is_read_fault end ≡ true → ⊥) → (is_write_fault end ≡ true → ⊥) → CompletesCheckLeast input (status_of end)
check (Err f) end h nr nw = tt
check (Ok c) ends.Done h nr nw = λ good. inl refl
check (Ok c) ends.NoMemory h nr nw = λ good. inr refl
check (Ok c) ends.ReadFault h nr nw = λ good. absurd (nr refl)
check (Ok c) ends.WriteFault h nr nw = λ good. absurd (nw refl)
check (Ok c) ends.LayersFull h nr nw = absurd h
check (Ok c) (ends.BadProof kind place) h nr nw = absurd h
check (Ok c) (ends.Refused clause) h nr nw = λ good. let e = (exactly c.table.slices c.cap c.said (Err (record { number = clause })) tt h).1 good in cc

pub curve : (input : Result Table (Fault ProofKind)) (end : LeastEnd) → runs.AnswersCurve input end
    → (is_read_fault end ≡ true → ⊥) → (is_write_fault end ≡ true → ⊥) → CompletesCurve input (status_of end)
curve (Err f) end h nr nw = tt
curve (Ok t) ends.Done h nr nw = λ few. inl refl
curve (Ok t) ends.NoMemory h nr nw = λ few. inr refl
curve (Ok t) ends.ReadFault h nr nw = λ few. absurd (nr refl)
curve (Ok t) ends.WriteFault h nr nw = λ few. absurd (nw refl)
curve (Ok t) ends.LayersFull h nr nw = λ few. absurd (few h)
curve (Ok t) (ends.BadProof kind place) h nr nw = absurd h
curve (Ok t) (ends.Refused clause) h nr nw = absurd h

-- neither count rose
pub neither : {A B : Type 0} → (A → ⊥) → (B → ⊥) → A ⊎ B → ⊥
neither a b r = ⊎_elim a b r
