-- The outputs of a run, by its outcome.
use Rattle.std.proofs.Common.{◌≡◌, ℕ, ◌≤◌, List, Result, Ok, refl, sym, subst}
use Rattle.pw_outside.specs.Ports.{last}
use Rattle.pw_outside.specs.Reading.{Fault}
use Rattle.pw_outside.specs.Writing.{SinkState, Puts, PutsFront}
use Rattle.pw_outside.proofs.Puts.{puts_none, puts_front}
use Rattle.rate_table.specs.declared.fault.ProofKind.{ProofKind}
use Rattle.rate_table.specs.Table.{Table}
use Rattle.rate_least.specs.declared.end.LeastEnd.{LeastEnd}
use Rattle.rate_least.specs.declared.end.LeastEnd.TheVariants as ends
use Rattle.rate_least.specs.Records.{Said, Certificate}
use Rattle.rate_least.specs.Files.{cert_bytes}
use Rattle.rate_least.specs.Answers.{IsAnswer}
use Rattle.rate_least.specs.Ends.{IsPrintersEnd, PrintsLines}
use Rattle.rate_least.specs.Leasting.{least_text, IsCertificateOf, WritesLeast}

pub certificate_of : (cap : ℕ) (r : Result Table (Fault ProofKind)) (t : Table) (said : Said) → r ≡ Ok t → IsAnswer t.slices cap said → IsCertificateOf cap r (record { table = t; cap = cap; said = said })
certificate_of cap r t said e is = subst (λ x. IsCertificateOf cap x (record { table = t; cap = cap; said = said })) (sym e) (refl, refl, is)

-- The certificate was written, and the lines were printed or not.
pub wrote : (end : LeastEnd) (Is : Certificate → Type 0) (cert cert' text text' : SinkState) (c : Certificate) (lines : List ℕ) → Is c → Puts cert cert' (cert_bytes c) → lines ≡ least_text c.said
    → IsPrintersEnd end → PrintsLines end lines text text' → WritesLeast end Is cert cert' text text'
wrote ends.Done Is cert cert' text text' c lines is all e p q = record { certificate = c; is = is; bytes = all; lines = subst (Puts text text') e q }
wrote ends.WriteFault Is cert cert' text text' c lines is all e p q = record { certificate = c; is = is; bytes = puts_front all; lines = subst (PutsFront text text') e q }
wrote ends.NoMemory Is cert cert' text text' c lines is all e p q = absurd p
wrote ends.ReadFault Is cert cert' text text' c lines is all e p q = absurd p
wrote ends.LayersFull Is cert cert' text text' c lines is all e p q = absurd p
wrote (ends.BadProof kind place) Is cert cert' text text' c lines is all e p q = absurd p
wrote (ends.Refused clause) Is cert cert' text text' c lines is all e p q = absurd p

-- A prefix of the certificate was written, and no line.
pub wrote_front : (Is : Certificate → Type 0) (cert cert' text : SinkState) (c : Certificate) → Is c → PutsFront cert cert' (cert_bytes c) → text.taken ≤ last → WritesLeast ends.WriteFault Is cert cert' text text
wrote_front Is cert cert' text c is front h = record { certificate = c; is = is; bytes = front; lines = record { out = 0; front = puts_none text h } }
