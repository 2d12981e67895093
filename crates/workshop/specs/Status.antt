-- The status of a run. Our own definitions.
use Rattle.std.specs.Prelude.{ℕ, Bool, true, false, Option, None, Some, ◌≡◌}
use Rattle.workshop.specs.declared.status.UsageKind.{UsageKind}
use Rattle.workshop.specs.declared.status.Status.{Status}
use Rattle.workshop.specs.declared.status.Status.TheVariants as s

-- the exit status
abbrev pub code_of : Status → ℕ
code_of s.Done = 0
code_of (s.Usage _ _) = 1
code_of s.NoMemory = 2
code_of s.ReadFault = 3
code_of s.WriteFault = 4
code_of (s.BadPictures _ _) = 5
code_of (s.TooSmall _ _) = 6
code_of (s.LayersFull _) = 7
code_of (s.BadMovie _ _) = 8
code_of (s.BadFrame _ _ _) = 9
code_of (s.BadProof _ _) = 10
code_of (s.Refused _ _) = 11
code_of (s.BadSound _ _) = 13

abbrev pub is_done : Status → Bool
is_done s.Done = true
is_done _ = false

abbrev pub is_read_fault : Status → Bool
is_read_fault s.ReadFault = true
is_read_fault _ = false

abbrev pub is_write_fault : Status → Bool
is_write_fault s.WriteFault = true
is_write_fault _ = false

-- the statuses after which all that was written is flushed
abbrev pub is_settled : Status → Bool
is_settled s.Done = true
is_settled (s.TooSmall _ _) = true
is_settled _ = false

-- the statuses of `plan` after which something may have been written
abbrev pub has_written : Status → Bool
has_written s.Done = true
has_written s.WriteFault = true
has_written _ = false

-- kind and word number of an error of the words
abbrev pub usage_of : Status → Option (UsageKind × ℕ)
usage_of (s.Usage kind word) = Some (kind, word)
usage_of _ = None

-- The status is this one, unless a port failed or memory ran out.
abbrev pub AnswersUnlessOutside : Status → Status → Type 0
AnswersUnlessOutside s.NoMemory status = Unit {0}
AnswersUnlessOutside s.ReadFault status = Unit {0}
AnswersUnlessOutside s.WriteFault status = Unit {0}
AnswersUnlessOutside answer status = answer ≡ status
