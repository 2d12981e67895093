-- Laws of proof files in both formats, independent of any program.
use Rattle.std.specs.Prelude.{◌≡◌, ℕ, ◌+◌, ◌<◌, ◌^◌, List, [], ◌∷◌, ◌++◌, length, Ok, Some}
use Rattle.pw_outside.specs.Reading.{Rest, AreBytes, Took}
use Rattle.rate_cert.specs.declared.settings.Settings.{Settings}
use Rattle.rate_cert.specs.Settings.{IsSettings}
use Rattle.rate_cert.specs.Numbers.{number_bytes, short_at}
use Rattle.rate_cert.specs.Records.{Record}
use Rattle.rate_cert.specs.Head.{head_bytes, head_at}
use Rattle.rate_cert.specs.Files.{IsFormat, record_bytes, proof_bytes, IsWritten, Progress, no_records, MayStand, further, next_at, Proved, proved}

-- A LEB128 number that is written is read as that number, whatever follows it.
abbrev pub NumberIsReadAgain : Type 0
NumberIsReadAgain = (n place : ℕ) (behind : List ℕ) → n < 2 ^ 64
    → short_at (record { place = place; bytes = number_bytes n ++ behind }) ≡ Ok (n, record { place = place + length (number_bytes n); bytes = behind })

-- A record that is written at a position where one may be is read as that record, whatever follows it, in either
-- format.
abbrev pub RecordIsReadAgain : Type 0
RecordIsReadAgain = (format : ℕ) (p : Progress) (r : Record) (place : ℕ) (behind : List ℕ) → IsFormat format → MayStand p → IsWritten format r
    → next_at format p (record { place = place; bytes = record_bytes format r ++ behind })
    ≡ Ok (Some r, record { place = place + length (record_bytes format r); bytes = behind })

-- A head that is written is read as that head, whatever follows it, in either format.
abbrev pub HeadIsReadAgain : Type 0
HeadIsReadAgain = (format : ℕ) (s : Settings) (place : ℕ) (behind : List ℕ) → IsFormat format → IsSettings s
    → head_at (record { place = place; bytes = head_bytes format s ++ behind })
    ≡ Ok ((format, s), record { place = place + length (head_bytes format s); bytes = behind })

-- The records can be written one after the other.
abbrev pub AreWritten : ℕ → Settings → Progress → List Record → Type 0
AreWritten format s p [] = Unit {0}
AreWritten format s p (r ∷ rs) = MayStand p × IsWritten format r × AreWritten format s (further s p r) rs

-- A proof that is written is read as that proof, in either format.
abbrev pub ProofIsReadAgain : Type 0
ProofIsReadAgain = (format : ℕ) (s : Settings) (records : List Record) → IsFormat format → IsSettings s → AreWritten format s no_records records
    → proved (proof_bytes format s records) ≡ Ok (record { format = format; settings = s; records = records })

-- A record that was read in format 2 can be written in it, and its bytes are those that are written: it has one
-- encoding, and in its layers sizes rise and errors fall.
abbrev pub RecordIsSpelled : Type 0
RecordIsSpelled = (p : Progress) (s rest : Rest) (r : Record) → AreBytes s.bytes → next_at 2 p s ≡ Ok (Some r, rest) → IsWritten 2 r × Took s (record_bytes 2 r) rest

-- The bytes of a head are those that are written for its format and its settings: it has one encoding in either
-- format.
abbrev pub HeadIsSpelled : Type 0
HeadIsSpelled = (format : ℕ) (settings : Settings) (s rest : Rest) → AreBytes s.bytes → head_at s ≡ Ok ((format, settings), rest) → Took s (head_bytes format settings) rest

-- A valid proof of format 2 has one encoding, the one that is written for its settings and its records.
abbrev pub ProofIsSpelled : Type 0
ProofIsSpelled = (bytes : List ℕ) (p : Proved) → AreBytes bytes → proved bytes ≡ Ok p → p.format ≡ 2 → bytes ≡ proof_bytes 2 p.settings p.records
