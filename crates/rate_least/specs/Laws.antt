-- Laws of certificates and of curves, independent of any program.
use Rattle.std.specs.Prelude.{◌≡◌, ℕ, List, Ok}
use Rattle.rate_table.specs.declared.entry.Entry.{Entry}
use Rattle.rate_least.specs.declared.outcome.WidePair.{WidePair}
use Rattle.rate_least.specs.Records.{Said, Certificate, IsGood, IsTrueOf}
use Rattle.rate_least.specs.Curve.{IsCurve}
use Rattle.rate_least.specs.Files.{IsWritten, cert_bytes, certified}

-- What a good certificate says is true. This holds for every certificate, whoever made it and whatever its
-- multiplier.
abbrev pub GoodIsTrue : Type 0
GoodIsTrue = (slices : List (List Entry)) (cap : ℕ) (said : Said) → IsGood slices cap said → IsTrueOf slices cap said

-- A certificate that is written is read as that certificate.
abbrev pub CertificateIsReadAgain : Type 0
CertificateIsReadAgain = (c : Certificate) → IsWritten c → certified (cert_bytes c) ≡ Ok c

-- The Pareto frontier of some slices is unique.
abbrev pub CurveIsOne : Type 0
CurveIsOne = (slices : List (List Entry)) (first second : List WidePair) → IsCurve slices first → IsCurve slices second → first ≡ second
