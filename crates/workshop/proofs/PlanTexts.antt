-- The text of an outcome is that of the table's best choice, or of none.
use Rattle.std.proofs.Common.{◌≡◌, ℕ, List, Bool, true, false, Result, Ok, ap, sym, subst, inl, inr}
use Rattle.std.specs.Bool.{OnTrue}
use Rattle.pw_outside.specs.Reading.{Fault}
use Rattle.pw_outside.specs.Writing.{SinkState, Puts, PutsFront}
use Rattle.rate_table.specs.declared.fault.ProofKind.{ProofKind}
use Rattle.rate_table.specs.Table.{Table, HasNoFit}
use Rattle.rate_table.specs.Records.{SaysNone}
use Rattle.rate_layers.specs.Best.{OnFits, OnNone, TellsBest}
use Rattle.rate_layers.specs.declared.outcome.Outcome.{Outcome}
use Rattle.rate_layers.specs.declared.outcome.Outcome.TheVariants as outcomes
use Rattle.workshop.specs.Plan.{fits_text, none_text, outcome_text, IsPlanText, PrintsPlan, PrintsPart}

pub outcome_is_text : (t : Table) (o : Outcome) → OnFits (Ok o) (TellsBest t) → OnNone (Ok o) (λ least. HasNoFit t × SaysNone t least) → IsPlanText t (outcome_text o)
outcome_is_text t (outcomes.Fits choice size error layers multiplier) fits none = inl (fits.best, fits.is_best, λ i. fits_text (fits.choice i) (fits.size i) (fits.error i))
outcome_is_text t (outcomes.None least) fits none = inr (none.0, ap none_text none.1.1)

pub on_true : {P Q : Type 0} (b : Bool) → (P → Q) → OnTrue b P → OnTrue b Q
on_true true f p = f p
on_true false f p = tt

pub anyway : {P : Type 0} (b : Bool) → P → OnTrue b P
anyway true p = p
anyway false p = tt

pub prints : (r : Result Table (Fault ProofKind)) (t : Table) (text lines : List ℕ) (before after : SinkState) → r ≡ Ok t → IsPlanText t text → lines ≡ text → Puts before after lines → PrintsPlan r before after
prints r t text lines before after e is same p = subst (λ x. PrintsPlan x before after) (sym e) (text, is, subst (Puts before after) same p)

pub prints_part : (r : Result Table (Fault ProofKind)) (t : Table) (text lines : List ℕ) (before after : SinkState) → r ≡ Ok t → IsPlanText t text → lines ≡ text → PutsFront before after lines → PrintsPart r before after
prints_part r t text lines before after e is same p = subst (λ x. PrintsPart x before after) (sym e) (text, is, subst (PutsFront before after) same p)
