-- Extremes so far and of one more picture.
use Rattle.std.proofs.Common.{◌≡◌, refl, ℕ, List, [], Option, Some, None}
use Rattle.std.specs.Option.{option_map}
use Rattle.monitors.specs.declared.extremes.Extremes.{Extremes}
use Rattle.monitors.specs.declared.facts.PictureFacts.{PictureFacts}
use Rattle.monitors.specs.Extremes.{extremes_line, extremes_state, joined}
use Rattle.monitors.specs.States.{behind}

pub next_extremes : (words : List ℕ) (least greatest : PictureFacts → ℕ) (seen : Option Extremes) (f : PictureFacts)
    → extremes_state words least greatest (Some (joined seen (record { least = least f; greatest = greatest f }))) ≡ behind (extremes_state words least greatest seen) f
next_extremes words least greatest None f = refl
next_extremes words least greatest (Some e) f = refl

-- the report so far
pub extremes_reported : (words : List ℕ) (least greatest : PictureFacts → ℕ) (seen : Option Extremes)
    → extremes_line words (option_map (λ e. e.least) seen) (option_map (λ e. e.greatest) seen) ≡ extremes_state words least greatest seen []
extremes_reported words least greatest None = refl
extremes_reported words least greatest (Some e) = refl
