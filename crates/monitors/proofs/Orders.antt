-- Pictures in order.
use Rattle.std.proofs.Common.{refl, [], ◌∷◌, append-nil, ap}
use Rattle.monitors.specs.States.{behind, StepsInOrder, ReportsAllPictures}

pub steps_in_order : StepsInOrder
steps_in_order s [] = refl
steps_in_order s (f ∷ fs) = steps_in_order (behind s f) fs

pub reports_all : ReportsAllPictures
reports_all s facts = ap s (append-nil facts)
