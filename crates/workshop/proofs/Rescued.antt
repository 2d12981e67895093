-- If no port failed, the status of a run of `rescue` is the result of rescuing, unless memory runs out.
use Rattle.std.proofs.Common.{◌≡◌, List, ℕ, ◌⊎◌, inl, inr, ap}
use Rattle.rescue_run.specs.declared.end.RescueEnd.{RescueEnd}
use Rattle.rescue_run.specs.declared.end.RescueEnd.TheVariants as ends
use Rattle.rescue_run.specs.Laws as laws
use Rattle.workshop.specs.declared.status.Status.TheVariants as s
use Rattle.workshop.specs.Rescuing.{status_of, CompletesRescue}

-- the same for the status
answered : (end known : RescueEnd) → (end ≡ known) ⊎ (end ≡ ends.NoMemory) → (status_of end ≡ status_of known) ⊎ (status_of end ≡ s.NoMemory)
answered end known (inl e) = inl (ap status_of e)
answered end known (inr e) = inr (ap status_of e)

pub complete : (file : List ℕ) (end : RescueEnd) → laws.AnswersRescue file end → CompletesRescue file (status_of end)
complete file end h = λ ts known r. answered end known (h ts known r)
