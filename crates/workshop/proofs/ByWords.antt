-- What the words say is what to run: `complete` of the top call, by that of its run.
use Rattle.std.proofs.Common.{◌≡◌, ℕ, List, Ok, sym, subst}
use Rattle.workshop.specs.declared.words.Task.{Task}
use Rattle.workshop.specs.declared.status.Status.{Status}
use Rattle.workshop.specs.Words.{Said, uses_of}
use Rattle.workshop.specs.Faults.{NoPortFailed}
use Rattle.workshop.specs.World.{World}
use Rattle.workshop.specs.Completes.{Completes, CompletesTask}

pub completes : (x : Said) (t : Task × List ℕ) (u : Task) (w w' : World) (status : Status) → x ≡ Ok t → t.0 ≡ u
    → (NoPortFailed (uses_of u) w.faults w'.faults → CompletesTask u w status) → Completes x w w' status
completes x t u w w' status e f h = subst (λ x. Completes x w w' status) (sym e)
    (subst (λ u. NoPortFailed (uses_of u) w.faults w'.faults → CompletesTask u w status) (sym f) h)
