-- Chains of checks and of steps.
pub use Rattle.pw_outside.proofs.Steps.{bind-step, bind-first, bind-same, bind-ok, bind-bind, refuse-ok, refuse-none, refuse-step, agrees-same}
