use Rattle.std.proofs.Common.{suc}
use Rattle.rate_layers.proofs.Kept.{kept_front, front_kept}
use Rattle.rate_layers.proofs.Asked.{Stays, kept_test, layer_step}
use Rattle.rate_layers.proofs.laws.kept_is_merged.Goals as goal

pub returns : goal.returns
returns c = λ t m u k layer next h f g. front_kept t m u (suc k) next (layer_step t u (Stays t m u) (kept_test t m u) k layer next h (kept_front t m u k layer f) g)
