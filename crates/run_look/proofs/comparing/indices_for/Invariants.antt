use Rattle.std.proofs.Common.{◌≡◌, take}
use Rattle.std.specs.List.{flat_map}
use Rattle.run_look.specs.Agreeing.{indices_of}
use Rattle.run_look.proofs.comparing.indices_for.Given as goal

abbrev pub invariant-loop-picture : goal.invariant-loop-picture
invariant-loop-picture l = l.found.items ≡ flat_map indices_of (take l.picture-index l.frame.pictures)
