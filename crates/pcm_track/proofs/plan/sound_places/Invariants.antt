use Rattle.std.proofs.Common.{◌≡◌, ◌+◌, ◌*◌, ◌≤◌, ◌++◌, drop}
use Rattle.pcm_track.specs.Adding.{sound_places, first_place}
use Rattle.pcm_track.proofs.plan.sound_places.Given as goal

abbrev pub invariant-loop-part : goal.invariant-loop-part
invariant-loop-part l = record {
  places : l.places.items ++ sound_places l.channels l.place (drop l.part-index l.parts) ≡ sound_places l.channels first_place l.parts;
  small : l.place ≤ 20 + 17179869188 * l.part-index;
}
