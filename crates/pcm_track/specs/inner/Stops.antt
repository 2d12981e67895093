-- Why copying stopped.
use Rattle.std.specs.Prelude.{Bool, true, false, Result, Err}
use Rattle.pcm_track.specs.declared.copying.Stop.{Stop}
use Rattle.pcm_track.specs.declared.copying.Stop.TheVariants as stops

abbrev pub is_stopped_by_store : {X : Type 0} → Result X Stop → Bool
is_stopped_by_store (Err stops.Store) = true
is_stopped_by_store _ = false

abbrev pub is_stopped_by_sink : {X : Type 0} → Result X Stop → Bool
is_stopped_by_sink (Err stops.Sink) = true
is_stopped_by_sink _ = false

abbrev pub is_short : {X : Type 0} → Result X Stop → Bool
is_short (Err stops.Short) = true
is_short _ = false
