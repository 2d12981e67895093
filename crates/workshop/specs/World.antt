-- What contracts see of the six ports and of the monitors at one time, and what every run keeps of it. Our own
-- definitions.
use Rattle.std.specs.Prelude.{◌≡◌, ℕ, Bool, true, false, List, Option, Ok, Err}
use Rattle.std.specs.Bool.{OnTrue, OnFalse}
use Rattle.std.specs.Io.KnownBytes.{IsAtEnd}
use Rattle.pw_outside.specs.Writing.{SinkState, sink_state, Extends}
use Rattle.monitors.specs.States.{State}
use Rattle.run_encode.specs.Outputs as encoding
use Rattle.run_decode.specs.Running as decoding
use Rattle.rescue_run.specs.Rescuing as rescuing
use Rattle.workshop.specs.declared.words.Task.{Task}
use Rattle.workshop.specs.declared.words.Task.TheVariants as task
use Rattle.workshop.specs.declared.status.Status.{Status}
use Rattle.workshop.specs.Status.{is_done, is_read_fault, is_settled, is_write_fault, has_written}
use Rattle.workshop.specs.Words.{Said, Ports, no_ports, uses_of, uses_in, tells_monitors}
use Rattle.workshop.specs.Faults.{Faults, faults, CountsReads, CountsWrites, Settles}

-- the number of bytes that each sink has flushed
pub record Flushed : Type 0 where
  pub out : ℕ
  pub cert : ℕ
  pub text : ℕ

-- The bytes left in each source and those of the movie, where they are visible; the state of each sink; the monitors
-- in the list, by their states; and the fault counts.
pub record World : Type 0 where
  pub pictures : Option (List ℕ)
  pub proof : Option (List ℕ)
  pub movie : Option (List ℕ)
  pub out : SinkState
  pub cert : SinkState
  pub text : SinkState
  pub flushed : Flushed
  pub states : List State
  pub faults : Faults

-- the world of these ports, by what contracts see of a source, of a store and of a sink
abbrev pub world : {S M K : Type 0} → (left : S → Option (List ℕ)) → (S → ℕ) → (bytes : M → Option (List ℕ)) → (M → ℕ)
    → (held : K → Option (List ℕ)) → (taken settled : K → ℕ) → (K → ℕ) → S → S → M → K → K → K → List State → World
world left source bytes store held taken settled sink pictures proof movie out cert text states = record {
  pictures = left pictures;
  proof = left proof;
  movie = bytes movie;
  out = sink_state (held out) (taken out);
  cert = sink_state (held cert) (taken cert);
  text = sink_state (held text) (taken text);
  flushed = record { out = settled out; cert = settled cert; text = settled text };
  states = states;
  faults = faults source store sink pictures proof movie out cert text;
}

-- ---- the parts that one run has

-- the sinks of `encode`
abbrev pub outputs_in : World → encoding.Outputs
outputs_in w = record { movie = w.out; proof = w.cert; text = w.text }

-- the sinks and the monitors of `decode`
abbrev pub decode_in : World → decoding.World
decode_in w = record { out = w.out; text = w.text; states = w.states }

-- the sinks of `rescue`
abbrev pub rescue_in : World → rescuing.World
rescue_in w = record { out = w.out; text = w.text }

-- ---- what a run leaves as it was

-- the ports and the list of monitors that a call is given
pub record Given (S M K L : Type 0) : Type 0 where
  pub pictures : S
  pub proof : S
  pub movie : M
  pub out : K
  pub cert : K
  pub text : K
  pub monitors : L

abbrev pub given : {S M K L : Type 0} → S → S → M → K → K → K → L → Given S M K L
given pictures proof movie out cert text monitors = record {
  pictures = pictures;
  proof = proof;
  movie = movie;
  out = out;
  cert = cert;
  text = text;
  monitors = monitors;
}

-- The ports that a run with this status has used: those of its command; but `plan` writes nothing unless it found a
-- table's best choice, and none if the words have an error.
abbrev pub used_of : Task → Status → Ports
used_of task.Plan status = record no_ports { proof = true; text = has_written status }
used_of t status = uses_of t

abbrev pub used_in : Said → Status → Ports
used_in (Ok s) status = used_of s.0 status
used_in (Err fault) status = no_ports

-- A port that the run didn't use is unchanged, and so are the monitors if the command reports nothing to them.
pub record Unused {S M K L : Type 0} (said : Said) (before after : Given S M K L) (status : Status) : Type 0 where
  pub pictures : OnFalse (used_in said status).pictures (after.pictures ≡ before.pictures)
  pub proof : OnFalse (used_in said status).proof (after.proof ≡ before.proof)
  pub movie : OnFalse (used_in said status).movie (after.movie ≡ before.movie)
  pub out : OnFalse (used_in said status).out (after.out ≡ before.out)
  pub cert : OnFalse (used_in said status).cert (after.cert ≡ before.cert)
  pub text : OnFalse (used_in said status).text (after.text ≡ before.text)
  pub monitors : OnFalse (tells_monitors said) (after.monitors ≡ before.monitors)

-- ---- what every run keeps

-- whether the command reads `pictures` to its end: not a WAV, of which something may follow the sound
abbrev pub ends_pictures : Task → Bool
ends_pictures (task.Encode w) = true
ends_pictures task.CheckAll = true
ends_pictures _ = false

abbrev pub ends_pictures_in : Said → Bool
ends_pictures_in (Ok s) = ends_pictures s.0
ends_pictures_in (Err fault) = false

-- Whatever the inputs hold, and whether they are visible or opaque:
pub record KeepsPorts (said : Said) (before after : World) (status : Status) : Type 0 where
  -- each sink extends what it held;
  pub out : Extends before.out after.out
  pub cert : Extends before.cert after.cert
  pub text : Extends before.text after.text
  -- the movie's bytes are unchanged;
  pub movie : after.movie ≡ before.movie
  -- the status is ReadFault only if the fault count of a port that the command reads rose, WriteFault only if that of
  -- one that it writes did, and every other status leaves all counts unchanged;
  pub read : CountsReads (uses_in said) before.faults after.faults (is_read_fault status)
  pub write : CountsWrites (uses_in said) before.faults after.faults (is_write_fault status)
  -- after Done and TooSmall each sink that the command writes has flushed all that it took;
  pub out_flushed : OnTrue (is_settled status) (Settles (uses_in said).out after.flushed.out after.out.taken)
  pub cert_flushed : OnTrue (is_settled status) (Settles (uses_in said).cert after.flushed.cert after.cert.taken)
  pub text_flushed : OnTrue (is_settled status) (Settles (uses_in said).text after.flushed.text after.text.taken)
  -- after Done each source that the command reads, a WAV excepted, was read to its end.
  pub proof_ended : OnTrue (uses_in said).proof (OnTrue (is_done status) (IsAtEnd after.proof))
  pub pictures_ended : OnTrue (ends_pictures_in said) (OnTrue (is_done status) (IsAtEnd after.pictures))
