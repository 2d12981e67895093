-- The fault counts of the six ports. Our own definitions.
use Rattle.std.specs.Prelude.{◌≡◌, ℕ, ◌≤◌, ◌⊎◌, Bool, IsTrue}
use Rattle.std.specs.Bool.{OnTrue, OnFalse}
use Rattle.pw_outside.specs.Ports.{Rose}
use Rattle.workshop.specs.Words.{Ports}

-- the count of each port
pub record Faults : Type 0 where
  pub pictures : ℕ
  pub proof : ℕ
  pub movie : ℕ
  pub out : ℕ
  pub cert : ℕ
  pub text : ℕ

-- the counts of these ports, by the fault counters of a source, of a store and of a sink
abbrev pub faults : {S M K : Type 0} → (S → ℕ) → (M → ℕ) → (K → ℕ) → S → S → M → K → K → K → Faults
faults source store sink pictures proof movie out cert text = record {
  pictures = source pictures;
  proof = source proof;
  movie = store movie;
  out = sink out;
  cert = sink cert;
  text = sink text;
}

-- the port is used, and its count rose
abbrev pub RoseOf : Bool → ℕ → ℕ → Type 0
RoseOf used before now = IsTrue used × Rose before now

-- The counts of the ports that can be read. None falls. If the call failed, that of a port that the command reads
-- rose; otherwise all are unchanged.
pub record CountsReads (uses : Ports) (before now : Faults) (failed : Bool) : Type 0 where
  pub pictures : before.pictures ≤ now.pictures
  pub proof : before.proof ≤ now.proof
  pub movie : before.movie ≤ now.movie
  pub rose : OnTrue failed (RoseOf uses.pictures before.pictures now.pictures ⊎ RoseOf uses.proof before.proof now.proof ⊎ RoseOf uses.movie before.movie now.movie)
  pub kept : OnFalse failed ((now.pictures ≡ before.pictures) × (now.proof ≡ before.proof) × (now.movie ≡ before.movie))

-- The same for the ports that can be written.
pub record CountsWrites (uses : Ports) (before now : Faults) (failed : Bool) : Type 0 where
  pub out : before.out ≤ now.out
  pub cert : before.cert ≤ now.cert
  pub text : before.text ≤ now.text
  pub rose : OnTrue failed (RoseOf uses.out before.out now.out ⊎ RoseOf uses.cert before.cert now.cert ⊎ RoseOf uses.text before.text now.text)
  pub kept : OnFalse failed ((now.out ≡ before.out) × (now.cert ≡ before.cert) × (now.text ≡ before.text))

-- The count of no port that the command uses rose.
pub record NoPortFailed (uses : Ports) (before now : Faults) : Type 0 where
  pub pictures : OnTrue uses.pictures (Rose before.pictures now.pictures → ⊥)
  pub proof : OnTrue uses.proof (Rose before.proof now.proof → ⊥)
  pub movie : OnTrue uses.movie (Rose before.movie now.movie → ⊥)
  pub out : OnTrue uses.out (Rose before.out now.out → ⊥)
  pub cert : OnTrue uses.cert (Rose before.cert now.cert → ⊥)
  pub text : OnTrue uses.text (Rose before.text now.text → ⊥)

-- if the command writes the sink, all that it took is flushed
abbrev pub Settles : Bool → ℕ → ℕ → Type 0
Settles used settled taken = OnTrue used (settled ≡ taken)
