-- The samples of a movie with sound, as they are written.
use Rattle.std.proofs.Common.{◌≡◌, refl, ℕ, ◌+◌, ◌-◌, ◌*◌, ◌≤◌, ◌<◌, ◌^◌, Bool, true, false, if◌then◌else◌, List, [], ◌∷◌, ◌++◌, length, take, drop, map, arith, ap, ◌∙◌}
use Rattle.std.specs.Prelude.{◌==◌, replicate}
use Rattle.std.specs.List.{AllByRecursion}
use Rattle.std.proofs.lemmas.List.{length-drop}
use Rattle.qt_atoms.specs.Atoms.{bytes_in}
use Rattle.qt_tables.specs.declared.runs.Sample.{Sample}
use Rattle.pcm_track.specs.declared.form.Pcm.{Pcm}
use Rattle.pcm_track.specs.declared.parts.Part.{Part}
use Rattle.pcm_track.specs.declared.parts.Part.TheVariants as parts
use Rattle.pcm_track.specs.Wav.{sound_size}
use Rattle.pcm_track.specs.Adding.{border, sound_end, parts_from, parts_of, part_size, picture_places}
use Rattle.sound_round.specs.Laws.{sample_bytes}
use Rattle.sound_round.proofs.Bodies.{Lie, AreThere, Fit, first-there}

-- ---- the samples of parts

abbrev sample_of : Part → List Sample
sample_of (parts.Picture s) = s ∷ []
sample_of (parts.Sound n) = []

abbrev pub samples_of : List Part → List Sample
samples_of [] = []
samples_of (x ∷ xs) = sample_of x ++ samples_of xs

given-in : (b : Bool) (n : ℕ) (xs : List Part) → samples_of (if b then xs else parts.Sound n ∷ xs) ≡ samples_of xs
given-in true n xs = refl
given-in false n xs = refl

given-from : (timescale : ℕ) (p : Pcm) (time : ℕ) (ss : List Sample) → samples_of (parts_from timescale p time ss) ≡ ss
given-from timescale p time [] = refl
given-from timescale p time (s ∷ ss) =
    let n = sound_end timescale p (time + s.duration) ss - border timescale p time in
    ap (λ l. s ∷ l) (given-in (n == 0) n (parts_from timescale p (time + s.duration) ss) ∙ given-from timescale p (time + s.duration) ss)

-- the parts have all samples, in their order
pub samples-given : (timescale : ℕ) (p : Pcm) (ss : List Sample) → samples_of (parts_of timescale p ss) ≡ ss
samples-given timescale p [] = given-in (p.frames == 0) p.frames []
samples-given timescale p (s ∷ ss) = given-from timescale p 0 (s ∷ ss)

-- ---- their offsets

-- a sample at another offset, with the first description
abbrev pub moved : (at : ℕ) → Sample → Sample
moved at s = record { at = at; size = s.size; duration = s.duration; description = 1 }

abbrev moved_of : (place : ℕ) → Part → List Sample
moved_of place (parts.Picture s) = moved (place + 8) s ∷ []
moved_of place (parts.Sound n) = []

-- the samples as they are written, with the first data atom at an offset
abbrev pub moved_from : (channels place : ℕ) → List Part → List Sample
moved_from channels place [] = []
moved_from channels place (x ∷ xs) = moved_of place x ++ moved_from channels (place + (8 + part_size channels x)) xs

pub moved-places : (channels place : ℕ) (xs : List Part) → picture_places channels place xs ≡ map (λ (s : Sample). s.at) (moved_from channels place xs)
moved-places channels place [] = refl
moved-places channels place (parts.Picture s ∷ xs) = ap (λ l. (place + 8) ∷ l) (moved-places channels (place + (8 + s.size)) xs)
moved-places channels place (parts.Sound n ∷ xs) = moved-places channels (place + (8 + sound_size channels n)) xs

-- facts that don't depend on the offset
pub moved-same : {X : Type 0} (f : Sample → X) → ((at : ℕ) (s : Sample) → f (moved at s) ≡ f s) → (channels place : ℕ) (xs : List Part) → map f (moved_from channels place xs) ≡ map f (samples_of xs)
moved-same f h channels place [] = refl
moved-same f h channels place (parts.Picture s ∷ xs) =
    ap (λ x. x ∷ map f (moved_from channels (place + (8 + s.size)) xs)) (h (place + 8) s) ∙ ap (λ l. f s ∷ l) (moved-same f h channels (place + (8 + s.size)) xs)
moved-same f h channels place (parts.Sound n ∷ xs) = moved-same f h channels (place + (8 + sound_size channels n)) xs

pub moved-described : (channels place : ℕ) (xs : List Part) → AllByRecursion (λ (s : Sample). s.description ≡ 1) (moved_from channels place xs)
moved-described channels place [] = tt
moved-described channels place (parts.Picture s ∷ xs) = (refl, moved-described channels (place + (8 + s.size)) xs)
moved-described channels place (parts.Sound n ∷ xs) = moved-described channels (place + (8 + sound_size channels n)) xs

pub moved-near : (channels place : ℕ) (xs : List Part) → Fit channels xs → place + 8 + 4294967296 * length xs < 2 ^ 62 → AllByRecursion (λ (s : Sample). s.at < 2 ^ 62) (moved_from channels place xs)
moved-near channels place [] h near = tt
moved-near channels place (parts.Picture s ∷ xs) h near = (omega (arith, near), moved-near channels (place + (8 + s.size)) xs h.1 (omega (arith, near, h.0)))
moved-near channels place (parts.Sound n ∷ xs) h near = moved-near channels (place + (8 + sound_size channels n)) xs h.1 (omega (arith, near, h.0))

pub sizes-small : (channels : ℕ) (xs : List Part) → Fit channels xs → AllByRecursion (λ size. size < 2 ^ 32) (map (λ (s : Sample). s.size) (samples_of xs))
sizes-small channels [] h = tt
sizes-small channels (parts.Picture s ∷ xs) h = (omega (arith, h.0), sizes-small channels xs h.1)
sizes-small channels (parts.Sound n ∷ xs) h = sizes-small channels xs h.1

-- ---- their bytes

same-bytes : (out file : List ℕ) (place : ℕ) (s : Sample) → s.at + s.size ≤ length file → bytes_in s.size out (place + 8) ≡ take s.size (drop s.at file ++ replicate s.size 0)
    → sample_bytes out (moved (place + 8) s) ≡ sample_bytes file s
same-bytes out file place s there e = e ∙ first-there s.size (drop s.at file) (omega (arith, there, length-drop s.at file))

-- each sample keeps its bytes
pub moved-bytes : (out file : List ℕ) (channels place : ℕ) (xs : List Part) (sound : List ℕ) → Lie out file channels place xs sound → AreThere file channels xs sound
    → map (sample_bytes out) (moved_from channels place xs) ≡ map (sample_bytes file) (samples_of xs)
moved-bytes out file channels place [] sound lie there = refl
moved-bytes out file channels place (parts.Picture s ∷ xs) sound lie there =
    ap (λ x. x ∷ map (sample_bytes out) (moved_from channels (place + (8 + s.size)) xs)) (same-bytes out file place s there.0.0 lie.0)
    ∙ ap (λ l. sample_bytes file s ∷ l) (moved-bytes out file channels (place + (8 + s.size)) xs sound lie.1 there.1)
moved-bytes out file channels place (parts.Sound n ∷ xs) sound lie there =
    moved-bytes out file channels (place + (8 + sound_size channels n)) xs (drop (sound_size channels n) sound) lie.1 there.1
