-- Samples with their sound.
use Rattle.std.proofs.Common.{◌≡◌, refl, ℕ, zero, suc, ◌+◌, ◌-◌, ◌*◌, ◌/◌, ◌≤◌, Bool, true, false, if◌then◌else◌, ◌==◌, List, [], ◌∷◌, ◌++◌, length, take, drop, get_or, Some, ◌<◌, arith, sym, ap, ◌∙◌, append_assoc}
use Rattle.std.specs.Prelude.{slice_get}
use Rattle.std.specs.List.{sum_by, All}
use Rattle.std.proofs.Math.Seq.{drop-cons}
use Rattle.std.proofs.lemmas.List.{take_all, length-drop}
use borrow.Author.Tests.{eqb-true}
use Rattle.std.proofs.Math.Nat.{min-le_right, mul-le-mul_right}
use Rattle.std.proofs.lemmas.List.Sums.{sum_by-cons}
use Rattle.std.proofs.lemmas.List.Elements.{All-nil, All-cons, All-head, All-tail}
use Rattle.qt_tables.specs.declared.tables.TheConstants.{MAX_SAMPLES}
use Rattle.qt_tables.specs.declared.runs.Sample.{Sample}
use Rattle.pcm_track.specs.declared.form.Pcm.{Pcm}
use Rattle.pcm_track.specs.declared.parts.Part.{Part}
use Rattle.pcm_track.specs.declared.parts.Part.TheVariants as parts
use Rattle.pcm_track.specs.Adding.{border, sound_end, with_sound, parts_from, parts_of, part_frames, chunk_frames, picture_places, sound_places, part_size, IsNear, IsPartNear}
use Rattle.pcm_track.proofs.Borders.{div-up}

-- sound before other parts
sound-in : (b : Bool) (n : ℕ) (others : List Part) → (if b then [] else parts.Sound n ∷ []) ++ others ≡ (if b then others else parts.Sound n ∷ others)
sound-in true n others = refl
sound-in false n others = refl

pub sound-then : (n : ℕ) (others : List Part) → with_sound n [] ++ others ≡ with_sound n others
sound-then n others = sound-in (n == 0) n others

-- one more sample with its sound
pub beside-more : (found total rest : List Part) (s : Sample) (n : ℕ) → found ++ (parts.Picture s ∷ with_sound n rest) ≡ total → ((found ++ parts.Picture s ∷ []) ++ with_sound n []) ++ rest ≡ total
beside-more found total rest s n e =
    append_assoc (found ++ parts.Picture s ∷ []) (with_sound n []) rest
    ∙ ap (λ l. (found ++ parts.Picture s ∷ []) ++ l) (sound-then n rest)
    ∙ append_assoc found (parts.Picture s ∷ []) (with_sound n rest)
    ∙ e

-- one more sample, in the form of the loop
pub beside-step : (timescale : ℕ) (p : Pcm) (ahead xs : List Sample) (s : Sample) (time time' n start end : ℕ) (found pushed found' total : List Part)
    → ahead ≡ s ∷ xs → time' ≡ time + s.duration → start ≡ border timescale p time → end ≡ sound_end timescale p time' xs → n ≡ end - start
    → pushed ≡ found ++ parts.Picture s ∷ [] → found' ≡ pushed ++ with_sound n [] → found ++ parts_from timescale p time ahead ≡ total → found' ++ parts_from timescale p time' xs ≡ total
beside-step timescale p ahead xs s time time' n start end found pushed found' total a t b c d e f so_far =
    let all = sound_end timescale p (time + s.duration) xs - border timescale p time in
    let more : ((found ++ parts.Picture s ∷ []) ++ with_sound all []) ++ parts_from timescale p (time + s.duration) xs ≡ total =
    beside-more found total (parts_from timescale p (time + s.duration) xs) s all (sym (ap (λ l. found ++ parts_from timescale p time l) a) ∙ so_far) in
    let number : n ≡ all = d ∙ ap (λ k. k - start) (c ∙ ap (λ k. sound_end timescale p k xs) t) ∙ ap (λ k. sound_end timescale p (time + s.duration) xs - k) b in
    let front : found' ≡ (found ++ parts.Picture s ∷ []) ++ with_sound all [] = f ∙ ap (λ l. l ++ with_sound n []) e ∙ ap (λ k. (found ++ parts.Picture s ∷ []) ++ with_sound k []) number in
    ap (λ l. l ++ parts_from timescale p time' xs) front ∙ ap (λ k. ((found ++ parts.Picture s ∷ []) ++ with_sound all []) ++ parts_from timescale p k xs) t ∙ more

-- ---- lists, element by element

pub drop-at : {X : Type 0} (xs : List X) (i : ℕ) (d : X) → i < length xs → drop i xs ≡ get_or xs i d ∷ drop (i + 1) xs
drop-at xs i d h = drop-cons xs i d h ∙ ap (λ k. get_or xs i d ∷ drop k xs) (let e : suc i ≡ i + 1 = omega arith in e)

pub rest-all : {X : Type 0} (xs : List X) (k : ℕ) → take (length xs - k) (drop k xs) ≡ drop k xs
rest-all xs k = take_all (length xs - k) (drop k xs) (omega (arith, length-drop k xs))

pub take-more : {X : Type 0} (xs : List X) (i : ℕ) (x : X) → slice_get xs i ≡ Some x → take (i + 1) xs ≡ take i xs ++ x ∷ []
take-more [] zero x e = absurd cc
take-more [] (suc i) x e = absurd cc
take-more (y ∷ ys) zero x e = (let same : y ≡ x = cc in ap (λ z. z ∷ []) same)
take-more (y ∷ ys) (suc i) x e = let k : suc i + 1 ≡ suc (i + 1) = omega arith in rw k (ap (λ l. y ∷ l) (take-more ys i x e))

-- ---- all sound is given out

pub border-few : (timescale : ℕ) (p : Pcm) (time : ℕ) → border timescale p time ≤ p.frames
border-few timescale p time = min-le_right (time * p.rate / timescale) p.frames

pub border-up : (timescale : ℕ) (p : Pcm) (time d : ℕ) → 1 ≤ timescale → border timescale p time ≤ border timescale p (time + d)
border-up timescale p time d h =
    let more : time * p.rate ≤ (time + d) * p.rate = mul-le-mul_right p.rate (omega arith) in
    omega (arith, div-up (time * p.rate) ((time + d) * p.rate) timescale h more)

frames-in : (b : Bool) (n : ℕ) (others : List Part) → (n == 0) ≡ b → sum_by part_frames (if b then others else parts.Sound n ∷ others) ≡ n + sum_by part_frames others
frames-in true n others e = omega (arith, eqb-true n 0 e)
frames-in false n others e = sum_by-cons part_frames (parts.Sound n) others

pub frames-sound : (n : ℕ) (others : List Part) → sum_by part_frames (with_sound n others) ≡ n + sum_by part_frames others
frames-sound n others = frames-in (n == 0) n others refl

pub frames-from : (timescale : ℕ) (p : Pcm) (time : ℕ) (s : Sample) (ss : List Sample) → 1 ≤ timescale → sum_by part_frames (parts_from timescale p time (s ∷ ss)) + border timescale p time ≡ p.frames
frames-from timescale p time s [] h =
    omega (arith, sum_by-cons part_frames (parts.Picture s) (with_sound (p.frames - border timescale p time) []), frames-sound (p.frames - border timescale p time) [], border-few timescale p time)
frames-from timescale p time s (r ∷ rs) h =
    let n = border timescale p (time + s.duration) - border timescale p time in
    let rest = parts_from timescale p (time + s.duration) (r ∷ rs) in
    omega (arith, sum_by-cons part_frames (parts.Picture s) (with_sound n rest), frames-sound n rest, frames-from timescale p (time + s.duration) r rs h, border-up timescale p time s.duration h)

pub frames-of : (timescale : ℕ) (p : Pcm) (ss : List Sample) → 1 ≤ timescale → sum_by part_frames (parts_of timescale p ss) ≤ p.frames
frames-of timescale p [] h = omega (arith, frames-sound p.frames [])
frames-of timescale p (s ∷ ss) h = omega (arith, frames-from timescale p 0 s ss h)

-- ---- the number of parts

length-sound-in : (b : Bool) (n : ℕ) (others : List Part) → length (if b then others else parts.Sound n ∷ others) ≤ suc (length others)
length-sound-in true n others = omega arith
length-sound-in false n others = omega arith

pub parts-few : (timescale : ℕ) (p : Pcm) (time : ℕ) (ss : List Sample) → length (parts_from timescale p time ss) ≤ 2 * length ss
parts-few timescale p time [] = omega arith
parts-few timescale p time (s ∷ ss) =
    let n = sound_end timescale p (time + s.duration) ss - border timescale p time in
    let rest = parts_from timescale p (time + s.duration) ss in
    omega (arith, length-sound-in (n == 0) n rest, parts-few timescale p (time + s.duration) ss)

pub parts-of-few : (timescale : ℕ) (p : Pcm) (ss : List Sample) → length ss ≤ MAX_SAMPLES → length (parts_of timescale p ss) ≤ 2000001
parts-of-few timescale p [] h = omega (arith, length-sound-in (p.frames == 0) p.frames [])
parts-of-few timescale p (s ∷ ss) h = omega (arith, parts-few timescale p 0 (s ∷ ss))

chunks-sound-in : (b : Bool) (n : ℕ) (others : List Part) → length (chunk_frames (if b then others else parts.Sound n ∷ others)) ≤ suc (length (chunk_frames others))
chunks-sound-in true n others = omega arith
chunks-sound-in false n others = omega arith

pub chunks-few : (timescale : ℕ) (p : Pcm) (time : ℕ) (ss : List Sample) → length (chunk_frames (parts_from timescale p time ss)) ≤ length ss
chunks-few timescale p time [] = omega arith
chunks-few timescale p time (s ∷ ss) =
    let n = sound_end timescale p (time + s.duration) ss - border timescale p time in
    let rest = parts_from timescale p (time + s.duration) ss in
    omega (arith, chunks-sound-in (n == 0) n rest, chunks-few timescale p (time + s.duration) ss)

pub chunks-of-few : (timescale : ℕ) (p : Pcm) (ss : List Sample) → length ss ≤ MAX_SAMPLES → length (chunk_frames (parts_of timescale p ss)) ≤ MAX_SAMPLES
chunks-of-few timescale p [] h = omega (arith, chunks-sound-in (p.frames == 0) p.frames [])
chunks-of-few timescale p (s ∷ ss) h = omega (arith, chunks-few timescale p 0 (s ∷ ss))

-- as many offsets as chunks
pub sounds-many : (channels place : ℕ) (xs : List Part) → length (sound_places channels place xs) ≡ length (chunk_frames xs)
sounds-many channels place [] = refl
sounds-many channels place (parts.Picture s ∷ xs) = sounds-many channels (place + (8 + s.size)) xs
sounds-many channels place (parts.Sound n ∷ xs) = ap suc (sounds-many channels (place + (8 + part_size channels (parts.Sound n))) xs)

pictures-in : (b : Bool) (channels place n : ℕ) (others : List Part) (m : ℕ) → ((at : ℕ) → length (picture_places channels at others) ≡ m) → length (picture_places channels place (if b then others else parts.Sound n ∷ others)) ≡ m
pictures-in true channels place n others m h = h place
pictures-in false channels place n others m h = h (place + (8 + part_size channels (parts.Sound n)))

pub pictures-from : (timescale : ℕ) (p : Pcm) (time : ℕ) (ss : List Sample) (channels place : ℕ) → length (picture_places channels place (parts_from timescale p time ss)) ≡ length ss
pictures-from timescale p time [] channels place = refl
pictures-from timescale p time (s ∷ ss) channels place =
    let n = sound_end timescale p (time + s.duration) ss - border timescale p time in
    ap suc (pictures-in (n == 0) channels (place + (8 + s.size)) n (parts_from timescale p (time + s.duration) ss) (length ss) (λ at. pictures-from timescale p (time + s.duration) ss channels at))

pub pictures-of : (timescale : ℕ) (p : Pcm) (ss : List Sample) (channels place : ℕ) → length (picture_places channels place (parts_of timescale p ss)) ≡ length ss
pictures-of timescale p [] channels place = pictures-in (p.frames == 0) channels place p.frames [] 0 (λ at. refl)
pictures-of timescale p (s ∷ ss) channels place = pictures-from timescale p 0 (s ∷ ss) channels place

-- ---- the offsets of samples

near-in : (b : Bool) (n : ℕ) (others : List Part) → All IsPartNear others → All IsPartNear (if b then others else parts.Sound n ∷ others)
near-in true n others h = h
near-in false n others h = All-cons IsPartNear (parts.Sound n) others tt h

pub near-from : (timescale : ℕ) (p : Pcm) (time : ℕ) (ss : List Sample) → All IsNear ss → All IsPartNear (parts_from timescale p time ss)
near-from timescale p time [] h = All-nil IsPartNear
near-from timescale p time (s ∷ ss) h =
    let n = sound_end timescale p (time + s.duration) ss - border timescale p time in
    let rest = parts_from timescale p (time + s.duration) ss in
    All-cons IsPartNear (parts.Picture s) (with_sound n rest) (All-head IsNear s ss h) (near-in (n == 0) n rest (near-from timescale p (time + s.duration) ss (All-tail IsNear s ss h)))

pub near-of : (timescale : ℕ) (p : Pcm) (ss : List Sample) → All IsNear ss → All IsPartNear (parts_of timescale p ss)
near-of timescale p [] h = near-in (p.frames == 0) p.frames [] (All-nil IsPartNear)
near-of timescale p (s ∷ ss) h = near-from timescale p 0 (s ∷ ss) h
