-- The bytes of the chunks of added sound are those of the WAV, in their order, and each chunk lies in the file.
use Rattle.std.proofs.Common.{◌≡◌, refl, ℕ, ◌+◌, ◌-◌, ◌*◌, ◌≤◌, ◌<◌, ◌^◌, false, nat_lt, List, [], ◌∷◌, ◌++◌, length, take, drop, arith, sym, ap, ◌∙◌}
use Rattle.std.specs.List.{AllByRecursion, flat_map}
use Rattle.std.proofs.Math.Nat.{mul-add, le-mul_of_pos_right}
use Rattle.std.proofs.Math.Seq.{take-append-add}
use Rattle.std.proofs.lemmas.Bool.{le-ltb}
use Rattle.std.proofs.lemmas.List.{length-take, length-drop, take-append-drop, length-take-le}
use Rattle.std.proofs.lemmas.List.Sums.{sum_by-cons}
use Rattle.qt_tables.specs.Samples.{Chunk}
use Rattle.pcm_track.specs.declared.parts.Part.{Part}
use Rattle.pcm_track.specs.declared.parts.Part.TheVariants as parts
use Rattle.pcm_track.specs.declared.end.SoundEnd.TheVariants as ends
use Rattle.pcm_track.specs.Wav.{frame_size, sound_size}
use Rattle.pcm_track.specs.Writing.{first_bytes}
use Rattle.pcm_track.specs.Adding.{sound_places, chunk_frames}
use Rattle.pcm_track.specs.Sounding.{chunk_bytes, chunks_end}
use Rattle.pcm_track.proofs.DataAtoms.{length-first}
use Rattle.sound_round.proofs.Bodies.{Lie, AreThere, Fit, first-there}
use Rattle.sound_round.proofs.SoundRuns.{chunks_at}
use Rattle.sound_round.proofs.SoundShares.{total}

-- the chunks of sound of some parts, with the first data atom at an offset
abbrev pub sound_chunks : (channels place : ℕ) → List Part → List Chunk
sound_chunks channels place xs = chunks_at (sound_places channels place xs) (chunk_frames xs)

-- their number of bytes
abbrev pub bytes_of_sound : (channels : ℕ) → List Part → ℕ
bytes_of_sound channels xs = sound_size channels (total (chunk_frames xs))

-- ---- sizes

none-of : (channels : ℕ) → sound_size channels 0 ≡ 0
none-of channels = omega arith

size-of : (channels n : ℕ) (xs : List Part) → bytes_of_sound channels (parts.Sound n ∷ xs) ≡ sound_size channels n + bytes_of_sound channels xs
size-of channels n xs = ap (sound_size channels) (sum_by-cons (λ (m : ℕ). m) n (chunk_frames xs)) ∙ mul-add (frame_size channels) n (total (chunk_frames xs))

some-of : (channels n : ℕ) → 1 ≤ channels → 1 ≤ n → 1 ≤ sound_size channels n
some-of channels n c h = let more : frame_size channels ≤ frame_size channels * n = le-mul_of_pos_right (frame_size channels) (omega (arith, h)) in omega (arith, more, c)

both-fit : (front behind all left whole : ℕ) → all ≡ front + behind → front ≤ whole → left ≡ whole - front → behind ≤ left → all ≤ whole
both-fit front behind all left whole e f g h = omega arith

-- ---- bytes

-- some bytes, and more after them
take-both : (n m : ℕ) (bytes : List ℕ) → n ≤ length bytes → take n bytes ++ take m (drop n bytes) ≡ take (n + m) bytes
take-both n m bytes le =
    let front = take n bytes in
    let long : length front ≡ n = length-take-le n bytes le in
    sym (take-append-add front (drop n bytes) m) ∙ ap (λ (k : ℕ). take (k + m) (front ++ drop n bytes)) long ∙ ap (take (n + m)) (take-append-drop n bytes)

-- a chunk with these bytes lies in the file
record ChunkLies (out : List ℕ) (place n : ℕ) (sound : List ℕ) : Type 0 where
  within : place + n ≤ length out
  bytes : first_bytes n (drop place out) ≡ take n sound

chunk-lies : (out : List ℕ) (place n : ℕ) (sound : List ℕ) → 1 ≤ n → n ≤ length sound → take n (drop place out) ≡ first_bytes n sound → ChunkLies out place n sound
chunk-lies out place n sound some there e =
    let long : n ≤ length (drop place out) = omega (arith, length-take n (drop place out), ap length e, length-first n sound) in
    record {
      within = omega (arith, long, length-drop place out, some);
      bytes = first-there n (drop place out) long ∙ e ∙ first-there n sound there;
    }

-- ---- all chunks

-- In a file with the bodies of some parts, the chunks of sound are a prefix of the sound.
pub record SoundLies (out : List ℕ) (channels place : ℕ) (xs : List Part) (sound : List ℕ) : Type 0 where
  pub some : bytes_of_sound channels xs ≤ length sound
  pub bytes : flat_map (chunk_bytes out channels) (sound_chunks channels place xs) ≡ take (bytes_of_sound channels xs) sound
  pub within : chunks_end out channels (sound_chunks channels place xs) ≡ ends.Done

pub sound-lies : (out file : List ℕ) (channels place : ℕ) (xs : List Part) (sound : List ℕ) → 1 ≤ channels → AllByRecursion (λ n. 1 ≤ n) (chunk_frames xs) → Lie out file channels place xs sound → AreThere file channels xs sound
    → SoundLies out channels place xs sound
sound-lies out file channels place [] sound c filled lie there = record {
  some = omega (arith, none-of channels);
  bytes = ap (λ (n : ℕ). take n sound) (sym (none-of channels));
  within = refl;
}
sound-lies out file channels place (parts.Picture s ∷ xs) sound c filled lie there =
    let q = sound-lies out file channels (place + (8 + s.size)) xs sound c filled lie.1 there.1 in
    record { some = q.some; bytes = q.bytes; within = q.within }
sound-lies out file channels place (parts.Sound n ∷ xs) sound c filled lie there =
    let k = sound_size channels n in
    let behind = bytes_of_sound channels xs in
    let q = sound-lies out file channels (place + (8 + k)) xs (drop k sound) c filled.1 lie.1 there.1 in
    let here : ChunkLies out (place + 8) k sound = chunk-lies out (place + 8) k sound (some-of channels n c filled.0) there.0 lie.0 in
    let size = size-of channels n xs in
    let fits : nat_lt (length out) ((place + 8) + k) ≡ false = le-ltb _ _ here.within in
    record {
      some = both-fit k behind (bytes_of_sound channels (parts.Sound n ∷ xs)) (length (drop k sound)) (length sound) size there.0 (length-drop k sound) q.some;
      bytes = ap (λ (l : List ℕ). l ++ flat_map (chunk_bytes out channels) (sound_chunks channels (place + (8 + k)) xs)) here.bytes
          ∙ ap (λ (l : List ℕ). take k sound ++ l) q.bytes
          ∙ take-both k behind sound there.0
          ∙ ap (λ (m : ℕ). take m sound) (sym size);
      within = rw fits q.within;
    }

-- ---- the offsets

pub places-near : (channels place : ℕ) (xs : List Part) → Fit channels xs → place + 8 + 4294967296 * length xs < 2 ^ 62 → AllByRecursion (λ at. at < 2 ^ 62) (sound_places channels place xs)
places-near channels place [] h near = tt
places-near channels place (parts.Picture s ∷ xs) h near = places-near channels (place + (8 + s.size)) xs h.1 (omega (arith, near, h.0))
places-near channels place (parts.Sound n ∷ xs) h near = (omega (arith, near), places-near channels (place + (8 + sound_size channels n)) xs h.1 (omega (arith, near, h.0)))
