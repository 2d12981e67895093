-- The sound of a movie with sound is extracted.
use Rattle.std.proofs.Common.{◌≡◌, refl, ℕ, ◌+◌, ◌*◌, ◌≤◌, ◌<◌, ◌^◌, false, nat_lt, List, [], ◌∷◌, ◌++◌, length, map, take, Ok, arith, sym, ap, subst, ◌∙◌}
use Rattle.std.specs.Prelude.{max}
use Rattle.std.specs.List.{AllByRecursion, flat_map}
use Rattle.std.proofs.Math.Nat.{mul_comm, le-mul_of_pos_right}
use Rattle.std.proofs.lemmas.Bool.{le-ltb}
use Rattle.std.proofs.lemmas.List.Elements.{recursion_from_All}
use Rattle.pw_outside.specs.Reading.{Rest, bind}
use Rattle.qt_tables.specs.declared.runs.Sample.{Sample}
use Rattle.qt_tables.specs.Samples.{Chunk, samples, chunks, held_by}
use Rattle.qt_movie.specs.Movie.{Movie}
use Rattle.qt_movie.specs.Trak.{TrakValues}
use Rattle.qt_movie.proofs.WrittenTables.{chunk_run}
use Rattle.qt_movie.proofs.WrittenTraks.{prores-four}
use Rattle.pcm_track.specs.declared.form.Pcm.{Pcm}
use Rattle.pcm_track.specs.declared.parts.Part.{Part}
use Rattle.pcm_track.specs.declared.end.SoundEnd.TheVariants as ends
use Rattle.pcm_track.specs.Wav.{frame_size, sound_size, form_at, Wav, wav_in, IsPcm}
use Rattle.pcm_track.specs.Writing.{wav_head, sound_line}
use Rattle.pcm_track.specs.Track.{Sound, sound_in}
use Rattle.pcm_track.specs.Adding.{parts_in, first_place, runs_of, chunk_frames, duration_field, picture_duration, sound_duration, picture_values, sound_values, movie_with_sound}
use Rattle.pcm_track.specs.Sounding.{sounded, sounded_by, chunk_bytes, chunks_end}
use Rattle.pcm_track.proofs.Runs.{runs-counted}
use Rattle.pcm_track.proofs.Shares.{parts-of-few, chunks-of-few, sounds-many}
use Rattle.sound_round.specs.Laws.{format_of, AddedSoundIsTakenOut}
use Rattle.sound_round.proofs.Bodies.{bodies, movie-is, bodies-lie, AreThere, done-there, Fit, parts-fit, bodies-fit, is-added}
use Rattle.sound_round.proofs.EqualRuns.{runs-hold}
use Rattle.sound_round.proofs.Forms.{form-is}
use Rattle.sound_round.proofs.PicturesRead.{IsReadMovie, read-movie}
use Rattle.sound_round.proofs.PicturesRuns.{samples-few}
use Rattle.sound_round.proofs.Pictures.{pictures-written, sound-written}
use Rattle.sound_round.proofs.SoundRuns.{IsShare, runs-in-order, runs-begin, runs-fit, chunks-told, held-told}
use Rattle.sound_round.proofs.SoundShares.{total, filled-of, all-shared, each-small}
use Rattle.sound_round.proofs.SoundBytes.{sound_chunks, SoundLies, sound-lies, places-near}
use Rattle.sound_round.proofs.SoundTrack.{IsPlainSound, sound_of, IsOfPictures, sound-read}

-- ---- the extracted sound

taken : (out : List ℕ) (s : Sound) (cs : List Chunk) (n : ℕ) (sound : List ℕ) → sound_in out ≡ Ok s → chunks s.tables.runs s.tables.offsets ≡ cs → held_by cs ≡ n → chunks_end out s.format.channels cs ≡ ends.Done
    → flat_map (chunk_bytes out s.format.channels) cs ≡ sound → sounded out ≡ record { end = ends.Done; out = wav_head s.format n ++ sound; text = sound_line s.format n }
unfolding sounded
taken out s cs n sound e c h within bytes = ap (sounded_by out) e ∙ rw (c, h, within, bytes) refl

-- the WAV is read, if its form is, and all of its sound exists
wav-read : (wav : List ℕ) (p : Pcm) (rest : Rest) → form_at (record { place = 0; bytes = wav }) ≡ Ok (p, rest) → sound_size p.channels p.frames ≤ length rest.bytes
    → wav_in wav ≡ Ok (record { form = p; sound = take (sound_size p.channels p.frames) rest.bytes })
unfolding wav_in bind
wav-read wav p rest e there = let fits : nat_lt (length rest.bytes) (sound_size p.channels p.frames) ≡ false = le-ltb _ _ there in rw (e, fits) refl

-- ---- the shares

shares-in : (ns : List ℕ) (most : ℕ) → AllByRecursion (λ n. 1 ≤ n) ns → AllByRecursion (λ n. n ≤ most) ns → most < 2 ^ 32 → AllByRecursion IsShare ns
shares-in [] most filled small fits = tt
shares-in (n ∷ ns) most filled small fits = ((filled.0, omega (arith, small.0, fits)), shares-in ns most filled.1 small.1 fits)

-- at most as many frames as their bytes allow
frames-few : (channels frames : ℕ) → 1 ≤ channels → sound_size channels frames ≤ 4294967250 → frames < 2 ^ 32
frames-few channels frames c h =
    let more : frames ≤ frames * frame_size channels = le-mul_of_pos_right frames (omega (arith, c)) in
    omega (arith, more, mul_comm frames (frame_size channels), h)

-- ---- the two tracks

module _ (file : List ℕ) (m : Movie) (p : Pcm) (sound : List ℕ) (read : IsReadMovie file m) (is : IsPcm p) (there : AreThere file p.channels (parts_in m p) sound) where
  abbrev ss : List Sample
  ss = samples m.tables

  abbrev xs : List Part
  xs = parts_in m p

  abbrev t : TrakValues
  t = sound_values m p

  abbrev out : List ℕ
  out = movie_with_sound file m p sound

  few : length ss ≤ 1000000
  few = omega (arith, samples-few m.tables, read.few)

  fit : Fit p.channels xs
  fit = parts-fit file m p sound read.some is there

  shared : total (chunk_frames xs) ≡ p.frames
  shared = all-shared m.tables.timescale p ss read.some

  filled : AllByRecursion (λ n. 1 ≤ n) (chunk_frames xs)
  filled = filled-of m.tables.timescale p ss

  as-many : length t.offsets ≡ length (chunk_frames xs)
  as-many = sounds-many p.channels first_place xs

  shares : AllByRecursion IsShare (chunk_frames xs)
  shares = shares-in (chunk_frames xs) p.frames filled (each-small (chunk_frames xs) p.frames (omega (arith, shared))) (frames-few p.channels p.frames is.channels.0 is.size)

  told : chunks (map chunk_run t.stsc) t.offsets ≡ sound_chunks p.channels first_place xs
  told = chunks-told (chunk_frames xs) t.offsets as-many

  held : held_by (sound_chunks p.channels first_place xs) ≡ p.frames
  held = held-told t.offsets (chunk_frames xs) as-many ∙ shared

  plain : IsPlainSound t p.channels p.rate
  plain =
      let rs = runs_of (chunk_frames xs) in
      let each = runs-hold IsShare (chunk_frames xs) shares in
      let many = parts-of-few m.tables.timescale p ss few in
      record {
        media = refl;
        channels_fit = is.channels;
        rate_fits = is.rate;
        written = sound-written file m p sound read is there;
        runs = runs-fit 1 rs each (omega (arith, runs-counted (chunk_frames xs), chunks-of-few m.tables.timescale p ss few));
        begins = runs-begin rs;
        in_order = runs-in-order 0 1 rs (omega arith) each;
        near = places-near p.channels first_place xs fit (omega (arith, many));
        size = subst (λ (n : ℕ). sound_size p.channels n ≤ 4294967250) (sym (ap held_by told ∙ held)) is.size;
      }

  pictures : IsOfPictures (picture_values m p)
  pictures = record {
    kind = m.kind;
    width = m.width;
    height = m.height;
    depth = 24;
    media = refl;
    four = prores-four m.kind read.prores;
    written = pictures-written file m p sound read is there;
  }

  is-read : sound_in out ≡ Ok (sound_of t p.channels p.rate)
  is-read =
      let duration = duration_field (max (picture_duration m) (sound_duration m p)) in
      let bs = bodies file p.channels xs sound in
      let small = recursion_from_All (λ (body : List ℕ). length body + 8 < 2 ^ 32) bs (bodies-fit file p.channels xs sound fit) in
      ap sound_in (movie-is file m p sound)
      ∙ sound-read bs m.tables.timescale duration (picture_values m p) t p.channels p.rate small pictures plain

  lies : SoundLies out p.channels first_place xs sound
  lies = sound-lies out file p.channels first_place xs sound is.channels.0 filled (bodies-lie file m p sound) there

  -- all sound exists
  pub all-there : sound_size p.channels p.frames ≤ length sound
  all-there = subst (λ (n : ℕ). sound_size p.channels n ≤ length sound) shared lies.some

  pub is-taken : sounded out ≡ record { end = ends.Done; out = wav_head (format_of p) p.frames ++ take (sound_size p.channels p.frames) sound; text = sound_line (format_of p) p.frames }
  is-taken =
      let bytes = lies.bytes ∙ ap (λ (n : ℕ). take (sound_size p.channels n) sound) shared in
      taken out (sound_of t p.channels p.rate) (sound_chunks p.channels first_place xs) p.frames (take (sound_size p.channels p.frames) sound) is-read told held lies.within bytes

-- ---- the law

pub sound-taken : AddedSoundIsTakenOut
sound-taken file wav done =
    let a = is-added file wav done in
    let there = done-there file a.p.channels (parts_in a.m a.p) a.rest a.done in
    let read = read-movie file a.m a.movie in
    let is = form-is (record { place = 0; bytes = wav }) a.rest a.p a.form in
    let w : Wav = record { form = a.p; sound = take (sound_size a.p.channels a.p.frames) a.rest.bytes } in
    let all = all-there file a.m a.p a.rest.bytes read is there in (
      w,
      wav-read wav a.p a.rest a.form all,
      ap sounded (sym a.out) ∙ is-taken file a.m a.p a.rest.bytes read is there,
    )
