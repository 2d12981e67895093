-- The outcome of a run that extracts the sound of a movie.
use Rattle.std.proofs.Common.{◌≡◌, ℕ, List, ◌++◌, Ok, Err, ap, sym, ◌∙◌}
use Rattle.std.specs.List.{flat_map}
use Rattle.pw_outside.specs.Reading.{Fault}
use Rattle.qt_tables.specs.declared.fault.MovieKind.{MovieKind}
use Rattle.pcm_track.specs.declared.end.SoundEnd.TheVariants as ends
use Rattle.pcm_track.specs.Track.{Sound, sound_in, chunks_of, frames_of}
use Rattle.pcm_track.specs.Writing.{wav_head, sound_line}
use Rattle.pcm_track.specs.Sounding.{sounded, sounded_by, chunk_bytes, chunks_end}

pub sounded-bad : (file : List ℕ) (f : Fault MovieKind) → sound_in file ≡ Err f → ends.BadMovie f.kind f.place ≡ (sounded file).end
unfolding sounded
sounded-bad file f e = sym (ap (λ s. (sounded_by file s).end) e)

pub sounded-end : (file : List ℕ) (s : Sound) → sound_in file ≡ Ok s → (sounded file).end ≡ chunks_end file s.format.channels (chunks_of s)
unfolding sounded
sounded-end file s e = ap (λ x. (sounded_by file x).end) e

pub sounded-out : (file : List ℕ) (s : Sound) (n : ℕ) → sound_in file ≡ Ok s → n ≡ frames_of s → wav_head s.format n ++ flat_map (chunk_bytes file s.format.channels) (chunks_of s) ≡ (sounded file).out
unfolding sounded
sounded-out file s n e k = ap (λ (m : ℕ). wav_head s.format m ++ flat_map (chunk_bytes file s.format.channels) (chunks_of s)) k ∙ sym (ap (λ x. (sounded_by file x).out) e)

pub sounded-text : (file : List ℕ) (s : Sound) (n : ℕ) → sound_in file ≡ Ok s → n ≡ frames_of s → sound_line s.format n ≡ (sounded file).text
unfolding sounded
sounded-text file s n e k = ap (sound_line s.format) k ∙ sym (ap (λ x. (sounded_by file x).text) e)
