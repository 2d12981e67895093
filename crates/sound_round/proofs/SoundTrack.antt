-- Reading the sound of a movie with a picture track first and a plain PCM sound track second.
use Rattle.std.proofs.Common.{◌≡◌, refl, ℕ, ◌+◌, ◌≤◌, ◌<◌, ◌^◌, Bool, true, false, nat_lt, List, [], ◌∷◌, length, map, None, Some, Ok, arith, sym, ap, subst, ◌∙◌}
use Rattle.std.specs.Prelude.{codes, ◌&&◌, if◌then◌else◌}
use Rattle.std.specs.List.{AllByRecursion}
use Rattle.std.proofs.lemmas.Bool.Decides.{nat_tests}
use Rattle.pw_outside.specs.Reading.{bind}
use Rattle.qt_atoms.specs.declared.atom.Atom.{Atom}
use Rattle.qt_atoms.specs.Atoms.{child, child_of, first_in, found_or, is_one_of}
use Rattle.qt_atoms.specs.Written.{IsNode}
use Rattle.qt_tables.specs.declared.runs.ChunkRun.{ChunkRun}
use Rattle.qt_tables.specs.Samples.{ChunkLists, chunks, held_by}
use Rattle.qt_tables.specs.Tables.{table_in, runs_in, descriptions_of, offsets_in, chunk_tables_in, begins_at_1, is_in_order}
use Rattle.qt_movie.specs.declared.parts.Parts.{Parts}
use Rattle.qt_movie.specs.declared.trak.Media.{Media}
use Rattle.qt_movie.specs.declared.trak.Media.TheVariants as media
use Rattle.qt_movie.specs.Movie.{moov_in, whole_in, traks_of, parts_in, data_in}
use Rattle.qt_movie.specs.Bodies.{node}
use Rattle.qt_movie.specs.Trak.{TrakValues, IsTrak, stts_body, stsc_body, stsz_body, are_near, offsets_node, stbl_nodes, trak_node}
use Rattle.qt_movie.specs.Laws.{traks_bytes, HasKind}
use Rattle.qt_movie.proofs.Stands.{Stands, StandAll, atom_here, inside, first_stands, others_stand, children_met}
use Rattle.qt_movie.proofs.Nodes.{length-moov, are-stbl}
use Rattle.qt_movie.proofs.TopLevel.{moov_node, moov_place, moov_stands, moov_found}
use Rattle.qt_movie.proofs.WrittenFields.{references-read}
use Rattle.qt_movie.proofs.WrittenTables.{chunk_run, RunFits, runs-written, places-written}
use Rattle.qt_movie.proofs.WrittenParts.{mdia_node, hdlr_node, minf_node, dinf_node, dref_node, stbl_node, stsd_node, behind_node, trak_place, mdia_place, hdlr_place, minf_place, dinf_place, stbl_place, traks_stand, mdia_stands, hdlr_stands, minf_stands, dinf_stands, stbl_stands, stsd_stands, dref_stands, mdia_found, hdlr_found, minf_found, dinf_found, stbl_found, stsd_found, dref_found, whole_read, parts_read, data_read}
use Rattle.qt_movie.proofs.WrittenTraks.{traks_are, unread, one_described, last-found}
use Rattle.pcm_track.specs.declared.form.Format.{Format}
use Rattle.pcm_track.specs.Wav.{sound_size}
use Rattle.pcm_track.specs.Track.{is_sound, is_plain, sound_track_in, first_sound, readable_of, format_in, Sound, sound_in}
use Rattle.sound_round.proofs.SoundFields.{is-no-sound, is-sound, sound_here, StsdIsRead, stsd-read}

-- A plain PCM track that can be read back: each number fits its field, and the runs of chunks are in order.
pub record IsPlainSound (t : TrakValues) (channels rate : ℕ) : Type 0 where
  pub media : t.media ≡ media.Sound channels rate
  pub channels_fit : (1 ≤ channels) × (channels ≤ 2)
  pub rate_fits : (1 ≤ rate) × (rate ≤ 65535)
  pub written : IsTrak t
  pub runs : AllByRecursion RunFits t.stsc
  pub begins : begins_at_1 (map chunk_run t.stsc) ≡ true
  -- all by the only description
  pub in_order : is_in_order 1 0 (map chunk_run t.stsc) ≡ true
  pub near : AllByRecursion (λ offset. offset < 2 ^ 62) t.offsets
  pub size : sound_size channels (held_by (chunks (map chunk_run t.stsc) t.offsets)) ≤ 4294967250

-- the sound of such a track
abbrev pub sound_of : TrakValues → (channels rate : ℕ) → Sound
sound_of t channels rate = record { format = record { channels = channels; rate = rate }; tables = record { runs = map chunk_run t.stsc; offsets = t.offsets } }

-- any picture track
pub record IsOfPictures (t : TrakValues) : Type 0 where
  pub kind : List ℕ
  pub width : ℕ
  pub height : ℕ
  pub depth : ℕ
  pub media : t.media ≡ media.Video kind width height depth
  pub four : length kind ≡ 4
  pub written : IsTrak t

-- ---- the parts of a track

-- the atoms of a track at an offset
abbrev parts_here : ℕ → TrakValues → Parts
parts_here at t =
    let mdia = mdia_place at t in
    let minf = minf_place mdia t in
    let stbl = stbl_place minf t.media in
    record {
      mdia = atom_here mdia (mdia_node t);
      hdlr = atom_here (hdlr_place mdia t) (hdlr_node t.media);
      minf = atom_here minf (minf_node t);
      stbl = atom_here stbl (stbl_node t);
      stsd = atom_here (stbl + 8) (stsd_node t.media);
    }

parts-here : (file : List ℕ) (at : ℕ) (t : TrakValues) → IsTrak t → HasKind t.media → Stands file at (trak_node t) → parts_in file (atom_here at (trak_node t)) ≡ Ok (Some (parts_here at t))
parts-here file at t is has s =
    let mdia = mdia_place at t in
    let minf = minf_place mdia t in
    let stbl = stbl_place minf t.media in
    let p = parts_here at t in
    let mdia_s = mdia_stands file at t s in
    let minf_s = minf_stands file mdia t mdia_s in
    let stbl_s = stbl_stands file minf t minf_s in
    parts_read file (atom_here at (trak_node t)) p.mdia p.hdlr p.minf p.stbl p.stsd
    (mdia_found file at t is has s) (hdlr_found file mdia t is has mdia_s) (minf_found file mdia t is has mdia_s)
    (stbl_found file minf t is has minf_s) (stsd_found file stbl t is has stbl_s)

-- ---- each track is validated

not-sound : (file : List ℕ) (at : ℕ) (m v : Media) → m ≡ v → (Stands file at (hdlr_node v) → is_sound file (atom_here at (hdlr_node v)) ≡ false) → Stands file at (hdlr_node m) → is_sound file (atom_here at (hdlr_node m)) ≡ false
not-sound file at m v e = subst (λ (x : Media). (Stands file at (hdlr_node x) → is_sound file (atom_here at (hdlr_node x)) ≡ false)) (sym e)

judged : (file : List ℕ) (trak : Atom) (parts : Parts) (a b : Bool) → parts_in file trak ≡ Ok (Some parts) → is_sound file parts.hdlr ≡ a → is_plain file parts.stsd ≡ b → sound_track_in file trak ≡ Ok (if a && b then Some parts else None)
unfolding sound_track_in bind
judged file trak parts a b p h k = rw (p, h, k) refl

passed-over : (file : List ℕ) (at : ℕ) (t : TrakValues) → IsOfPictures t → HasKind t.media → Stands file at (trak_node t) → sound_track_in file (atom_here at (trak_node t)) ≡ Ok None
passed-over file at t is has s =
    let p = parts_here at t in
    let mdia = mdia_place at t in
    let no = not-sound file (hdlr_place mdia t) t.media (media.Video is.kind is.width is.height is.depth) is.media
    (is-no-sound file (hdlr_place mdia t) is.kind is.width is.height is.depth) (hdlr_stands file mdia t (mdia_stands file at t s)) in
    judged file (atom_here at (trak_node t)) p false (is_plain file p.stsd) (parts-here file at t is.written has s) no refl

-- the result of reading the handler and the description, for any name of the media
record IsRead (file : List ℕ) (hdlr stsd : ℕ) (m : Media) (channels rate : ℕ) : Type 0 where
  sound : is_sound file (atom_here hdlr (hdlr_node m)) ≡ true
  plain : is_plain file (atom_here stsd (stsd_node m)) ≡ true
  descriptions : readable_of file (atom_here stsd (stsd_node m)) ≡ sound_here ((stsd + 8) + 8) ∷ []
  format : format_in file (atom_here stsd (stsd_node m)) ≡ Ok (record { channels = channels; rate = rate })

read-of : (file : List ℕ) (hdlr stsd : ℕ) (m : Media) (channels rate : ℕ) → m ≡ media.Sound channels rate → (1 ≤ channels) × (channels ≤ 2) → (1 ≤ rate) × (rate ≤ 65535)
    → Stands file hdlr (hdlr_node m) → Stands file stsd (stsd_node m) → IsRead file hdlr stsd m channels rate
read-of file hdlr stsd m channels rate e c r =
    subst (λ (x : Media). (Stands file hdlr (hdlr_node x) → Stands file stsd (stsd_node x) → IsRead file hdlr stsd x channels rate)) (sym e)
    (λ h s. (let d : StsdIsRead file stsd channels rate = stsd-read file stsd channels rate c r s in
    record { sound = is-sound file hdlr channels rate h; plain = d.plain; descriptions = d.descriptions; format = d.format }))

-- ---- the tables

tables-of : (file : List ℕ) (stbl stsc stsd table : Atom) (runs : List ChunkRun) (offsets : List ℕ) → child file stbl (codes "stsc") ≡ Ok (Some stsc) → child file stbl (codes "stsd") ≡ Ok (Some stsd)
    → runs_in file stsc (descriptions_of file (Some stsd)) ≡ Ok runs → child_of file stbl (codes "stco" ∷ codes "co64" ∷ []) ≡ Ok (Some table) → offsets_in file table ≡ Ok offsets
    → chunk_tables_in file stbl ≡ Ok (record { runs = runs; offsets = offsets })
unfolding chunk_tables_in bind
tables-of file stbl stsc stsd table runs offsets a b c d e = rw (a, b, c, d, e) refl

stsc-table : (file : List ℕ) (stbl stsc : Atom) → child file stbl (codes "stsc") ≡ Ok (Some stsc) → table_in file stbl (codes "stsc") ≡ Ok stsc
unfolding bind
stsc-table file stbl stsc h = rw h refl

-- the tables of chunks are read, and the one of runs is found
record TablesAreRead (file : List ℕ) (stbl : Atom) (t : TrakValues) : Type 0 where
  lists : chunk_tables_in file stbl ≡ Ok (record { runs = map chunk_run t.stsc; offsets = t.offsets })
  stsc : Atom
  found : table_in file stbl (codes "stsc") ≡ Ok stsc

tables-here : (file : List ℕ) (stbl : ℕ) (t : TrakValues) (channels rate : ℕ) → IsPlainSound t channels rate → HasKind t.media → Stands file stbl (stbl_node t) → TablesAreRead file (atom_here stbl (stbl_node t)) t
tables-here file stbl t channels rate r has s =
    let is = r.written in
    let n0 = stsd_node t.media in
    let n1 = node (codes "stts") (stts_body t.stts) in
    let n2 = node (codes "stsc") (stsc_body t.stsc) in
    let n3 = node (codes "stsz") (stsz_body t.common t.count t.sizes) in
    let n4 = offsets_node t.offsets in
    let p0 = stbl + 8 in
    let p1 = behind_node p0 n0 in
    let p2 = behind_node p1 n1 in
    let p3 = behind_node p2 n2 in
    let p4 = behind_node p3 n3 in
    let a0 = inside file stbl (codes "stbl") (stbl_nodes t) refl s in
    let a1 = others_stand file p0 n0 (n1 ∷ n2 ∷ n3 ∷ n4 ∷ []) refl a0 in
    let a2 = others_stand file p1 n1 (n2 ∷ n3 ∷ n4 ∷ []) refl a1 in
    let a3 = others_stand file p2 n2 (n3 ∷ n4 ∷ []) refl a2 in
    let a4 = others_stand file p3 n3 (n4 ∷ []) refl a3 in
    let s0 = first_stands file p0 n0 (n1 ∷ n2 ∷ n3 ∷ n4 ∷ []) a0 in
    let s2 = first_stands file p2 n2 (n3 ∷ n4 ∷ []) a2 in
    let s4 = first_stands file p4 n4 [] a4 in
    let walked = children_met file stbl (codes "stbl") (stbl_nodes t) refl (are-stbl t is has) s in
    let one = one_described file p0 t.media s0 in
    let runs = map chunk_run t.stsc in
    let order : is_in_order (descriptions_of file (Some (atom_here p0 n0))) 0 runs ≡ true = ap (λ (n : ℕ). is_in_order n 0 runs) one ∙ r.in_order in
    let stsc : child file (atom_here stbl (stbl_node t)) (codes "stsc") ≡ Ok (Some (atom_here p2 n2)) = ap (first_in (is_one_of (codes "stsc" ∷ []))) walked in
    let last : child_of file (atom_here stbl (stbl_node t)) (codes "stco" ∷ codes "co64" ∷ []) ≡ Ok (Some (atom_here p4 n4)) =
    ap (first_in (is_one_of (codes "stco" ∷ codes "co64" ∷ []))) walked ∙ ap (λ a. found_or a (Ok None)) (last-found (are_near t.offsets) p4 t.offsets) in
    record {
      lists = tables-of file (atom_here stbl (stbl_node t)) (atom_here p2 n2) (atom_here p0 n0) (atom_here p4 n4) runs t.offsets
          stsc (ap (first_in (is_one_of (codes "stsd" ∷ []))) walked)
          (runs-written file p2 (descriptions_of file (Some (atom_here p0 n0))) t.stsc s2 is.few_runs r.runs r.begins order)
          last (places-written (are_near t.offsets) file p4 t.offsets refl s4 is.few_chunks r.near);
      stsc = atom_here p2 n2;
      found = stsc-table file (atom_here stbl (stbl_node t)) (atom_here p2 n2) stsc;
    }

-- ---- the movie

second-taken : (file : List ℕ) (moov first second : Atom) (parts : Parts) (format : Format) (tables : ChunkLists) (stsc : Atom)
    → moov_in file ≡ Ok moov → whole_in file moov ≡ Ok tt → traks_of file moov ≡ first ∷ second ∷ [] → sound_track_in file first ≡ Ok None → sound_track_in file second ≡ Ok (Some parts)
    → data_in file parts.minf (readable_of file parts.stsd) ≡ Ok tt → format_in file parts.stsd ≡ Ok format → chunk_tables_in file parts.stbl ≡ Ok tables → table_in file parts.stbl (codes "stsc") ≡ Ok stsc
    → sound_size format.channels (held_by (chunks tables.runs tables.offsets)) ≤ 4294967250 → sound_in file ≡ Ok (record { format = format; tables = tables })
unfolding sound_in first_sound bind
second-taken file moov first second parts format tables stsc a b c d e f g h i small =
    let fits : nat_lt 4294967250 (sound_size format.channels (held_by (chunks tables.runs tables.offsets))) ≡ false = grind (arith, nat_tests, small) in
    rw (a, b, c, d, e, f, g, h, i, fits) refl

-- a file with this movie atom, if it is the one that is read
with-moov : (file : List ℕ) (at timescale duration : ℕ) (pictures t : TrakValues) (channels rate : ℕ) → IsOfPictures pictures → IsPlainSound t channels rate
    → AllByRecursion IsTrak (pictures ∷ t ∷ []) → AllByRecursion (λ (o : TrakValues). HasKind o.media) (pictures ∷ t ∷ [])
    → Stands file at (moov_node timescale duration (pictures ∷ t ∷ [])) → moov_in file ≡ Ok (atom_here at (moov_node timescale duration (pictures ∷ t ∷ [])))
    → sound_in file ≡ Ok (sound_of t channels rate)
with-moov file at timescale duration pictures t channels rate video r are have s found =
    let traks = pictures ∷ t ∷ [] in
    let first_at = trak_place at timescale duration traks in
    let trak_at = behind_node first_at (trak_node pictures) in
    let mdia_at = mdia_place trak_at t in
    let hdlr_at = hdlr_place mdia_at t in
    let minf_at = minf_place mdia_at t in
    let dinf_at = dinf_place minf_at t.media in
    let stbl_at = stbl_place minf_at t.media in
    let moov = atom_here at (moov_node timescale duration traks) in
    let p = parts_here trak_at t in
    let all : StandAll file first_at (trak_node pictures ∷ trak_node t ∷ []) = traks_stand file at timescale duration traks s in
    let first_s = first_stands file first_at (trak_node pictures) (trak_node t ∷ []) all in
    let trak_s = first_stands file trak_at (trak_node t) [] (others_stand file first_at (trak_node pictures) (trak_node t ∷ []) refl all) in
    let mdia_s = mdia_stands file trak_at t trak_s in
    let minf_s = minf_stands file mdia_at t mdia_s in
    let dinf_s = dinf_stands file minf_at t minf_s in
    let stbl_s = stbl_stands file minf_at t minf_s in
    let has = have.1.0 in
    let read = read-of file hdlr_at (stbl_at + 8) t.media channels rate r.media r.channels_fit r.rate_fits (hdlr_stands file mdia_at t mdia_s) (stsd_stands file stbl_at t stbl_s) in
    let tables = tables-here file stbl_at t channels rate r has stbl_s in
    let lies = data_read file p.minf (atom_here dinf_at dinf_node) (atom_here (dinf_at + 8) dref_node) (sound_here (((stbl_at + 8) + 8) + 8))
    (dinf_found file minf_at t r.written has minf_s) (dref_found file dinf_at dinf_s) (references-read file (dinf_at + 8) (dref_stands file dinf_at dinf_s)) refl in
    second-taken file moov (atom_here first_at (trak_node pictures)) (atom_here trak_at (trak_node t)) p (record { channels = channels; rate = rate }) (sound_of t channels rate).tables tables.stsc
    found (whole_read file moov (unread file at timescale duration traks are have s)) (traks_are file at timescale duration traks are have s)
    (passed-over file first_at pictures video have.0 first_s)
    (judged file (atom_here trak_at (trak_node t)) p true true (parts-here file trak_at t r.written has trak_s) read.sound read.plain)
    (ap (λ ds. data_in file p.minf ds) read.descriptions ∙ lies) read.format tables.lists tables.found r.size

pub sound-read : (bodies : List (List ℕ)) (timescale duration : ℕ) (pictures t : TrakValues) (channels rate : ℕ) → AllByRecursion (λ (body : List ℕ). length body + 8 < 2 ^ 32) bodies
    → IsOfPictures pictures → IsPlainSound t channels rate → sound_in (traks_bytes bodies timescale duration (pictures ∷ t ∷ [])) ≡ Ok (sound_of t channels rate)
sound-read bodies timescale duration pictures t channels rate small video r =
    let traks = pictures ∷ t ∷ [] in
    let video_has : HasKind pictures.media = subst HasKind (sym video.media) video.four in
    let sound_has : HasKind t.media = subst HasKind (sym r.media) tt in
    let are : AllByRecursion IsTrak traks = (video.written, (r.written, tt)) in
    let have : AllByRecursion (λ (o : TrakValues). HasKind o.media) traks = (video_has, (sound_has, tt)) in
    let last : IsNode (moov_node timescale duration traks) = record { kind = refl; size = omega (arith, length-moov timescale duration traks are have (omega arith)) } in
    with-moov (traks_bytes bodies timescale duration traks) (moov_place bodies) timescale duration pictures t channels rate video r are have
    (moov_stands bodies timescale duration traks) (moov_found bodies timescale duration traks small last)
