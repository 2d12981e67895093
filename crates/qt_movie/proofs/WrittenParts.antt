-- The atoms inside the movie atom of a written movie are found.
use Rattle.std.proofs.Common.{◌≡◌, ℕ, ◌+◌, Bool, true, false, List, [], ◌∷◌, length, map, None, Some, Ok, refl, ap, ◌∙◌}
use Rattle.std.specs.Prelude.{codes}
use Rattle.std.specs.List.{find}
use Rattle.pw_outside.specs.Reading.{bind}
use Rattle.qt_atoms.specs.declared.atom.Atom.{Atom}
use Rattle.qt_atoms.specs.Atoms.{child, child_of, first_in, found_or, is_one_of}
use Rattle.qt_atoms.specs.Written.{Node, placed}
use Rattle.qt_movie.specs.declared.parts.Parts.{Parts}
use Rattle.qt_movie.specs.declared.description.Description.{Description}
use Rattle.qt_movie.specs.declared.trak.Media.{Media}
use Rattle.qt_movie.specs.declared.trak.Media.TheVariants as media
use Rattle.qt_movie.specs.Movie.{traks_of, whole_in, parts_in, is_video, is_prores, descriptions_in, VideoTrack, track_in, first_track, dref_in, references_of, data_in, moov_in, taken_in}
use Rattle.qt_movie.specs.Bodies.{node, nodes_bytes, mvhd_body, mdhd_body, hdlr_body, vmhd_body, dref_body, dinf_nodes}
use Rattle.qt_movie.specs.Trak.{TrakValues, IsTrak, subtype_of, smhd_body, media_node, stsd_body, stts_body, stsc_body, stsz_body, offsets_node, tkhd_body, stbl_nodes, minf_nodes, mdia_nodes, trak_nodes, trak_node, moov_nodes}
use Rattle.qt_movie.specs.Laws.{HasKind}
use Rattle.qt_movie.proofs.Nodes.{are-media, are-trak, are-mdia, are-minf, are-dinf, are-stbl}
use Rattle.qt_movie.proofs.Stands.{Stands, StandAll, atom_here, first_stands, others_stand, inside, children_met}
use Rattle.qt_movie.proofs.TopLevel.{moov_node}

-- ---- each atom lies inside its parent

abbrev pub mvhd_node : (timescale duration : ℕ) → List TrakValues → Node
mvhd_node timescale duration traks = node (codes "mvhd") (mvhd_body timescale duration (length traks + 1))

abbrev pub tkhd_node : TrakValues → Node
tkhd_node t = node (codes "tkhd") (tkhd_body t)

abbrev pub mdia_node : TrakValues → Node
mdia_node t = node (codes "mdia") (nodes_bytes (mdia_nodes t))

abbrev pub mdhd_node : TrakValues → Node
mdhd_node t = node (codes "mdhd") (mdhd_body t.timescale t.duration)

abbrev pub hdlr_node : Media → Node
hdlr_node m = node (codes "hdlr") (hdlr_body (codes "mhlr") (subtype_of m))

abbrev pub minf_node : TrakValues → Node
minf_node t = node (codes "minf") (nodes_bytes (minf_nodes t))

abbrev pub data_hdlr_node : Node
data_hdlr_node = node (codes "hdlr") (hdlr_body (codes "dhlr") (codes "alis"))

abbrev pub dinf_node : Node
dinf_node = node (codes "dinf") (nodes_bytes dinf_nodes)

abbrev pub dref_node : Node
dref_node = node (codes "dref") dref_body

abbrev pub stbl_node : TrakValues → Node
stbl_node t = node (codes "stbl") (nodes_bytes (stbl_nodes t))

abbrev pub stsd_node : Media → Node
stsd_node m = node (codes "stsd") (stsd_body m)

-- the tables after the descriptions
abbrev table_nodes : TrakValues → List Node
table_nodes t = node (codes "stts") (stts_body t.stts) ∷ node (codes "stsc") (stsc_body t.stsc) ∷ node (codes "stsz") (stsz_body t.common t.count t.sizes) ∷ offsets_node t.offsets ∷ []

-- the offset of an atom after another
abbrev pub behind_node : ℕ → Node → ℕ
behind_node at n = at + (length n.body + 8)

-- the offset of the first track of a `moov`
abbrev pub trak_place : (moov timescale duration : ℕ) → List TrakValues → ℕ
trak_place moov timescale duration traks = behind_node (moov + 8) (mvhd_node timescale duration traks)

abbrev pub mdia_place : ℕ → TrakValues → ℕ
mdia_place trak t = behind_node (trak + 8) (tkhd_node t)

abbrev pub hdlr_place : ℕ → TrakValues → ℕ
hdlr_place mdia t = behind_node (mdia + 8) (mdhd_node t)

abbrev pub minf_place : ℕ → TrakValues → ℕ
minf_place mdia t = behind_node (hdlr_place mdia t) (hdlr_node t.media)

abbrev pub dinf_place : ℕ → Media → ℕ
dinf_place minf m = behind_node (behind_node (minf + 8) (media_node m)) data_hdlr_node

abbrev pub stbl_place : ℕ → Media → ℕ
stbl_place minf m = behind_node (dinf_place minf m) dinf_node

-- the tracks follow the movie header
pub traks_stand : (file : List ℕ) (at timescale duration : ℕ) (traks : List TrakValues) → Stands file at (moov_node timescale duration traks) → StandAll file (trak_place at timescale duration traks) (map trak_node traks)
traks_stand file at timescale duration traks s =
    others_stand file (at + 8) (mvhd_node timescale duration traks) (map trak_node traks) refl (inside file at (codes "moov") (moov_nodes timescale duration traks) refl s)

pub mdia_stands : (file : List ℕ) (at : ℕ) (t : TrakValues) → Stands file at (trak_node t) → Stands file (mdia_place at t) (mdia_node t)
mdia_stands file at t s =
    first_stands file (mdia_place at t) (mdia_node t) [] (others_stand file (at + 8) (tkhd_node t) (mdia_node t ∷ []) refl (inside file at (codes "trak") (trak_nodes t) refl s))

pub mdhd_stands : (file : List ℕ) (at : ℕ) (t : TrakValues) → Stands file at (mdia_node t) → Stands file (at + 8) (mdhd_node t)
mdhd_stands file at t s = first_stands file (at + 8) (mdhd_node t) (hdlr_node t.media ∷ minf_node t ∷ []) (inside file at (codes "mdia") (mdia_nodes t) refl s)

behind_mdhd : (file : List ℕ) (at : ℕ) (t : TrakValues) → Stands file at (mdia_node t) → StandAll file (hdlr_place at t) (hdlr_node t.media ∷ minf_node t ∷ [])
behind_mdhd file at t s = others_stand file (at + 8) (mdhd_node t) (hdlr_node t.media ∷ minf_node t ∷ []) refl (inside file at (codes "mdia") (mdia_nodes t) refl s)

pub hdlr_stands : (file : List ℕ) (at : ℕ) (t : TrakValues) → Stands file at (mdia_node t) → Stands file (hdlr_place at t) (hdlr_node t.media)
hdlr_stands file at t s = first_stands file (hdlr_place at t) (hdlr_node t.media) (minf_node t ∷ []) (behind_mdhd file at t s)

pub minf_stands : (file : List ℕ) (at : ℕ) (t : TrakValues) → Stands file at (mdia_node t) → Stands file (minf_place at t) (minf_node t)
minf_stands file at t s = first_stands file (minf_place at t) (minf_node t) [] (others_stand file (hdlr_place at t) (hdlr_node t.media) (minf_node t ∷ []) refl (behind_mdhd file at t s))

behind_handlers : (file : List ℕ) (at : ℕ) (t : TrakValues) → Stands file at (minf_node t) → StandAll file (dinf_place at t.media) (dinf_node ∷ stbl_node t ∷ [])
behind_handlers file at t s =
    let all = inside file at (codes "minf") (minf_nodes t) refl s in
    let one = others_stand file (at + 8) (media_node t.media) (data_hdlr_node ∷ dinf_node ∷ stbl_node t ∷ []) (are-media t.media).0.kind all in
    others_stand file (behind_node (at + 8) (media_node t.media)) data_hdlr_node (dinf_node ∷ stbl_node t ∷ []) refl one

pub dinf_stands : (file : List ℕ) (at : ℕ) (t : TrakValues) → Stands file at (minf_node t) → Stands file (dinf_place at t.media) dinf_node
dinf_stands file at t s = first_stands file (dinf_place at t.media) dinf_node (stbl_node t ∷ []) (behind_handlers file at t s)

pub stbl_stands : (file : List ℕ) (at : ℕ) (t : TrakValues) → Stands file at (minf_node t) → Stands file (stbl_place at t.media) (stbl_node t)
stbl_stands file at t s =
    first_stands file (stbl_place at t.media) (stbl_node t) [] (others_stand file (dinf_place at t.media) dinf_node (stbl_node t ∷ []) refl (behind_handlers file at t s))

pub stsd_stands : (file : List ℕ) (at : ℕ) (t : TrakValues) → Stands file at (stbl_node t) → Stands file (at + 8) (stsd_node t.media)
stsd_stands file at t s = first_stands file (at + 8) (stsd_node t.media) (table_nodes t) (inside file at (codes "stbl") (stbl_nodes t) refl s)

pub dref_stands : (file : List ℕ) (at : ℕ) → Stands file at dinf_node → Stands file (at + 8) dref_node
dref_stands file at s = first_stands file (at + 8) dref_node [] (inside file at (codes "dinf") dinf_nodes refl s)

-- ---- each is found

pub mdia_found : (file : List ℕ) (at : ℕ) (t : TrakValues) → IsTrak t → HasKind t.media → Stands file at (trak_node t) → child file (atom_here at (trak_node t)) (codes "mdia") ≡ Ok (Some (atom_here (mdia_place at t) (mdia_node t)))
mdia_found file at t is has s = ap (first_in (is_one_of (codes "mdia" ∷ []))) (children_met file at (codes "trak") (trak_nodes t) refl (are-trak t is has) s)

pub mdhd_found : (file : List ℕ) (at : ℕ) (t : TrakValues) → IsTrak t → HasKind t.media → Stands file at (mdia_node t) → child file (atom_here at (mdia_node t)) (codes "mdhd") ≡ Ok (Some (atom_here (at + 8) (mdhd_node t)))
mdhd_found file at t is has s = ap (first_in (is_one_of (codes "mdhd" ∷ []))) (children_met file at (codes "mdia") (mdia_nodes t) refl (are-mdia t is has) s)

pub hdlr_found : (file : List ℕ) (at : ℕ) (t : TrakValues) → IsTrak t → HasKind t.media → Stands file at (mdia_node t) → child file (atom_here at (mdia_node t)) (codes "hdlr") ≡ Ok (Some (atom_here (hdlr_place at t) (hdlr_node t.media)))
hdlr_found file at t is has s = ap (first_in (is_one_of (codes "hdlr" ∷ []))) (children_met file at (codes "mdia") (mdia_nodes t) refl (are-mdia t is has) s)

pub minf_found : (file : List ℕ) (at : ℕ) (t : TrakValues) → IsTrak t → HasKind t.media → Stands file at (mdia_node t) → child file (atom_here at (mdia_node t)) (codes "minf") ≡ Ok (Some (atom_here (minf_place at t) (minf_node t)))
minf_found file at t is has s = ap (first_in (is_one_of (codes "minf" ∷ []))) (children_met file at (codes "mdia") (mdia_nodes t) refl (are-mdia t is has) s)

-- the media information header has none of the kinds searched for
behind_head : (test : Atom → Bool) (at : ℕ) (m : Media) (others : List Atom) → ((p : ℕ) → test (atom_here p (node (codes "vmhd") vmhd_body)) ≡ false) → ((p : ℕ) → test (atom_here p (node (codes "smhd") smhd_body)) ≡ false)
    → find test (atom_here at (media_node m) ∷ others) ≡ find test others
behind_head test at (media.Video kind width height depth) others v s = rw (v at) refl
behind_head test at (media.Sound channels rate) others v s = rw (s at) refl

pub dinf_found : (file : List ℕ) (at : ℕ) (t : TrakValues) → IsTrak t → HasKind t.media → Stands file at (minf_node t) → child file (atom_here at (minf_node t)) (codes "dinf") ≡ Ok (Some (atom_here (dinf_place at t.media) dinf_node))
dinf_found file at t is has s =
    let test = is_one_of (codes "dinf" ∷ []) in
    let others = placed (behind_node (at + 8) (media_node t.media)) (data_hdlr_node ∷ dinf_node ∷ stbl_node t ∷ []) in
    ap (first_in test) (children_met file at (codes "minf") (minf_nodes t) refl (are-minf t is has) s)
    ∙ ap (λ a. found_or a (Ok None)) (behind_head test (at + 8) t.media others (λ p. refl) (λ p. refl))

pub stbl_found : (file : List ℕ) (at : ℕ) (t : TrakValues) → IsTrak t → HasKind t.media → Stands file at (minf_node t) → child file (atom_here at (minf_node t)) (codes "stbl") ≡ Ok (Some (atom_here (stbl_place at t.media) (stbl_node t)))
stbl_found file at t is has s =
    let test = is_one_of (codes "stbl" ∷ []) in
    let others = placed (behind_node (at + 8) (media_node t.media)) (data_hdlr_node ∷ dinf_node ∷ stbl_node t ∷ []) in
    ap (first_in test) (children_met file at (codes "minf") (minf_nodes t) refl (are-minf t is has) s)
    ∙ ap (λ a. found_or a (Ok None)) (behind_head test (at + 8) t.media others (λ p. refl) (λ p. refl))

pub stsd_found : (file : List ℕ) (at : ℕ) (t : TrakValues) → IsTrak t → HasKind t.media → Stands file at (stbl_node t) → child file (atom_here at (stbl_node t)) (codes "stsd") ≡ Ok (Some (atom_here (at + 8) (stsd_node t.media)))
stsd_found file at t is has s = ap (first_in (is_one_of (codes "stsd" ∷ []))) (children_met file at (codes "stbl") (stbl_nodes t) refl (are-stbl t is has) s)

pub dref_found : (file : List ℕ) (at : ℕ) → Stands file at dinf_node → child file (atom_here at dinf_node) (codes "dref") ≡ Ok (Some (atom_here (at + 8) dref_node))
dref_found file at s = ap (first_in (is_one_of (codes "dref" ∷ []))) (children_met file at (codes "dinf") dinf_nodes refl are-dinf s)

-- ---- the track is read, once its atoms are found

pub whole_read : (file : List ℕ) (moov : Atom) → child_of file moov (codes "cmov" ∷ codes "mvex" ∷ []) ≡ Ok None → whole_in file moov ≡ Ok tt
unfolding whole_in bind
whole_read file moov h = rw h refl

pub parts_read : (file : List ℕ) (trak mdia hdlr minf stbl stsd : Atom)
    → child file trak (codes "mdia") ≡ Ok (Some mdia) → child file mdia (codes "hdlr") ≡ Ok (Some hdlr) → child file mdia (codes "minf") ≡ Ok (Some minf)
    → child file minf (codes "stbl") ≡ Ok (Some stbl) → child file stbl (codes "stsd") ≡ Ok (Some stsd)
    → parts_in file trak ≡ Ok (Some (record { mdia = mdia; hdlr = hdlr; minf = minf; stbl = stbl; stsd = stsd }))
unfolding parts_in bind
parts_read file trak mdia hdlr minf stbl stsd a b c d e = rw (a, b, c, d, e) refl

pub track_read : (file : List ℕ) (number : ℕ) (trak : Atom) (parts : Parts) (d : Description)
    → parts_in file trak ≡ Ok (Some parts) → is_video file parts.hdlr ≡ true → descriptions_in file parts.stsd ≡ Ok (d ∷ []) → is_prores d.kind ≡ true
    → track_in file number trak ≡ Ok (Some (record { number = number; parts = parts; first = d; descriptions = d ∷ [] }))
unfolding track_in bind
track_read file number trak parts d a b c e = rw (a, b, c, e) refl

pub data_read : (file : List ℕ) (minf dinf dref : Atom) (d : Description)
    → child file minf (codes "dinf") ≡ Ok (Some dinf) → child file dinf (codes "dref") ≡ Ok (Some dref) → references_of file dref ≡ true ∷ [] → d.reference ≡ 1
    → data_in file minf (d ∷ []) ≡ Ok tt
unfolding data_in dref_in bind
data_read file minf dinf dref d a b c e = rw (a, b, c, e) refl

pub taken_read : (file : List ℕ) (moov trak : Atom) (others : List Atom) (t : VideoTrack)
    → moov_in file ≡ Ok moov → whole_in file moov ≡ Ok tt → traks_of file moov ≡ trak ∷ others → track_in file 1 trak ≡ Ok (Some t) → data_in file t.parts.minf t.descriptions ≡ Ok tt
    → taken_in file ≡ Ok t
unfolding taken_in first_track bind
taken_read file moov trak others t a b c d e = rw (a, b, c, d, e) refl
