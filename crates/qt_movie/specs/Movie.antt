-- The pictures of a QuickTime file: the selected track and its sample tables, or the first fault in reading order.
-- Atoms and fields by the QuickTime File Format; the selection of the track and the order of faults are our own.
use Rattle.std.specs.Prelude.{ℕ, zero, suc, ◌+◌, ◌-◌, ◌%◌, Bool, false, not, List, [], ◌∷◌, length, Option, Some, None, Ok, nat_lt, nat_le, ◌==◌, ◌&&◌, ◌||◌, if◌then◌else◌, codes, slice_get, min, unwrap_or}
use Rattle.std.specs.List.{filter, list_all, list_any}
use Rattle.std.specs.Option.{option_map}
use Rattle.std.specs.Str.{bytes_eq}
use Rattle.std.specs.Int.{w16, w32}
use Rattle.pw_outside.specs.Reading.{◌>>=◌, bad, refuse}
use Rattle.qt_atoms.specs.declared.atom.Atom.{Atom}
use Rattle.qt_atoms.specs.Atoms.{number_in, bytes_in, kind_in, child, child_of, children, first_at_top, is_kind}
use Rattle.qt_tables.specs.declared.fault.MovieKind.{MovieKind}
use Rattle.qt_tables.specs.declared.fault.MovieKind.TheVariants.{NoMoov, Compressed, Fragmented, NoProResTrack, ExternalData, TableShape, SampleOutside}
use Rattle.qt_tables.specs.Faults.{Found, some_or, sized}
use Rattle.qt_tables.specs.Samples.{Tables}
use Rattle.qt_tables.specs.Tables.{body_length, tables_in}
use Rattle.qt_tables.specs.declared.runs.Sample.{Sample}
use Rattle.qt_movie.specs.declared.parts.Parts.{Parts}
use Rattle.qt_movie.specs.declared.reader.Track.{Track}
use Rattle.qt_movie.specs.declared.description.Description.{Description}
use Rattle.qt_movie.specs.declared.external.Reference.{Reference}

-- a fault at this atom, if there is one
abbrev pub refuse_at : Option Atom → (Atom → MovieKind) → Found (Unit {0})
refuse_at None kind = Ok tt
refuse_at (Some a) kind = bad (kind a) a.at

-- ---- the movie atom and its tracks

-- the first `moov`, if the whole top level has no `moof` and no bad size
unfoldable pub moov_in : List ℕ → Found Atom
moov_in file = do
  fragment ← sized (first_at_top file (codes "moof" ∷ []))
  _ ← refuse_at fragment (λ _. Fragmented)
  moov ← sized (first_at_top file (codes "moov" ∷ []))
  some_or moov NoMoov 0

-- the earlier `moov`, or this atom if there is none and it is one
abbrev pub moov_or : Option Atom → Atom → Option Atom
moov_or (Some moov) a = Some moov
moov_or None a = if is_kind (codes "moov") a then Some a else None

abbrev pub is_trak : Atom → Bool
is_trak a = is_kind (codes "trak") a

-- the tracks of a `moov`
abbrev pub traks_of : List ℕ → Atom → List Atom
traks_of file moov = filter is_trak (children file moov).atoms

-- the fault of a `cmov`, and that of an `mvex`
abbrev pub unread_kind : Atom → MovieKind
unread_kind a = if is_kind (codes "cmov") a then Compressed else Fragmented

-- a `moov` with no `cmov`, no `mvex` and no bad size among its children
unfoldable pub whole_in : List ℕ → Atom → Found (Unit {0})
whole_in file moov = do
  other ← sized (child_of file moov (codes "cmov" ∷ codes "mvex" ∷ []))
  refuse_at other unread_kind

-- ---- one track

-- `None` stops, a value continues
abbrev pub or_none : {A B : Type 0} → Option A → (A → Found (Option B)) → Found (Option B)
or_none None rest = Ok None
or_none (Some a) rest = rest a

-- continues with the first child of this kind, if there is one
abbrev pub with_child : {A : Type 0} → List ℕ → Atom → List ℕ → (Atom → Found (Option A)) → Found (Option A)
with_child file parent kind rest = sized (child file parent kind) >>= λ found. or_none found rest

-- the atoms of a track that describe its pictures, if none is missing
unfoldable pub parts_in : List ℕ → Atom → Found (Option Parts)
parts_in file trak =
    with_child file trak (codes "mdia") (λ mdia.
    with_child file mdia (codes "hdlr") (λ hdlr.
    with_child file mdia (codes "minf") (λ minf.
    with_child file minf (codes "stbl") (λ stbl.
    with_child file stbl (codes "stsd") (λ stsd.
    Ok (Some (record { mdia = mdia; hdlr = hdlr; minf = minf; stbl = stbl; stsd = stsd })))))))

-- whether the handler is for pictures: its subtype, 8 bytes into the body
abbrev pub is_video : List ℕ → Atom → Bool
is_video file hdlr = nat_le 12 (body_length hdlr) && bytes_eq (bytes_in 4 file (hdlr.body + 8)) (codes "vide")

-- the ProRes kinds: 422 Proxy, LT, Standard and HQ, 4444 and 4444 XQ
abbrev pub is_prores : List ℕ → Bool
is_prores kind = list_any (bytes_eq kind) (codes "apco" ∷ codes "apcs" ∷ codes "apcn" ∷ codes "apch" ∷ codes "ap4h" ∷ codes "ap4x" ∷ [])

-- the description at an offset of an `stsd`: at least 16 bytes, for ProRes at least 86, and not past the end
unfoldable pub description_in : List ℕ → (stsd : Atom) → (place : ℕ) → Found Description
description_in file stsd place = do
  _ ← refuse (nat_lt (stsd.end - place) 16) TableShape stsd.at
  let size = number_in w32 file place
  let kind = kind_in file place
  _ ← refuse (nat_lt size 16 || nat_lt (stsd.end - place) size || (is_prores kind && nat_lt size 86)) TableShape stsd.at
  Ok (record { at = place; size = size; kind = kind; reference = number_in w16 file (place + 14) })

-- `count` consecutive descriptions
unfoldable pub described : List ℕ → (stsd : Atom) → (count place : ℕ) → Found (List Description)
described file stsd zero place = Ok []
described file stsd (suc count) place = do
  first ← description_in file stsd place
  others ← described file stsd count (place + first.size)
  Ok (first ∷ others)

-- the descriptions of an `stsd`, at most 1,000
unfoldable pub descriptions_in : List ℕ → Atom → Found (List Description)
descriptions_in file stsd = do
  _ ← refuse (nat_lt (body_length stsd) 8) TableShape stsd.at
  let count = number_in w32 file (stsd.body + 4)
  _ ← refuse (nat_lt 1000 count) TableShape stsd.at
  described file stsd count (stsd.body + 8)

-- a track of pictures
pub record VideoTrack : Type 0 where
  -- among the tracks of the movie, from 1
  pub number : ℕ
  pub parts : Parts
  -- its first description
  pub first : Description
  pub descriptions : List Description

-- a track with descriptions that are all of ProRes
abbrev pub prores_track : (number : ℕ) → Parts → List Description → Option VideoTrack
prores_track number parts ds =
    if list_all (λ d. is_prores d.kind) ds
    then option_map (λ first. record { number = number; parts = parts; first = first; descriptions = ds }) (slice_get ds 0)
    else None

-- a track, or `None` if it is skipped
unfoldable pub track_in : List ℕ → (number : ℕ) → Atom → Found (Option VideoTrack)
track_in file number trak = parts_in file trak >>= λ found. or_none found (λ parts.
    if not (is_video file parts.hdlr) then Ok None
    else descriptions_in file parts.stsd >>= λ ds. Ok (prores_track number parts ds))

abbrev pub or_else : {A : Type 0} → Option A → Found (Option A) → Found (Option A)
or_else (Some x) other = Ok (Some x)
or_else None other = other

-- the first track that isn't skipped
unfoldable pub first_track : List ℕ → (traks : List Atom) → (number : ℕ) → Found (Option VideoTrack)
first_track file [] number = Ok None
first_track file (trak ∷ traks) number = track_in file number trak >>= λ here. or_else here (first_track file traks (number + 1))

-- ---- data references

-- the entry at an offset before the end, if there is one
unfoldable pub reference_at : List ℕ → (place end : ℕ) → Option Reference
reference_at file place end =
    let size = number_in w32 file place in
    if nat_lt (end - place) 12 || nat_lt size 12 || nat_lt (end - place) size then None
    else Some (record { size = size; here = number_in w32 file (place + 8) % 2 == 1 })

abbrev pub and_others : Option Reference → (Reference → List Bool) → List Bool
and_others None others = []
and_others (Some r) others = r.here ∷ others r

-- for each of `count` entries, whether its data lies in the same file; stops before the first missing entry
abbrev pub references : List ℕ → (end : ℕ) → (count place : ℕ) → List Bool
references file end zero place = []
references file end (suc count) place = and_others (reference_at file place end) (λ r. references file end count (place + r.size))

-- The entries of a `dref`. A description refers to one by 16 bits, so those after 65,535 are unreachable.
unfoldable pub references_of : List ℕ → (dref : Atom) → List Bool
references_of file dref =
    if nat_lt (body_length dref) 8 then []
    else references file dref.end (min (number_in w32 file (dref.body + 4)) 65535) (dref.body + 8)

-- the `dref` of a track, if there is one
unfoldable pub dref_in : List ℕ → (minf : Atom) → Found (Option Atom)
dref_in file minf = with_child file minf (codes "dinf") (λ dinf. sized (child file dinf (codes "dref")))

-- whether entry n, from 1, exists and has its data in the same file
abbrev pub lies_here : List Bool → ℕ → Bool
lies_here references zero = false
lies_here references (suc n) = unwrap_or (slice_get references n) false

-- whether the data of some description lies in another file, or nowhere
abbrev pub is_external : List Bool → List Description → Bool
is_external references ds = list_any (λ d. not (lies_here references d.reference)) ds

-- validates descriptions by the entries of a `dref`; without one all data lies in the same file
abbrev pub judged_by : List ℕ → (minf : Atom) → Option Atom → List Description → Found (Unit {0})
judged_by file minf None ds = Ok tt
judged_by file minf (Some dref) ds = refuse (is_external (references_of file dref) ds) ExternalData minf.at

-- all data lies in the same file
unfoldable pub data_in : List ℕ → (minf : Atom) → List Description → Found (Unit {0})
data_in file minf ds = dref_in file minf >>= λ dref. judged_by file minf dref ds

-- ---- the movie

-- the selected track, or the first fault before its tables
unfoldable pub taken_in : List ℕ → Found VideoTrack
taken_in file = do
  moov ← moov_in file
  _ ← whole_in file moov
  found ← first_track file (traks_of file moov) 1
  track ← some_or found NoProResTrack moov.at
  _ ← data_in file track.parts.minf track.descriptions
  Ok track

-- the selected track
pub record Movie : Type 0 where
  -- among the tracks of the movie, from 1
  pub number : ℕ
  -- of the first description
  pub kind : List ℕ
  pub width : ℕ
  pub height : ℕ
  -- its sample tables
  pub tables : Tables

-- the selected track and its samples, or the first fault
unfoldable pub movie_in : List ℕ → Found Movie
movie_in file = do
  track ← taken_in file
  tables ← tables_in file track.parts.stbl track.parts.mdia
  Ok (record {
    number = track.number;
    kind = track.first.kind;
    width = number_in w16 file (track.first.at + 32);
    height = number_in w16 file (track.first.at + 34);
    tables = tables;
  })

-- the summary of the track that the reader returns
abbrev pub track_of : Movie → Track
track_of m = record { number = m.number; timescale = m.tables.timescale; kind = m.kind; width = m.width; height = m.height; samples = length m.tables.sizes }

-- the start and end offsets of a sample, if the file has it
unfoldable pub span_in : List ℕ → Sample → Found (ℕ × ℕ)
span_in file s = do
  _ ← refuse (nat_lt (length file) (s.at + s.size)) SampleOutside s.at
  Ok (s.at, s.at + s.size)
