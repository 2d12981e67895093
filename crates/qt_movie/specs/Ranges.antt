-- Ranges of what is read, whether the store's bytes are visible or opaque.
use Rattle.std.specs.Prelude.{◌≡◌, ℕ, ◌+◌, ◌≤◌, true}
use Rattle.qt_atoms.specs.Atoms.{LiesIn}
use Rattle.qt_movie.specs.declared.parts.Parts.{Parts}
use Rattle.qt_movie.specs.declared.description.Description.{Description}
use Rattle.qt_movie.specs.Movie.{VideoTrack, is_prores}

-- the atoms of a track lie between these offsets
pub record PartsLie (at end : ℕ) (p : Parts) : Type 0 where
  pub mdia : LiesIn at end p.mdia
  pub hdlr : LiesIn at end p.hdlr
  pub minf : LiesIn at end p.minf
  pub stbl : LiesIn at end p.stbl
  pub stsd : LiesIn at end p.stsd

-- a description at this offset, which ends by `end`
pub record DescriptionLies (place end : ℕ) (d : Description) : Type 0 where
  pub begins : d.at ≡ place
  pub some : 16 ≤ d.size
  pub within : d.at + d.size ≤ end
  pub prores : is_prores d.kind ≡ true → 86 ≤ d.size

-- a ProRes description has its width and height before the end
abbrev pub HasSize : (end : ℕ) → Description → Type 0
HasSize end d = is_prores d.kind ≡ true → d.at + 86 ≤ end

-- a track whose atoms lie between these offsets, and whose first description is whole
pub record TrackLies (at end : ℕ) (t : VideoTrack) : Type 0 where
  pub parts : PartsLie at end t.parts
  pub first : t.first.at + 86 ≤ end
