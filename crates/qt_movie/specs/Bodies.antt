-- The bodies of atoms of a movie atom that contain no atoms, from their values. Atoms and fields by the QuickTime
-- File Format.
use Rattle.std.specs.Prelude.{ℕ, List, [], ◌∷◌, ◌++◌, replicate, codes}
use Rattle.std.specs.List.{flat_map}
use Rattle.std.specs.Int.{w16, w32, to_be_bytes}
use Rattle.qt_atoms.specs.Written.{Node, atom_of}

abbrev pub be16 : ℕ → List ℕ
be16 n = to_be_bytes w16 n

abbrev pub be32 : ℕ → List ℕ
be32 n = to_be_bytes w32 n

-- `n` zero bytes
abbrev pub zeros : ℕ → List ℕ
zeros n = replicate n 0

abbrev pub node : (kind body : List ℕ) → Node
node kind body = record { kind = kind; body = body }

abbrev pub nodes_bytes : List Node → List ℕ
nodes_bytes nodes = flat_map atom_of nodes

-- the identity matrix
abbrev pub unit_matrix : List ℕ
unit_matrix = be32 65536 ++ be32 0 ++ be32 0 ++ be32 0 ++ be32 65536 ++ be32 0 ++ be32 0 ++ be32 0 ++ be32 1073741824

-- version and flags, two times, time scale and duration, rate 1, volume 1, 10 reserved bytes, matrix, six times, next track
unfoldable pub mvhd_body : (timescale duration next : ℕ) → List ℕ
mvhd_body timescale duration next = be32 0 ++ be32 0 ++ be32 0 ++ be32 timescale ++ be32 duration ++ be32 65536 ++ be16 256 ++ zeros 10 ++ unit_matrix ++ zeros 24 ++ be32 next

-- version and flags, two times, time scale and duration, language and quality
unfoldable pub mdhd_body : (timescale duration : ℕ) → List ℕ
mdhd_body timescale duration = be32 0 ++ be32 0 ++ be32 0 ++ be32 timescale ++ be32 duration ++ be16 0 ++ be16 0

-- version and flags, type and subtype, manufacturer, flags and mask, an empty name
unfoldable pub hdlr_body : (type subtype : List ℕ) → List ℕ
hdlr_body type subtype = be32 0 ++ type ++ subtype ++ be32 0 ++ be32 0 ++ be32 0 ++ zeros 1

-- version and flags 1, mode and three colours
unfoldable pub vmhd_body : List ℕ
vmhd_body = be32 1 ++ be16 0 ++ zeros 6

-- version and flags, one entry: 12 bytes, an alias, with the flag for data in the same file
unfoldable pub dref_body : List ℕ
dref_body = be32 0 ++ be32 1 ++ be32 12 ++ codes "alis" ++ be32 1

abbrev pub dinf_nodes : List Node
dinf_nodes = node (codes "dref") dref_body ∷ []
