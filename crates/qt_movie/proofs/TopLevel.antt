-- The top level of a written movie: the file type, data atoms, and the movie atom.
use Rattle.std.proofs.Common.{◌≡◌, ℕ, ◌+◌, ◌<◌, ◌^◌, Bool, true, false, List, [], ◌∷◌, ◌++◌, length, map, Some, None, Ok, refl, sym, ap, ◌∙◌, arith, append_assoc}
use Rattle.std.specs.Prelude.{codes}
use Rattle.std.specs.List.{flat_map, find, AllByRecursion}
use Rattle.std.proofs.lemmas.List.{append-nil}
use Rattle.pw_outside.specs.Reading.{bind}
use Rattle.qt_atoms.specs.declared.atom.Atom.{Atom}
use Rattle.qt_atoms.specs.Atoms.{Walk, top_level, first_in, first_at_top, is_one_of, found_or}
use Rattle.qt_atoms.specs.Written.{Node, atom_of, IsNode, placed}
use Rattle.qt_movie.specs.Movie.{moov_in}
use Rattle.qt_movie.specs.Bodies.{be32, node, nodes_bytes}
use Rattle.qt_movie.specs.Trak.{TrakValues, moov_nodes, moov_of_traks}
use Rattle.qt_movie.specs.MovieBytes.{frame_bytes}
use Rattle.qt_movie.specs.Laws.{traks_bytes}
use Rattle.qt_movie.proofs.Stands.{StandAll, Stands, atom_here, first_stands, others_stand, walk_met}

abbrev mdat_node : List ℕ → Node
mdat_node frame = node (codes "mdat") frame

abbrev ftyp_node : Node
ftyp_node = node (codes "ftyp") (codes "qt  " ++ be32 0 ++ codes "qt  ")

abbrev pub moov_node : (timescale duration : ℕ) → List TrakValues → Node
moov_node timescale duration traks = node (codes "moov") (nodes_bytes (moov_nodes timescale duration traks))

-- the data of each frame, and then this atom
abbrev then_last : List (List ℕ) → Node → List Node
then_last frames n = map mdat_node frames ++ n ∷ []

frames-are : (frames : List (List ℕ)) (n : Node) → flat_map frame_bytes frames ++ atom_of n ≡ nodes_bytes (then_last frames n)
frames-are [] n = sym (append-nil (atom_of n))
frames-are (frame ∷ frames) n = append_assoc (frame_bytes frame) (flat_map frame_bytes frames) (atom_of n) ∙ ap (λ l. frame_bytes frame ++ l) (frames-are frames n)

movie-is : (bodies : List (List ℕ)) (timescale duration : ℕ) (traks : List TrakValues) → traks_bytes bodies timescale duration traks ≡ nodes_bytes (ftyp_node ∷ then_last bodies (moov_node timescale duration traks))
unfolding moov_of_traks
movie-is bodies timescale duration traks = ap (λ l. atom_of ftyp_node ++ l) (frames-are bodies (moov_node timescale duration traks))

are-last : (frames : List (List ℕ)) (n : Node) → AllByRecursion (λ frame. length frame + 8 < 2 ^ 32) frames → IsNode n → AllByRecursion IsNode (then_last frames n)
are-last [] n h last = (last, tt)
are-last (frame ∷ frames) n h last = (record { kind = refl; size = omega (arith, h.0) }, are-last frames n h.1 last)

-- the offset of the atom after the data of the frames
abbrev pub behind_data : ℕ → List (List ℕ) → ℕ
behind_data at [] = at
behind_data at (frame ∷ frames) = behind_data (at + (length frame + 8)) frames

-- no data atom passes the test
find-last : (test : Atom → Bool) (at : ℕ) (frames : List (List ℕ)) (n : Node) → ((a : Atom) → a.kind ≡ codes "mdat" → test a ≡ false)
    → find test (placed at (then_last frames n)) ≡ find test (atom_here (behind_data at frames) n ∷ [])
find-last test at [] n h = refl
find-last test at (frame ∷ frames) n h =
    let miss : test (atom_here at (mdat_node frame)) ≡ false = h (atom_here at (mdat_node frame)) refl in
    rw miss (find-last test (at + (length frame + 8)) frames n h)

last-stands : (file : List ℕ) (at : ℕ) (frames : List (List ℕ)) (n : Node) → StandAll file at (then_last frames n) → Stands file (behind_data at frames) n
last-stands file at [] n s = first_stands file at n [] s
last-stands file at (frame ∷ frames) n s = last-stands file (at + (length frame + 8)) frames n (others_stand file at (mdat_node frame) (then_last frames n) refl s)

-- the offset of the movie atom
abbrev pub moov_place : List (List ℕ) → ℕ
moov_place frames = behind_data 20 frames

all-stand : (bodies : List (List ℕ)) (timescale duration : ℕ) (traks : List TrakValues) → StandAll (traks_bytes bodies timescale duration traks) 0 (ftyp_node ∷ then_last bodies (moov_node timescale duration traks))
all-stand bodies timescale duration traks =
    let nodes = ftyp_node ∷ then_last bodies (moov_node timescale duration traks) in
    record { front = []; behind = []; whole = movie-is bodies timescale duration traks ∙ sym (append-nil (nodes_bytes nodes)); place = refl }

pub moov_stands : (bodies : List (List ℕ)) (timescale duration : ℕ) (traks : List TrakValues) → Stands (traks_bytes bodies timescale duration traks) (moov_place bodies) (moov_node timescale duration traks)
moov_stands bodies timescale duration traks =
    let file = traks_bytes bodies timescale duration traks in
    let n = moov_node timescale duration traks in
    last-stands file 20 bodies n (others_stand file 0 ftyp_node (then_last bodies n) refl (all-stand bodies timescale duration traks))

found : (file : List ℕ) (kinds : List (List ℕ)) (frames : List (List ℕ)) (n : Node) → top_level file ≡ record { atoms = placed 0 (ftyp_node ∷ then_last frames n); bad = None }
    → ((a : Atom) → a.kind ≡ codes "mdat" → is_one_of kinds a ≡ false) → is_one_of kinds (atom_here 0 ftyp_node) ≡ false
    → first_at_top file kinds ≡ found_or (find (is_one_of kinds) (atom_here (moov_place frames) n ∷ [])) (Ok None)
found file kinds frames n walked no_data no_type =
    let met : Walk = record { atoms = placed 0 (ftyp_node ∷ then_last frames n); bad = None } in
    let there : find (is_one_of kinds) (placed 0 (ftyp_node ∷ then_last frames n)) ≡ find (is_one_of kinds) (atom_here (moov_place frames) n ∷ []) = rw no_type (find-last (is_one_of kinds) 20 frames n no_data) in
    ap (first_in (is_one_of kinds)) walked ∙ ap (λ a. found_or a (Ok None)) there

moov-read : (file : List ℕ) (moov : Atom) → first_at_top file (codes "moof" ∷ []) ≡ Ok None → first_at_top file (codes "moov" ∷ []) ≡ Ok (Some moov) → moov_in file ≡ Ok moov
unfolding moov_in bind
moov-read file moov a b = rw (a, b) refl

length-whole : (file whole : List ℕ) → file ≡ whole → length file ≡ 0 + length whole
length-whole file whole e = omega (arith, ap length e)

-- the movie atom of a written movie is found
pub moov_found : (bodies : List (List ℕ)) (timescale duration : ℕ) (traks : List TrakValues) → AllByRecursion (λ frame. length frame + 8 < 2 ^ 32) bodies → IsNode (moov_node timescale duration traks)
    → moov_in (traks_bytes bodies timescale duration traks) ≡ Ok (atom_here (moov_place bodies) (moov_node timescale duration traks))
moov_found bodies timescale duration traks h last =
    let file = traks_bytes bodies timescale duration traks in
    let n = moov_node timescale duration traks in
    let nodes = ftyp_node ∷ then_last bodies n in
    let first : IsNode ftyp_node = record { kind = refl; size = omega arith } in
    let are : AllByRecursion IsNode nodes = (first, are-last bodies n h last) in
    let walked : top_level file ≡ record { atoms = placed 0 nodes; bad = None } = walk_met file 0 (length file) true nodes are (all-stand bodies timescale duration traks) (length-whole file (nodes_bytes nodes) (movie-is bodies timescale duration traks)) in
    moov-read file (atom_here (moov_place bodies) n)
    (found file (codes "moof" ∷ []) bodies n walked (λ a e. rw e refl) refl)
    (found file (codes "moov" ∷ []) bodies n walked (λ a e. rw e refl) refl)
