-- A movie whose first track has ProRes pictures is read back.
use Rattle.std.proofs.Common.{◌≡◌, ℕ, ◌+◌, ◌≤◌, ◌<◌, ◌^◌, Bool, true, false, ◌||◌, List, [], ◌∷◌, ◌++◌, length, map, take, drop, None, Some, Ok, refl, sym, ap, subst, ◌∙◌, arith}
use Rattle.std.specs.Prelude.{codes, ◌==◌, nat_lt, if◌then◌else◌}
use Rattle.std.specs.List.{AllByRecursion, filter, find, list_any}
use Rattle.std.specs.Str.{bytes_eq}
use Rattle.std.specs.Int.{w16}
use Rattle.std.proofs.lemmas.Bool.Decides.{nat_tests}
use Rattle.std.proofs.lemmas.List.{length-replicate}
use Rattle.std.proofs.lemmas.List.Elements.{recursion_from_All}
use Rattle.std.proofs.lemmas.Slice.Eq.{bytes_eq-Decides}
use Rattle.pw_outside.specs.Reading.{bind}
use Rattle.qt_atoms.specs.Atoms.{Walk, child_of, children, first_in, found_or, is_one_of, number_in}
use Rattle.qt_atoms.specs.Written.{IsNode, placed}
use Rattle.qt_tables.specs.Samples.{Tables}
use Rattle.qt_tables.specs.Tables.{body_length, tables_in, descriptions_of, is_in_order}
use Rattle.qt_tables.proofs.Reread.{tables-read, table-there}
use Rattle.qt_movie.specs.declared.parts.Parts.{Parts}
use Rattle.qt_movie.specs.declared.description.Description.{Description}
use Rattle.qt_movie.specs.declared.trak.Media.{Media}
use Rattle.qt_movie.specs.declared.trak.Media.TheVariants as media
use Rattle.qt_movie.specs.Movie.{is_trak, traks_of, is_video, is_prores, descriptions_in, VideoTrack, moov_in, taken_in, movie_in}
use Rattle.qt_movie.specs.Bodies.{node, be32}
use Rattle.qt_movie.specs.Trak.{TrakValues, IsTrak, stts_body, stsc_body, stsz_body, stsd_body, are_near, offsets_node, stbl_nodes, trak_node, moov_nodes}
use Rattle.qt_movie.specs.Laws.{traks_bytes, tables_of, HasKind, IsReadable, WrittenTraksAreRead}
use Rattle.qt_movie.proofs.Stands.{Stands, atom_here, inside, body_here, first_stands, others_stand, children_met}
use Rattle.qt_movie.proofs.Nodes.{length-moov, are-moov, are-stbl}
use Rattle.qt_movie.proofs.TopLevel.{moov_node, moov_place, moov_stands, moov_found}
use Rattle.qt_movie.proofs.WrittenFields.{body-of, description_here, is-video, timescale-read, references-read, stsd-read}
use Rattle.qt_movie.proofs.WrittenTables.{number_here, time_run, times-written, chunk_run, RunFits, runs-written, sizes_by, sizes-written, places_by, places-written}
use Rattle.qt_movie.proofs.WrittenParts.{mdia_node, mdhd_node, hdlr_node, minf_node, dinf_node, dref_node, stbl_node, stsd_node, behind_node, mvhd_node, trak_place, mdia_place, hdlr_place, minf_place, dinf_place, stbl_place, traks_stand, mdia_stands, mdhd_stands, hdlr_stands, minf_stands, dinf_stands, stbl_stands, stsd_stands, dref_stands, mdia_found, mdhd_found, hdlr_found, minf_found, dinf_found, stbl_found, stsd_found, dref_found, whole_read, parts_read, track_read, data_read, taken_read}
use Rattle.qt_tables.specs.declared.tables.TheConstants.{MAX_SAMPLES}

-- ---- a ProRes kind has four bytes

four-by : (b : Bool) (kind k : List ℕ) (others : Bool) → bytes_eq kind k ≡ b → length k ≡ 4 → (others ≡ true → length kind ≡ 4) → (b || others) ≡ true → length kind ≡ 4
four-by true kind k others e four rest h = ap length ((bytes_eq-Decides kind k).0 e) ∙ four
four-by false kind k others e four rest h = rest h

any-four : (kind : List ℕ) (kinds : List (List ℕ)) → AllByRecursion (λ k. length k ≡ 4) kinds → list_any (bytes_eq kind) kinds ≡ true → length kind ≡ 4
any-four kind [] fours h = absurd cc
any-four kind (k ∷ kinds) fours h = four-by (bytes_eq kind k) kind k (list_any (bytes_eq kind) kinds) refl fours.0 (any-four kind kinds fours.1) h

pub prores-four : (kind : List ℕ) → is_prores kind ≡ true → length kind ≡ 4
prores-four kind h = any-four kind (codes "apco" ∷ codes "apcs" ∷ codes "apcn" ∷ codes "apch" ∷ codes "ap4h" ∷ codes "ap4x" ∷ []) (refl, (refl, (refl, (refl, (refl, (refl, tt)))))) h

-- ---- the tracks of the movie atom

none-unread : (traks : List TrakValues) (at : ℕ) → find (is_one_of (codes "cmov" ∷ codes "mvex" ∷ [])) (placed at (map trak_node traks)) ≡ None
none-unread [] at = refl
none-unread (t ∷ traks) at = none-unread traks (behind_node at (trak_node t))

all-traks : (traks : List TrakValues) (at : ℕ) → filter is_trak (placed at (map trak_node traks)) ≡ placed at (map trak_node traks)
all-traks [] at = refl
all-traks (t ∷ traks) at = ap (λ l. atom_here at (trak_node t) ∷ l) (all-traks traks (behind_node at (trak_node t)))

-- the contents of a movie atom with these tracks
pub moov_children : (file : List ℕ) (at timescale duration : ℕ) (traks : List TrakValues) → AllByRecursion IsTrak traks → AllByRecursion (λ t. HasKind t.media) traks → Stands file at (moov_node timescale duration traks)
    → children file (atom_here at (moov_node timescale duration traks)) ≡ record { atoms = atom_here (at + 8) (mvhd_node timescale duration traks) ∷ placed (trak_place at timescale duration traks) (map trak_node traks); bad = None }
moov_children file at timescale duration traks is has s = children_met file at (codes "moov") (moov_nodes timescale duration traks) refl (are-moov timescale duration traks is has) s

-- its tracks in order
pub traks_are : (file : List ℕ) (at timescale duration : ℕ) (traks : List TrakValues) → AllByRecursion IsTrak traks → AllByRecursion (λ t. HasKind t.media) traks → Stands file at (moov_node timescale duration traks)
    → traks_of file (atom_here at (moov_node timescale duration traks)) ≡ placed (trak_place at timescale duration traks) (map trak_node traks)
traks_are file at timescale duration traks is has s =
    ap (λ (w : Walk). filter is_trak w.atoms) (moov_children file at timescale duration traks is has s) ∙ all-traks traks (trak_place at timescale duration traks)

pub unread : (file : List ℕ) (at timescale duration : ℕ) (traks : List TrakValues) → AllByRecursion IsTrak traks → AllByRecursion (λ t. HasKind t.media) traks → Stands file at (moov_node timescale duration traks)
    → child_of file (atom_here at (moov_node timescale duration traks)) (codes "cmov" ∷ codes "mvex" ∷ []) ≡ Ok None
unread file at timescale duration traks is has s =
    ap (first_in (is_one_of (codes "cmov" ∷ codes "mvex" ∷ []))) (moov_children file at timescale duration traks is has s)
    ∙ rw (none-unread traks (trak_place at timescale duration traks)) refl

-- ---- the tables

stsd-some : (m : Media) → 8 ≤ length (stsd_body m)
stsd-some m = omega arith

stsd-count : (m : Media) (behind : List ℕ) → take 4 (drop 4 (stsd_body m ++ behind)) ≡ be32 1
stsd-count m behind = refl

-- there is one description
pub one_described : (file : List ℕ) (at : ℕ) (m : Media) → Stands file at (stsd_node m) → descriptions_of file (Some (atom_here at (stsd_node m))) ≡ 1
one_described file at m s =
    let e : nat_lt (body_length (atom_here at (stsd_node m))) 8 ≡ false = grind (arith, nat_tests, body-of at (length (stsd_body m)), stsd-some m) in
    let n = number_here file (stsd_body m ++ s.behind) (at + 8) 4 1 (body_here file at (stsd_node m) refl s) (stsd-count m s.behind) (omega arith) in
    rw e n

pub last-found : (b : Bool) (at : ℕ) (offsets : List ℕ) → find (is_one_of (codes "stco" ∷ codes "co64" ∷ [])) (atom_here at (places_by b offsets) ∷ []) ≡ Some (atom_here at (places_by b offsets))
last-found true at offsets = refl
last-found false at offsets = refl

few-count : (b : Bool) (common count : ℕ) (sizes : List ℕ) → length sizes ≡ (if b then count else 0) → length (sizes_by b common count sizes) ≤ MAX_SAMPLES → count ≤ MAX_SAMPLES
few-count true common count sizes sized few = omega (arith, sized, few)
few-count false common count sizes sized few = omega (arith, length-replicate count common, few)

tables-here : (file : List ℕ) (mdia stbl : ℕ) (t : TrakValues) (kind : List ℕ) (width height depth : ℕ) → IsReadable t kind width height depth → HasKind t.media → Stands file mdia (mdia_node t) → Stands file stbl (stbl_node t)
    → tables_in file (atom_here stbl (stbl_node t)) (atom_here mdia (mdia_node t)) ≡ Ok (tables_of t)
tables-here file mdia stbl t kind width height depth r has m s =
    let is = r.written in
    let b = t.common == 0 in
    let n0 = stsd_node t.media in
    let n1 = node (codes "stts") (stts_body t.stts) in
    let n2 = node (codes "stsc") (stsc_body t.stsc) in
    let n3 = node (codes "stsz") (stsz_body t.common t.count t.sizes) in
    let n4 = offsets_node t.offsets in
    let p0 = stbl + 8 in
    let p1 = behind_node p0 n0 in
    let p2 = behind_node p1 n1 in
    let p3 = behind_node p2 n2 in
    let p4 = behind_node p3 n3 in
    let a0 = inside file stbl (codes "stbl") (stbl_nodes t) refl s in
    let a1 = others_stand file p0 n0 (n1 ∷ n2 ∷ n3 ∷ n4 ∷ []) refl a0 in
    let a2 = others_stand file p1 n1 (n2 ∷ n3 ∷ n4 ∷ []) refl a1 in
    let a3 = others_stand file p2 n2 (n3 ∷ n4 ∷ []) refl a2 in
    let a4 = others_stand file p3 n3 (n4 ∷ []) refl a3 in
    let s0 = first_stands file p0 n0 (n1 ∷ n2 ∷ n3 ∷ n4 ∷ []) a0 in
    let s1 = first_stands file p1 n1 (n2 ∷ n3 ∷ n4 ∷ []) a1 in
    let s2 = first_stands file p2 n2 (n3 ∷ n4 ∷ []) a2 in
    let s3 = first_stands file p3 n3 (n4 ∷ []) a3 in
    let s4 = first_stands file p4 n4 [] a4 in
    let walked = children_met file stbl (codes "stbl") (stbl_nodes t) refl (are-stbl t is has) s in
    let one = one_described file p0 t.media s0 in
    let runs = map chunk_run t.stsc in
    let order : is_in_order (descriptions_of file (Some (atom_here p0 n0))) 0 runs ≡ true = ap (λ n. is_in_order n 0 runs) one ∙ r.in_order in
    let last : child_of file (atom_here stbl (stbl_node t)) (codes "stco" ∷ codes "co64" ∷ []) ≡ Ok (Some (atom_here p4 n4)) =
    ap (first_in (is_one_of (codes "stco" ∷ codes "co64" ∷ []))) walked ∙ ap (λ a. found_or a (Ok None)) (last-found (are_near t.offsets) p4 t.offsets) in
    tables-read file (atom_here stbl (stbl_node t)) (atom_here mdia (mdia_node t)) (atom_here (mdia + 8) (mdhd_node t)) (atom_here p0 n0) (atom_here p1 n1) (atom_here p2 n2) (atom_here p3 n3) (atom_here p4 n4)
    t.timescale (sizes_by b t.common t.count t.sizes) (map time_run t.stts) runs t.offsets
    (table-there file (codes "mdhd") (atom_here mdia (mdia_node t)) (atom_here (mdia + 8) (mdhd_node t)) (mdhd_found file mdia t is has m))
    (timescale-read file (mdia + 8) t.timescale t.duration (mdhd_stands file mdia t m) r.tables.timescale r.timescale)
    (ap (first_in (is_one_of (codes "stsz" ∷ []))) walked)
    (sizes-written b file p3 t.common t.count t.sizes refl s3 is.sized (few-count b t.common t.count t.sizes is.sized r.tables.few_samples) r.common (recursion_from_All (λ size. size < 2 ^ 32) t.sizes r.sizes))
    (ap (first_in (is_one_of (codes "stts" ∷ []))) walked)
    (times-written file p1 t.stts s1 is.few_times (recursion_from_All (λ q. (q.0 < 2 ^ 32) × (q.1 < 2 ^ 32)) t.stts r.times))
    (ap (first_in (is_one_of (codes "stsc" ∷ []))) walked) (ap (first_in (is_one_of (codes "stsd" ∷ []))) walked)
    (runs-written file p2 (descriptions_of file (Some (atom_here p0 n0))) t.stsc s2 is.few_runs (recursion_from_All RunFits t.stsc r.runs) r.tables.runs.begins order)
    last (places-written (are_near t.offsets) file p4 t.offsets refl s4 is.few_chunks (recursion_from_All (λ offset. offset < 2 ^ 62) t.offsets r.tables.near))
    r.tables.timed r.tables.chunked

-- ---- the movie

video-of : (file : List ℕ) (at : ℕ) (m v : Media) → m ≡ v → (Stands file at (hdlr_node v) → is_video file (atom_here at (hdlr_node v)) ≡ true) → Stands file at (hdlr_node m) → is_video file (atom_here at (hdlr_node m)) ≡ true
video-of file at m v e = subst (λ x. (Stands file at (hdlr_node x) → is_video file (atom_here at (hdlr_node x)) ≡ true)) (sym e)

-- the description that is read, for any name of the media
record Described (file : List ℕ) (at : ℕ) (m : Media) (kind : List ℕ) (width height : ℕ) : Type 0 where
  descriptions : descriptions_in file (atom_here at (stsd_node m)) ≡ Ok (description_here kind ((at + 8) + 8) ∷ [])
  wide : number_in w16 file (((at + 8) + 8) + 32) ≡ width
  high : number_in w16 file (((at + 8) + 8) + 34) ≡ height

described-of : (file : List ℕ) (at : ℕ) (m : Media) (kind : List ℕ) (width height depth : ℕ) → m ≡ media.Video kind width height depth → is_prores kind ≡ true → width < 2 ^ 16 → height < 2 ^ 16
    → Stands file at (stsd_node m) → Described file at m kind width height
described-of file at m kind width height depth e prores wide high =
    subst (λ x. (Stands file at (stsd_node x) → Described file at x kind width height)) (sym e)
    (λ s. let d = stsd-read file at kind width height depth (prores-four kind prores) prores wide high s in record { descriptions = d.descriptions; wide = d.width_is; high = d.height_is })

movie-read : (file : List ℕ) (t : VideoTrack) (tables : Tables) (width height : ℕ) → taken_in file ≡ Ok t → tables_in file t.parts.stbl t.parts.mdia ≡ Ok tables
    → number_in w16 file (t.first.at + 32) ≡ width → number_in w16 file (t.first.at + 34) ≡ height
    → movie_in file ≡ Ok (record { number = t.number; kind = t.first.kind; width = width; height = height; tables = tables })
unfolding movie_in bind
movie-read file t tables width height a b c d = rw (a, b, c, d) refl

-- a file in which this movie atom is the one that is read
with-moov : (file : List ℕ) (at timescale duration : ℕ) (t : TrakValues) (others : List TrakValues) (kind : List ℕ) (width height depth : ℕ)
    → IsReadable t kind width height depth → HasKind t.media → AllByRecursion IsTrak (t ∷ others) → AllByRecursion (λ o. HasKind o.media) (t ∷ others)
    → Stands file at (moov_node timescale duration (t ∷ others)) → moov_in file ≡ Ok (atom_here at (moov_node timescale duration (t ∷ others)))
    → movie_in file ≡ Ok (record { number = 1; kind = kind; width = width; height = height; tables = tables_of t })
with-moov file at timescale duration t others kind width height depth r has all_are all_have s found =
    let traks = t ∷ others in
    let is = r.written in
    let trak_at = trak_place at timescale duration traks in
    let mdia_at = mdia_place trak_at t in
    let hdlr_at = hdlr_place mdia_at t in
    let minf_at = minf_place mdia_at t in
    let dinf_at = dinf_place minf_at t.media in
    let stbl_at = stbl_place minf_at t.media in
    let moov = atom_here at (moov_node timescale duration traks) in
    let trak = atom_here trak_at (trak_node t) in
    let mdia = atom_here mdia_at (mdia_node t) in
    let hdlr = atom_here hdlr_at (hdlr_node t.media) in
    let minf = atom_here minf_at (minf_node t) in
    let dinf = atom_here dinf_at dinf_node in
    let dref = atom_here (dinf_at + 8) dref_node in
    let stbl = atom_here stbl_at (stbl_node t) in
    let stsd = atom_here (stbl_at + 8) (stsd_node t.media) in
    let parts : Parts = record { mdia = mdia; hdlr = hdlr; minf = minf; stbl = stbl; stsd = stsd } in
    let d : Description = description_here kind (((stbl_at + 8) + 8) + 8) in
    let v : VideoTrack = record { number = 1; parts = parts; first = d; descriptions = d ∷ [] } in
    let trak_s = first_stands file trak_at (trak_node t) (map trak_node others) (traks_stand file at timescale duration traks s) in
    let mdia_s = mdia_stands file trak_at t trak_s in
    let hdlr_s = hdlr_stands file mdia_at t mdia_s in
    let minf_s = minf_stands file mdia_at t mdia_s in
    let dinf_s = dinf_stands file minf_at t minf_s in
    let stbl_s = stbl_stands file minf_at t minf_s in
    let stsd_s = stsd_stands file stbl_at t stbl_s in
    let described = described-of file (stbl_at + 8) t.media kind width height depth r.media r.prores r.wide r.high stsd_s in
    let p = parts_read file trak mdia hdlr minf stbl stsd
    (mdia_found file trak_at t is has trak_s) (hdlr_found file mdia_at t is has mdia_s) (minf_found file mdia_at t is has mdia_s)
    (stbl_found file minf_at t is has minf_s) (stsd_found file stbl_at t is has stbl_s) in
    let video = video-of file hdlr_at t.media (media.Video kind width height depth) r.media (is-video file hdlr_at) hdlr_s in
    let track = track_read file 1 trak parts d p video described.descriptions r.prores in
    let lies = data_read file minf dinf dref d (dinf_found file minf_at t is has minf_s) (dref_found file dinf_at dinf_s) (references-read file (dinf_at + 8) (dref_stands file dinf_at dinf_s)) refl in
    let behind = placed (behind_node trak_at (trak_node t)) (map trak_node others) in
    let taken = taken_read file moov trak behind v found (whole_read file moov (unread file at timescale duration traks all_are all_have s)) (traks_are file at timescale duration traks all_are all_have s) track lies in
    movie-read file v (tables_of t) width height taken (tables-here file mdia_at stbl_at t kind width height depth r has mdia_s stbl_s) described.wide described.high

pub traks_read : WrittenTraksAreRead
traks_read bodies timescale duration t others kind width height depth small r is has few =
    let kind_is : HasKind t.media = subst HasKind (sym r.media) (prores-four kind r.prores) in
    let traks = t ∷ others in
    let all_are : AllByRecursion IsTrak traks = (r.written, recursion_from_All IsTrak others is) in
    let all_have : AllByRecursion (λ o. HasKind o.media) traks = (kind_is, recursion_from_All (λ (o : TrakValues). HasKind o.media) others has) in
    let each = recursion_from_All (λ (body : List ℕ). length body + 8 < 2 ^ 32) bodies small in
    let last : IsNode (moov_node timescale duration traks) = record { kind = refl; size = omega (arith, length-moov timescale duration traks all_are all_have (omega (arith, few))) } in
    with-moov (traks_bytes bodies timescale duration traks) (moov_place bodies) timescale duration t others kind width height depth r kind_is all_are all_have
    (moov_stands bodies timescale duration traks) (moov_found bodies timescale duration traks each last)
