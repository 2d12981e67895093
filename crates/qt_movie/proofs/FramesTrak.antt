-- The track of a movie of frames.
use Rattle.std.proofs.Common.{◌≡◌, ℕ, zero, suc, ◌+◌, ◌*◌, ◌≤◌, ◌<◌, Bool, true, false, List, [], ◌∷◌, ◌++◌, length, map, take, Result, Ok, Err, refl, sym, ap, ◌∙◌, arith, append_assoc, get_or}
use Rattle.std.specs.Prelude.{IfOk, ◌==◌, if◌then◌else◌}
use Rattle.std.proofs.lemmas.List.{append-nil, length-map}
use Rattle.pic_y4m.specs.declared.head.Head.{Head}
use Rattle.qt_atoms.specs.Written.{atom_of}
use Rattle.qt_tables.specs.declared.writer.Extent.{Extent}
use Rattle.qt_tables.specs.Writing.{sizes_of, places_of}
use Rattle.qt_movie.specs.declared.trak.Media.TheVariants as media
use Rattle.qt_movie.specs.Bodies.{nodes_bytes}
use Rattle.qt_movie.specs.Trak.{TrakValues, IsTrak, trak_node, moov_of_traks}
use Rattle.qt_movie.specs.MovieBytes.{kind_of, pixel_bits, one_run, duration_of, frames_trak, moov_bytes, extents_from, extents}
use Rattle.qt_tables.specs.declared.tables.TheConstants.{MAX_SAMPLES}

-- ---- consecutive tracks

nodes-more : (traks : List TrakValues) (i : ℕ) (t : TrakValues) → i < length traks → t ≡ get_or traks i t
    → nodes_bytes (map trak_node (take (i + 1) traks)) ≡ nodes_bytes (map trak_node (take i traks)) ++ atom_of (trak_node t)
nodes-more [] i t lt is = absurd (omega (arith, lt))
nodes-more (x ∷ traks) zero t lt is = append-nil (atom_of (trak_node x)) ∙ ap (λ q. atom_of (trak_node q)) (sym is)
nodes-more (x ∷ traks) (suc i) t lt is =
    let e : suc i + 1 ≡ suc (i + 1) = omega arith in
    ap (λ k. nodes_bytes (map trak_node (take k (x ∷ traks)))) e
    ∙ ap (λ l. atom_of (trak_node x) ++ l) (nodes-more traks i t (omega (arith, lt)) is)
    ∙ sym (append_assoc (atom_of (trak_node x)) (nodes_bytes (map trak_node (take i traks))) (atom_of (trak_node t)))

-- one more track was appended
pub traks_more : (old held new : List ℕ) (traks : List TrakValues) (i : ℕ) (t : TrakValues) → i < length traks → t ≡ get_or traks i t
    → held ≡ old ++ nodes_bytes (map trak_node (take i traks)) → new ≡ held ++ atom_of (trak_node t) → new ≡ old ++ nodes_bytes (map trak_node (take (i + 1) traks))
traks_more old held new traks i t lt is before appended =
    appended ∙ ap (λ l. l ++ atom_of (trak_node t)) before ∙ append_assoc old (nodes_bytes (map trak_node (take i traks))) (atom_of (trak_node t)) ∙ ap (λ l. old ++ l) (sym (nodes-more traks i t lt is))

-- ---- the track of frames

length-from : (place : ℕ) (sizes : List ℕ) → length (extents_from place sizes) ≡ length sizes
length-from place [] = refl
length-from place (size ∷ sizes) = ap suc (length-from (place + (8 + size)) sizes)

pub length-extents : (sizes : List ℕ) → length (extents sizes) ≡ length sizes
length-extents sizes = length-from 20 sizes

sizes-from : (place : ℕ) (sizes : List ℕ) → sizes_of (extents_from place sizes) ≡ sizes
sizes-from place [] = refl
sizes-from place (size ∷ sizes) = ap (λ l. size ∷ l) (sizes-from (place + (8 + size)) sizes)

-- the values of a track of pictures
abbrev values : (duration timescale : ℕ) → (kind : List ℕ) → (width height depth : ℕ) → List (ℕ × ℕ) → List (ℕ × ℕ × ℕ) → (count : ℕ) → (sizes offsets : List ℕ) → TrakValues
values duration timescale kind width height depth stts stsc count sizes offsets = record {
  number = 1;
  movie_duration = duration;
  timescale = timescale;
  duration = duration;
  media = media.Video kind width height depth;
  stts = stts;
  stsc = stsc;
  common = 0;
  count = count;
  sizes = sizes;
  offsets = offsets;
}

pub trak_is : (head : Head) (sizes : List ℕ) (duration : ℕ) (kind : List ℕ) (bits : ℕ) (stts : List (ℕ × ℕ)) (stsc : List (ℕ × ℕ × ℕ)) (count : ℕ) (offsets : List ℕ)
    → duration ≡ length sizes * head.den → count ≡ length sizes → kind ≡ kind_of head → bits ≡ pixel_bits head.alpha → stts ≡ one_run count (count, head.den) → stsc ≡ one_run count (1, 1, 1) → offsets ≡ places_of (extents sizes)
    → values duration head.num kind head.width head.height bits stts stsc count sizes offsets ≡ frames_trak head (extents sizes)
trak_is head sizes duration kind bits stts stsc count offsets d n k b t c o =
    let m : count ≡ length (extents sizes) = n ∙ sym (length-extents sizes) in
    let e : duration ≡ duration_of head (extents sizes) = d ∙ ap (λ k. k * head.den) (sym (length-extents sizes)) in
    let s : sizes ≡ sizes_of (extents sizes) = sym (sizes-from 20 sizes) in
    let t' : stts ≡ one_run (length (extents sizes)) (length (extents sizes), head.den) = t ∙ ap (λ k. one_run k (k, head.den)) m in
    let c' : stsc ≡ one_run (length (extents sizes)) (1, 1, 1) = c ∙ ap (λ k. one_run k (1, 1, 1)) m in
    ap (λ d. values d head.num kind head.width head.height bits stts stsc count sizes offsets) e
    ∙ ap (λ k. values (duration_of head (extents sizes)) head.num k head.width head.height bits stts stsc count sizes offsets) k
    ∙ ap (λ b. values (duration_of head (extents sizes)) head.num (kind_of head) head.width head.height b stts stsc count sizes offsets) b
    ∙ ap (λ l. values (duration_of head (extents sizes)) head.num (kind_of head) head.width head.height (pixel_bits head.alpha) l stsc count sizes offsets) t'
    ∙ ap (λ l. values (duration_of head (extents sizes)) head.num (kind_of head) head.width head.height (pixel_bits head.alpha) (one_run (length (extents sizes)) (length (extents sizes), head.den)) l count sizes offsets) c'
    ∙ ap (λ n. values (duration_of head (extents sizes)) head.num (kind_of head) head.width head.height (pixel_bits head.alpha) (one_run (length (extents sizes)) (length (extents sizes), head.den)) (one_run (length (extents sizes)) (1, 1, 1)) n sizes offsets) m
    ∙ ap (λ l. values (duration_of head (extents sizes)) head.num (kind_of head) head.width head.height (pixel_bits head.alpha) (one_run (length (extents sizes)) (length (extents sizes), head.den)) (one_run (length (extents sizes)) (1, 1, 1)) (length (extents sizes)) sizes l) o
    ∙ ap (λ l. values (duration_of head (extents sizes)) head.num (kind_of head) head.width head.height (pixel_bits head.alpha) (one_run (length (extents sizes)) (length (extents sizes), head.den)) (one_run (length (extents sizes)) (1, 1, 1)) (length (extents sizes)) l (places_of (extents sizes))) s

pub run-few : {Run : Type 0} (b : Bool) (run : Run) → length (if b then [] else run ∷ []) ≤ 1
run-few true run = omega arith
run-few false run = omega arith

-- it can be written
pub trak_can : (head : Head) (es : List Extent) → length es ≤ MAX_SAMPLES → IsTrak (frames_trak head es)
trak_can head es few = record {
  few_times = omega (arith, run-few {Run = ℕ × ℕ} (length es == 0) (length es, head.den));
  few_runs = omega (arith, run-few {Run = ℕ × ℕ × ℕ} (length es == 0) (1, 1, 1));
  few_sizes = omega (arith, few, length-map es (λ (e : Extent). e.size));
  few_chunks = omega (arith, few, length-map es (λ (e : Extent). e.at));
  sized = length-map es (λ (e : Extent). e.size);
}

pub moov_is : {E : Type 0} (r : Result (List ℕ) E) (head : Head) (sizes : List ℕ) (duration : ℕ) (t : TrakValues) → duration ≡ length sizes * head.den → t ≡ frames_trak head (extents sizes)
    → IfOk r (λ atoms. atoms ≡ moov_of_traks head.num duration (t ∷ [])) → IfOk r (λ atoms. atoms ≡ moov_bytes head (extents sizes))
unfolding moov_bytes
moov_is (Ok atoms) head sizes duration t d e h =
    h ∙ ap (λ d. moov_of_traks head.num d (t ∷ [])) (d ∙ ap (λ k. k * head.den) (sym (length-extents sizes))) ∙ ap (λ t. moov_of_traks head.num (duration_of head (extents sizes)) (t ∷ [])) e
moov_is (Err x) head sizes duration t d e h = tt
