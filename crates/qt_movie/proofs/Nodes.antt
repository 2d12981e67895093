-- The atoms of a written track have 32-bit sizes.
use Rattle.std.proofs.Common.{◌≡◌, ℕ, ◌+◌, ◌*◌, ◌≤◌, Bool, true, false, List, [], ◌∷◌, length, map, refl, arith}
use Rattle.std.specs.Prelude.{codes, if◌then◌else◌}
use Rattle.std.specs.List.{AllByRecursion}
use Rattle.qt_atoms.specs.Written.{IsNode}
use Rattle.qt_movie.specs.declared.trak.Media.{Media}
use Rattle.qt_movie.specs.declared.trak.Media.TheVariants as media
use Rattle.qt_movie.specs.Bodies.{node, nodes_bytes, mvhd_body, mdhd_body, hdlr_body, vmhd_body, dref_body, dinf_nodes}
use Rattle.qt_movie.specs.Trak.{TrakValues, IsTrak, subtype_of, smhd_body, media_node, pictures_bytes, sound_bytes, stsd_body, stts_body, stsc_body, stsz_body, are_near, stco_body, co64_body, offsets_node, tkhd_body, stbl_nodes, minf_nodes, mdia_nodes, trak_nodes, trak_node, moov_nodes}
use Rattle.qt_movie.specs.Laws.{HasKind}
use Rattle.qt_movie.proofs.Lengths.{length-stts, length-stsc, length-stsz, length-stco, length-co64, length-nodes}
use Rattle.qt_tables.specs.declared.tables.TheConstants.{MAX_SAMPLES}

pub length-mvhd : (timescale duration next : ℕ) → length (mvhd_body timescale duration next) ≡ 100
unfolding mvhd_body
length-mvhd timescale duration next = refl

pub length-tkhd : (t : TrakValues) → length (tkhd_body t) ≡ 84
unfolding tkhd_body
length-tkhd t = refl

pub length-mdhd : (timescale duration : ℕ) → length (mdhd_body timescale duration) ≡ 24
unfolding mdhd_body
length-mdhd timescale duration = refl

pub length-handler : (m : Media) → length (hdlr_body (codes "mhlr") (subtype_of m)) ≡ 25
unfolding hdlr_body
length-handler (media.Video kind width height depth) = refl
length-handler (media.Sound channels rate) = refl

pub length-data_handler : length (hdlr_body (codes "dhlr") (codes "alis")) ≡ 25
unfolding hdlr_body
length-data_handler = refl

pub length-dref : length dref_body ≡ 20
unfolding dref_body
length-dref = refl

pub are-media : (m : Media) → IsNode (media_node m) × (length (media_node m).body ≤ 12)
unfolding vmhd_body smhd_body
are-media (media.Video kind width height depth) = (record { kind = refl; size = omega arith }, omega arith)
are-media (media.Sound channels rate) = (record { kind = refl; size = omega arith }, omega arith)

pub length-pictures : (kind : List ℕ) (width height depth : ℕ) → length kind ≡ 4 → length (stsd_body (media.Video kind width height depth)) ≡ 94
unfolding pictures_bytes sound_bytes
length-pictures (a ∷ b ∷ c ∷ d ∷ []) width height depth four = refl
length-pictures [] width height depth four = absurd (omega (arith, four))
length-pictures (a ∷ []) width height depth four = absurd (omega (arith, four))
length-pictures (a ∷ b ∷ []) width height depth four = absurd (omega (arith, four))
length-pictures (a ∷ b ∷ c ∷ []) width height depth four = absurd (omega (arith, four))
length-pictures (a ∷ b ∷ c ∷ d ∷ e ∷ kind) width height depth four = absurd (omega (arith, four))

pub length-sound : (channels rate : ℕ) → length (stsd_body (media.Sound channels rate)) ≡ 44
unfolding pictures_bytes sound_bytes
length-sound channels rate = refl

pub stsd-few : (m : Media) → HasKind m → length (stsd_body m) ≤ 94
stsd-few (media.Video kind width height depth) four = omega (arith, length-pictures kind width height depth four)
stsd-few (media.Sound channels rate) has = omega (arith, length-sound channels rate)

pub are-offsets : (b : Bool) (offsets : List ℕ) → length offsets ≤ MAX_SAMPLES
    → IsNode (if b then node (codes "stco") (stco_body offsets) else node (codes "co64") (co64_body offsets)) × (length (if b then node (codes "stco") (stco_body offsets) else node (codes "co64") (co64_body offsets)).body ≤ 8000008)
are-offsets true offsets few = (record { kind = refl; size = omega (arith, length-stco offsets) }, omega (arith, length-stco offsets))
are-offsets false offsets few = (record { kind = refl; size = omega (arith, length-co64 offsets) }, omega (arith, length-co64 offsets))

-- ---- atoms inside atoms

pub length-dinf : length (nodes_bytes dinf_nodes) ≡ 28
length-dinf = omega (arith, length-nodes (node (codes "dref") dref_body) [] refl, length-dref)

pub length-stbl : (t : TrakValues) → IsTrak t → HasKind t.media → length (nodes_bytes (stbl_nodes t)) ≤ 32000170
length-stbl t is has =
    let stsd = node (codes "stsd") (stsd_body t.media) in
    let stts = node (codes "stts") (stts_body t.stts) in
    let stsc = node (codes "stsc") (stsc_body t.stsc) in
    let stsz = node (codes "stsz") (stsz_body t.common t.count t.sizes) in
    let offsets = offsets_node t.offsets in
    let places = are-offsets (are_near t.offsets) t.offsets is.few_chunks in
    omega (
      arith,
      length-nodes stsd (stts ∷ stsc ∷ stsz ∷ offsets ∷ []) refl,
      length-nodes stts (stsc ∷ stsz ∷ offsets ∷ []) refl,
      length-nodes stsc (stsz ∷ offsets ∷ []) refl,
      length-nodes stsz (offsets ∷ []) refl,
      length-nodes offsets [] places.0.kind,
      stsd-few t.media has,
      length-stts t.stts,
      length-stsc t.stsc,
      length-stsz t.common t.count t.sizes,
      places.1,
      is.few_times,
      is.few_runs,
      is.few_sizes,
    )

pub length-minf : (t : TrakValues) → IsTrak t → HasKind t.media → length (nodes_bytes (minf_nodes t)) ≤ 32000290
length-minf t is has =
    let stbl = node (codes "stbl") (nodes_bytes (stbl_nodes t)) in
    let dinf = node (codes "dinf") (nodes_bytes dinf_nodes) in
    let hdlr = node (codes "hdlr") (hdlr_body (codes "dhlr") (codes "alis")) in
    let head = are-media t.media in
    omega (
      arith,
      length-nodes (media_node t.media) (hdlr ∷ dinf ∷ stbl ∷ []) head.0.kind,
      length-nodes hdlr (dinf ∷ stbl ∷ []) refl,
      length-nodes dinf (stbl ∷ []) refl,
      length-nodes stbl [] refl,
      head.1,
      length-data_handler,
      length-dinf,
      length-stbl t is has,
    )

pub length-mdia : (t : TrakValues) → IsTrak t → HasKind t.media → length (nodes_bytes (mdia_nodes t)) ≤ 32000390
length-mdia t is has =
    let minf = node (codes "minf") (nodes_bytes (minf_nodes t)) in
    let hdlr = node (codes "hdlr") (hdlr_body (codes "mhlr") (subtype_of t.media)) in
    let mdhd = node (codes "mdhd") (mdhd_body t.timescale t.duration) in
    omega (
      arith,
      length-nodes mdhd (hdlr ∷ minf ∷ []) refl,
      length-nodes hdlr (minf ∷ []) refl,
      length-nodes minf [] refl,
      length-mdhd t.timescale t.duration,
      length-handler t.media,
      length-minf t is has,
    )

pub length-trak : (t : TrakValues) → IsTrak t → HasKind t.media → length (nodes_bytes (trak_nodes t)) ≤ 32000500
length-trak t is has =
    let mdia = node (codes "mdia") (nodes_bytes (mdia_nodes t)) in
    let tkhd = node (codes "tkhd") (tkhd_body t) in
    omega (arith, length-nodes tkhd (mdia ∷ []) refl, length-nodes mdia [] refl, length-tkhd t, length-mdia t is has)

length-traks : (traks : List TrakValues) → AllByRecursion IsTrak traks → AllByRecursion (λ t. HasKind t.media) traks → length (nodes_bytes (map trak_node traks)) ≤ 32000600 * length traks
length-traks [] is has = omega arith
length-traks (t ∷ traks) is has =
    omega (arith, length-nodes (trak_node t) (map trak_node traks) refl, length-trak t is.0 has.0, length-traks traks is.1 has.1)

pub length-moov : (timescale duration : ℕ) (traks : List TrakValues) → AllByRecursion IsTrak traks → AllByRecursion (λ t. HasKind t.media) traks → length traks ≤ 100
    → length (nodes_bytes (moov_nodes timescale duration traks)) ≤ 3200060200
length-moov timescale duration traks is has few =
    let mvhd = node (codes "mvhd") (mvhd_body timescale duration (length traks + 1)) in
    omega (arith, length-nodes mvhd (map trak_node traks) refl, length-mvhd timescale duration (length traks + 1), length-traks traks is has)

-- ---- each is an atom

pub are-stbl : (t : TrakValues) → IsTrak t → HasKind t.media → AllByRecursion IsNode (stbl_nodes t)
are-stbl t is has = (
  record { kind = refl; size = omega (arith, stsd-few t.media has) },
  (
    record { kind = refl; size = omega (arith, length-stts t.stts, is.few_times) },
    (
      record { kind = refl; size = omega (arith, length-stsc t.stsc, is.few_runs) },
      (record { kind = refl; size = omega (arith, length-stsz t.common t.count t.sizes, is.few_sizes) }, ((are-offsets (are_near t.offsets) t.offsets is.few_chunks).0, tt)),
    ),
  ),
)

pub are-minf : (t : TrakValues) → IsTrak t → HasKind t.media → AllByRecursion IsNode (minf_nodes t)
are-minf t is has = (
  (are-media t.media).0,
  (
    record { kind = refl; size = omega (arith, length-data_handler) },
    (
      record { kind = refl; size = omega (arith, length-dinf) },
      (record { kind = refl; size = omega (arith, length-stbl t is has) }, tt),
    ),
  ),
)

pub are-dinf : AllByRecursion IsNode dinf_nodes
are-dinf = (record { kind = refl; size = omega (arith, length-dref) }, tt)

pub are-mdia : (t : TrakValues) → IsTrak t → HasKind t.media → AllByRecursion IsNode (mdia_nodes t)
are-mdia t is has = (
  record { kind = refl; size = omega (arith, length-mdhd t.timescale t.duration) },
  (
    record { kind = refl; size = omega (arith, length-handler t.media) },
    (record { kind = refl; size = omega (arith, length-minf t is has) }, tt),
  ),
)

pub are-trak : (t : TrakValues) → IsTrak t → HasKind t.media → AllByRecursion IsNode (trak_nodes t)
are-trak t is has = (
  record { kind = refl; size = omega (arith, length-tkhd t) },
  (record { kind = refl; size = omega (arith, length-mdia t is has) }, tt),
)

are-traks : (traks : List TrakValues) → AllByRecursion IsTrak traks → AllByRecursion (λ t. HasKind t.media) traks → AllByRecursion IsNode (map trak_node traks)
are-traks [] is has = tt
are-traks (t ∷ traks) is has = (record { kind = refl; size = omega (arith, length-trak t is.0 has.0) }, are-traks traks is.1 has.1)

pub are-moov : (timescale duration : ℕ) (traks : List TrakValues) → AllByRecursion IsTrak traks → AllByRecursion (λ t. HasKind t.media) traks → AllByRecursion IsNode (moov_nodes timescale duration traks)
are-moov timescale duration traks is has =
    (record { kind = refl; size = omega (arith, length-mvhd timescale duration (length traks + 1)) }, are-traks traks is has)
