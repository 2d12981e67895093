-- The fields of a written track are read.
use Rattle.std.proofs.Common.{◌≡◌, ℕ, ◌+◌, ◌-◌, ◌≤◌, ◌<◌, ◌^◌, true, false, nat_le, List, [], ◌∷◌, ◌++◌, length, take, drop, Ok, refl, sym, ap, ◌∙◌, arith}
use Rattle.std.specs.Prelude.{codes, ◌==◌}
use Rattle.std.specs.Int.{w8, w16, w32, from_be_bytes}
use Rattle.std.proofs.lemmas.Bool.Decides.{nat_tests}
use Rattle.std.proofs.lemmas.List.{drop-drop}
use Rattle.std.proofs.lemmas.Nat.{from_be_bytes-to_be_bytes_2, from_be_bytes-to_be_bytes_4}
use Rattle.pw_outside.specs.Reading.{bind}
use Rattle.qt_atoms.specs.declared.atom.Atom.{Atom}
use Rattle.qt_atoms.specs.Atoms.{number_in, kind_in}
use Rattle.qt_tables.specs.Tables.{body_length, timescale_in}
use Rattle.qt_movie.specs.declared.description.Description.{Description}
use Rattle.qt_movie.specs.Movie.{is_video, is_prores, description_in, descriptions_in, described, reference_at, references_of}
use Rattle.qt_movie.specs.declared.trak.Media.TheVariants as media
use Rattle.qt_movie.specs.Bodies.{node, be16, be32, mdhd_body, hdlr_body, dref_body}
use Rattle.qt_movie.specs.Trak.{pictures_bytes, sound_bytes, stsd_body}
use Rattle.qt_movie.proofs.Stands.{Stands, atom_here, body_here, field_here}
use Rattle.qt_movie.proofs.Nodes.{length-pictures, length-mdhd, length-handler, length-dref}

pub further : (file rest : List ℕ) (place j : ℕ) → drop place file ≡ rest → drop (place + j) file ≡ drop j rest
further file rest place j e = sym (drop-drop j place file) ∙ ap (drop j) e

pub body-of : (at len : ℕ) → (at + (len + 8)) - (at + 8) ≡ len
body-of at len = omega arith

-- ---- the handler

handler-field : (behind : List ℕ) → take 4 (drop 8 (hdlr_body (codes "mhlr") (codes "vide") ++ behind)) ≡ codes "vide"
unfolding hdlr_body
handler-field behind = refl

abbrev pub hdlr_here : ℕ → Atom
hdlr_here at = atom_here at (node (codes "hdlr") (hdlr_body (codes "mhlr") (codes "vide")))

pub is-video : (file : List ℕ) (at : ℕ) → Stands file at (node (codes "hdlr") (hdlr_body (codes "mhlr") (codes "vide"))) → is_video file (hdlr_here at) ≡ true
is-video file at s =
    let body = hdlr_body (codes "mhlr") (codes "vide") in
    let here = field_here file (body ++ s.behind) (at + 8) 4 8 (body_here file at (node (codes "hdlr") body) refl s) ∙ handler-field s.behind in
    let long : nat_le 12 (body_length (hdlr_here at)) ≡ true = grind (arith, nat_tests, body-of at (length body), length-handler (media.Video [] 0 0 0)) in
    rw (here, long) refl

-- ---- the time scale

timescale-version : (timescale duration : ℕ) (behind : List ℕ) → take 1 (drop 0 (mdhd_body timescale duration ++ behind)) ≡ 0 ∷ []
unfolding mdhd_body
timescale-version timescale duration behind = refl

timescale-field : (timescale duration : ℕ) (behind : List ℕ) → take 4 (drop 12 (mdhd_body timescale duration ++ behind)) ≡ be32 timescale
unfolding mdhd_body
timescale-field timescale duration behind = refl

timescale-of : (file : List ℕ) (mdhd : Atom) (timescale : ℕ) → body_length mdhd ≡ 24 → number_in w8 file mdhd.body ≡ 0 → number_in w32 file (mdhd.body + 12) ≡ timescale → 1 ≤ timescale
    → timescale_in file mdhd ≡ Ok timescale
unfolding timescale_in bind
timescale-of file mdhd timescale l v n some =
    let a : (timescale == 0) ≡ false = grind (arith, nat_tests) in
    rw (l, v, n, a) refl

pub timescale-read : (file : List ℕ) (at timescale duration : ℕ) → Stands file at (node (codes "mdhd") (mdhd_body timescale duration)) → 1 ≤ timescale → timescale < 2 ^ 32
    → timescale_in file (atom_here at (node (codes "mdhd") (mdhd_body timescale duration))) ≡ Ok timescale
timescale-read file at timescale duration s some small =
    let body = mdhd_body timescale duration in
    let n = node (codes "mdhd") body in
    let there = body_here file at n refl s in
    let zero : (at + 8) + 0 ≡ at + 8 = omega arith in
    let v : number_in w8 file (at + 8) ≡ 0 =
    ap (number_in w8 file) (sym zero) ∙ ap (from_be_bytes w8) (field_here file (body ++ s.behind) (at + 8) 1 0 there ∙ timescale-version timescale duration s.behind) in
    let t : number_in w32 file ((at + 8) + 12) ≡ timescale =
    ap (from_be_bytes w32) (field_here file (body ++ s.behind) (at + 8) 4 12 there ∙ timescale-field timescale duration s.behind) ∙ from_be_bytes-to_be_bytes_4 timescale small in
    timescale-of file (atom_here at n) timescale (body-of at (length body) ∙ length-mdhd timescale duration) v t some

-- ---- the data reference

dref-count : (behind : List ℕ) → take 4 (drop 4 (dref_body ++ behind)) ≡ be32 1
unfolding dref_body
dref-count behind = refl

dref-size : (behind : List ℕ) → take 4 (drop 8 (dref_body ++ behind)) ≡ be32 12
unfolding dref_body
dref-size behind = refl

dref-flags : (behind : List ℕ) → take 4 (drop 8 (drop 8 (dref_body ++ behind))) ≡ be32 1
unfolding dref_body
dref-flags behind = refl

references-one : (file : List ℕ) (dref : Atom) → body_length dref ≡ 20 → dref.end - (dref.body + 8) ≡ 12 → number_in w32 file (dref.body + 4) ≡ 1 → number_in w32 file (dref.body + 8) ≡ 12
    → number_in w32 file ((dref.body + 8) + 8) ≡ 1 → references_of file dref ≡ true ∷ []
unfolding references_of reference_at
references-one file dref l m a b c = rw (l, a, b, c, m) refl

pub references-read : (file : List ℕ) (at : ℕ) → Stands file at (node (codes "dref") dref_body) → references_of file (atom_here at (node (codes "dref") dref_body)) ≡ true ∷ []
references-read file at s =
    let n = node (codes "dref") dref_body in
    let there = body_here file at n refl s in
    let entry = further file (dref_body ++ s.behind) (at + 8) 8 there in
    let left : (at + (length dref_body + 8)) - ((at + 8) + 8) ≡ 12 = omega (arith, length-dref) in
    references-one file (atom_here at n) (body-of at (length dref_body) ∙ length-dref) left
    (ap (from_be_bytes w32) (field_here file (dref_body ++ s.behind) (at + 8) 4 4 there ∙ dref-count s.behind))
    (ap (from_be_bytes w32) (field_here file (dref_body ++ s.behind) (at + 8) 4 8 there ∙ dref-size s.behind))
    (ap (from_be_bytes w32) (field_here file (drop 8 (dref_body ++ s.behind)) ((at + 8) + 8) 4 8 entry ∙ dref-flags s.behind))

-- ---- the description

-- the written description at its offset
abbrev pub description_here : (kind : List ℕ) → ℕ → Description
description_here kind place = record { at = place; size = 86; kind = kind; reference = 1 }

-- the fields of a description of pictures, from 8 bytes into the body on
record Fields (rest kind : List ℕ) (width height : ℕ) : Type 0 where
  count : take 4 (drop 4 rest) ≡ be32 1
  size : take 4 (drop 8 rest) ≡ be32 86
  kind_is : take 4 (drop 4 (drop 8 rest)) ≡ kind
  reference : take 2 (drop 14 (drop 8 rest)) ≡ be16 1
  wide : take 2 (drop 32 (drop 8 rest)) ≡ be16 width
  high : take 2 (drop 34 (drop 8 rest)) ≡ be16 height

fields : (kind : List ℕ) (width height depth : ℕ) (behind : List ℕ) → length kind ≡ 4 → Fields (stsd_body (media.Video kind width height depth) ++ behind) kind width height
unfolding pictures_bytes sound_bytes
fields (a ∷ b ∷ c ∷ d ∷ []) width height depth behind four = record { count = refl; size = refl; kind_is = refl; reference = refl; wide = refl; high = refl }
fields [] width height depth behind four = absurd (omega (arith, four))
fields (a ∷ []) width height depth behind four = absurd (omega (arith, four))
fields (a ∷ b ∷ []) width height depth behind four = absurd (omega (arith, four))
fields (a ∷ b ∷ c ∷ []) width height depth behind four = absurd (omega (arith, four))
fields (a ∷ b ∷ c ∷ d ∷ e ∷ kind) width height depth behind four = absurd (omega (arith, four))

one-description : (file : List ℕ) (stsd : Atom) (kind : List ℕ) → body_length stsd ≡ 94 → stsd.end - (stsd.body + 8) ≡ 86 → number_in w32 file (stsd.body + 4) ≡ 1
    → number_in w32 file (stsd.body + 8) ≡ 86 → kind_in file (stsd.body + 8) ≡ kind → number_in w16 file ((stsd.body + 8) + 14) ≡ 1 → is_prores kind ≡ true
    → descriptions_in file stsd ≡ Ok (record { at = stsd.body + 8; size = 86; kind = kind; reference = 1 } ∷ [])
unfolding descriptions_in described description_in bind
one-description file stsd kind l m a b c d p = rw (l, a, m, b, c, p, d) refl

-- the description that is read from the `stsd`
pub record StsdIsRead (file : List ℕ) (at : ℕ) (kind : List ℕ) (width height depth : ℕ) : Type 0 where
  pub descriptions : descriptions_in file (atom_here at (node (codes "stsd") (stsd_body (media.Video kind width height depth)))) ≡ Ok (description_here kind ((at + 8) + 8) ∷ [])
  pub width_is : number_in w16 file (((at + 8) + 8) + 32) ≡ width
  pub height_is : number_in w16 file (((at + 8) + 8) + 34) ≡ height

pub stsd-read : (file : List ℕ) (at : ℕ) (kind : List ℕ) (width height depth : ℕ) → length kind ≡ 4 → is_prores kind ≡ true → width < 2 ^ 16 → height < 2 ^ 16
    → Stands file at (node (codes "stsd") (stsd_body (media.Video kind width height depth))) → StsdIsRead file at kind width height depth
stsd-read file at kind width height depth four prores wide high s =
    let body = stsd_body (media.Video kind width height depth) in
    let n = node (codes "stsd") body in
    let rest = body ++ s.behind in
    let has = fields kind width height depth s.behind four in
    let there : drop (at + 8) file ≡ rest = body_here file at n refl s in
    let entry : drop ((at + 8) + 8) file ≡ drop 8 rest = further file rest (at + 8) 8 there in
    let long = length-pictures kind width height depth four in
    let left : (at + (length body + 8)) - ((at + 8) + 8) ≡ 86 = omega (arith, long) in
    record {
      descriptions = one-description file (atom_here at n) kind (body-of at (length body) ∙ long) left
          (ap (from_be_bytes w32) (field_here file rest (at + 8) 4 4 there ∙ has.count))
          (ap (from_be_bytes w32) (field_here file rest (at + 8) 4 8 there ∙ has.size))
          (field_here file (drop 8 rest) ((at + 8) + 8) 4 4 entry ∙ has.kind_is)
          (ap (from_be_bytes w16) (field_here file (drop 8 rest) ((at + 8) + 8) 2 14 entry ∙ has.reference))
          prores;
      width_is = ap (from_be_bytes w16) (field_here file (drop 8 rest) ((at + 8) + 8) 2 32 entry ∙ has.wide) ∙ from_be_bytes-to_be_bytes_2 width wide;
      height_is = ap (from_be_bytes w16) (field_here file (drop 8 rest) ((at + 8) + 8) 2 34 entry ∙ has.high) ∙ from_be_bytes-to_be_bytes_2 height high;
    }
