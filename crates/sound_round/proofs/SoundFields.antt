-- The fields of a written sound track are read back.
use Rattle.std.proofs.Common.{◌≡◌, refl, ℕ, ◌+◌, ◌-◌, ◌*◌, ◌≤◌, ◌<◌, ◌^◌, true, false, nat_le, List, [], ◌∷◌, ◌++◌, length, take, drop, Ok, arith, ap, ◌∙◌}
use Rattle.std.specs.Prelude.{codes, ◌==◌, ◌||◌}
use Rattle.std.specs.Int.{w16, w32, from_be_bytes}
use Rattle.std.proofs.lemmas.Bool.Decides.{nat_tests}
use Rattle.std.proofs.lemmas.Nat.{from_be_bytes-to_be_bytes_2}
use Rattle.pw_outside.specs.Reading.{bind}
use Rattle.qt_atoms.specs.declared.atom.Atom.{Atom}
use Rattle.qt_atoms.specs.Atoms.{number_in, kind_in}
use Rattle.qt_tables.specs.Tables.{body_length}
use Rattle.qt_movie.specs.declared.description.Description.{Description}
use Rattle.qt_movie.specs.declared.trak.Media.{Media}
use Rattle.qt_movie.specs.declared.trak.Media.TheVariants as media
use Rattle.qt_movie.specs.Bodies.{be16, be32, hdlr_body}
use Rattle.qt_movie.specs.Trak.{sound_bytes, stsd_body, subtype_of}
use Rattle.qt_movie.proofs.Stands.{Stands, atom_here, body_here, field_here}
use Rattle.qt_movie.proofs.Nodes.{length-handler}
use Rattle.qt_movie.proofs.WrittenFields.{further, body-of}
use Rattle.qt_movie.proofs.WrittenParts.{hdlr_node, stsd_node}
use Rattle.pcm_track.specs.Track.{is_sound, is_plain, readable_at, readable_of, format_in}

-- ---- the handler

pictures-subtype : (kind : List ℕ) (width height depth : ℕ) (behind : List ℕ) → take 4 (drop 8 (hdlr_body (codes "mhlr") (subtype_of (media.Video kind width height depth)) ++ behind)) ≡ codes "vide"
unfolding hdlr_body
pictures-subtype kind width height depth behind = refl

sound-subtype : (channels rate : ℕ) (behind : List ℕ) → take 4 (drop 8 (hdlr_body (codes "mhlr") (subtype_of (media.Sound channels rate)) ++ behind)) ≡ codes "soun"
unfolding hdlr_body
sound-subtype channels rate behind = refl

handler-long : (at : ℕ) (m : Media) → nat_le 12 (body_length (atom_here at (hdlr_node m))) ≡ true
handler-long at m = grind (arith, nat_tests, body-of at (length (hdlr_body (codes "mhlr") (subtype_of m))), length-handler m)

-- a picture track is no sound track
pub is-no-sound : (file : List ℕ) (at : ℕ) (kind : List ℕ) (width height depth : ℕ) → Stands file at (hdlr_node (media.Video kind width height depth)) → is_sound file (atom_here at (hdlr_node (media.Video kind width height depth))) ≡ false
is-no-sound file at kind width height depth s =
    let m = media.Video kind width height depth in
    let body = hdlr_body (codes "mhlr") (subtype_of m) in
    let here = field_here file (body ++ s.behind) (at + 8) 4 8 (body_here file at (hdlr_node m) refl s) ∙ pictures-subtype kind width height depth s.behind in
    rw (here, handler-long at m) refl

pub is-sound : (file : List ℕ) (at channels rate : ℕ) → Stands file at (hdlr_node (media.Sound channels rate)) → is_sound file (atom_here at (hdlr_node (media.Sound channels rate))) ≡ true
is-sound file at channels rate s =
    let m = media.Sound channels rate in
    let body = hdlr_body (codes "mhlr") (subtype_of m) in
    let here = field_here file (body ++ s.behind) (at + 8) 4 8 (body_here file at (hdlr_node m) refl s) ∙ sound-subtype channels rate s.behind in
    rw (here, handler-long at m) refl

-- ---- the description

-- the description that was written, at its offset
abbrev pub sound_here : ℕ → Description
sound_here place = record { at = place; size = 36; kind = codes "sowt"; reference = 1 }

-- the fields of a sound description, at offset 8 of the body
record Fields (rest : List ℕ) (channels rate : ℕ) : Type 0 where
  count : take 4 (drop 4 rest) ≡ be32 1
  size : take 4 (drop 8 rest) ≡ be32 36
  kind : take 4 (drop 4 (drop 8 rest)) ≡ codes "sowt"
  reference : take 2 (drop 14 (drop 8 rest)) ≡ be16 1
  channels_are : take 2 (drop 24 (drop 8 rest)) ≡ be16 channels
  bits : take 2 (drop 26 (drop 8 rest)) ≡ be16 16
  rate_is : take 2 (drop 32 (drop 8 rest)) ≡ take 2 (be32 (rate * 65536))

fields : (channels rate : ℕ) (behind : List ℕ) → Fields (stsd_body (media.Sound channels rate) ++ behind) channels rate
unfolding sound_bytes
fields channels rate behind = record { count = refl; size = refl; kind = refl; reference = refl; channels_are = refl; bits = refl; rate_is = refl }

length-sound : (channels rate : ℕ) → length (stsd_body (media.Sound channels rate)) ≡ 44
unfolding sound_bytes
length-sound channels rate = refl

-- the two bytes of the integer part
upper : (rate : ℕ) → rate < 2 ^ 16 → from_be_bytes w16 (take 2 (be32 (rate * 65536))) ≡ rate
upper rate small = omega arith

one-readable : (file : List ℕ) (stsd : Atom) → stsd.end - (stsd.body + 8) ≡ 36 → number_in w32 file (stsd.body + 4) ≡ 1 → number_in w32 file (stsd.body + 8) ≡ 36
    → kind_in file (stsd.body + 8) ≡ codes "sowt" → number_in w16 file ((stsd.body + 8) + 14) ≡ 1 → readable_of file stsd ≡ sound_here (stsd.body + 8) ∷ []
unfolding readable_at
one-readable file stsd m a b c d = rw (a, b, m, c, d) refl

plain-of : (file : List ℕ) (stsd : Atom) → body_length stsd ≡ 44 → number_in w32 file (stsd.body + 4) ≡ 1 → kind_in file (stsd.body + 8) ≡ codes "sowt" → is_plain file stsd ≡ true
plain-of file stsd l a c = rw (l, a, c) refl

form-of : (file : List ℕ) (stsd : Atom) (channels rate : ℕ) → stsd.end - (stsd.body + 8) ≡ 36 → number_in w32 file (stsd.body + 8) ≡ 36 → number_in w16 file ((stsd.body + 8) + 24) ≡ channels
    → number_in w16 file ((stsd.body + 8) + 26) ≡ 16 → number_in w16 file ((stsd.body + 8) + 32) ≡ rate → (channels == 1 || channels == 2) ≡ true → (rate == 0) ≡ false
    → format_in file stsd ≡ Ok (record { channels = channels; rate = rate })
unfolding format_in bind
form-of file stsd channels rate m b c d e f g = rw (b, m, c, d, e, f, g) refl

-- the result of reading the `stsd`
pub record StsdIsRead (file : List ℕ) (at channels rate : ℕ) : Type 0 where
  pub plain : is_plain file (atom_here at (stsd_node (media.Sound channels rate))) ≡ true
  pub descriptions : readable_of file (atom_here at (stsd_node (media.Sound channels rate))) ≡ sound_here ((at + 8) + 8) ∷ []
  pub format : format_in file (atom_here at (stsd_node (media.Sound channels rate))) ≡ Ok (record { channels = channels; rate = rate })

one-or-two : (channels : ℕ) → 1 ≤ channels → channels ≤ 2 → (channels == 1 || channels == 2) ≡ true
one-or-two channels low high = grind (arith, nat_tests)

pub stsd-read : (file : List ℕ) (at channels rate : ℕ) → (1 ≤ channels) × (channels ≤ 2) → (1 ≤ rate) × (rate ≤ 65535) → Stands file at (stsd_node (media.Sound channels rate)) → StsdIsRead file at channels rate
stsd-read file at channels rate c r s =
    let body = stsd_body (media.Sound channels rate) in
    let n = stsd_node (media.Sound channels rate) in
    let rest = body ++ s.behind in
    let has = fields channels rate s.behind in
    let there : drop (at + 8) file ≡ rest = body_here file at n refl s in
    let entry : drop ((at + 8) + 8) file ≡ drop 8 rest = further file rest (at + 8) 8 there in
    let long = length-sound channels rate in
    let left : (at + (length body + 8)) - ((at + 8) + 8) ≡ 36 = omega (arith, long) in
    let count = ap (from_be_bytes w32) (field_here file rest (at + 8) 4 4 there ∙ has.count) in
    let size = ap (from_be_bytes w32) (field_here file rest (at + 8) 4 8 there ∙ has.size) in
    let kind = field_here file (drop 8 rest) ((at + 8) + 8) 4 4 entry ∙ has.kind in
    let some : (rate == 0) ≡ false = grind (arith, nat_tests, r) in
    record {
      plain = plain-of file (atom_here at n) (body-of at (length body) ∙ long) count kind;
      descriptions = one-readable file (atom_here at n) left count size kind (ap (from_be_bytes w16) (field_here file (drop 8 rest) ((at + 8) + 8) 2 14 entry ∙ has.reference));
      format = form-of file (atom_here at n) channels rate left size
          (ap (from_be_bytes w16) (field_here file (drop 8 rest) ((at + 8) + 8) 2 24 entry ∙ has.channels_are) ∙ from_be_bytes-to_be_bytes_2 channels (omega (arith, c)))
          (ap (from_be_bytes w16) (field_here file (drop 8 rest) ((at + 8) + 8) 2 26 entry ∙ has.bits))
          (ap (from_be_bytes w16) (field_here file (drop 8 rest) ((at + 8) + 8) 2 32 entry ∙ has.rate_is) ∙ upper rate (omega (arith, r)))
          (one-or-two channels c.0 c.1) some;
    }
