-- Frame marks: in a piece, in a window of a file, and in the file.
use Rattle.std.proofs.Common.{◌≡◌, ℕ, ◌+◌, ◌-◌, ◌≤◌, ◌<◌, List, take, drop, length, length-take, length-drop, arith, ap, sym, subst, ◌∙◌}
use Rattle.std.proofs.lemmas.List.{drop-take, take-take, drop-drop}
use Rattle.std.specs.Prelude.{codes, Option, Some, None, IfSome}
use Rattle.pw_outside.specs.Reading.{bytes_of}
use Rattle.memchr.specs.Find.{OccursAt, FindsNeedle}
use Rattle.memchr.proofs.lemmas.MatchLemmas.{OccursAt-part, OccursAt-from_part}
use Rattle.rescue_run.specs.declared.window.Window.{Window}
use Rattle.rescue_run.specs.Chain.{HasMark}
use Rattle.rescue_run.specs.inner.Windows.{NoMark, IsFirstMark, Shows, MarkIn}

-- four bytes that exist
four_there : (l : List ℕ) (n : ℕ) → length (take 4 (drop n l)) ≡ 4 → n + 4 ≤ length l
four_there l n e = omega (arith, e, length-take 4 (drop n l), length-drop n l)

-- the file has bytes after the letters
pub mark_fits : (file : List ℕ) (place : ℕ) → HasMark file place → place + 8 ≤ length file
mark_fits file place h = let e : length (take 4 (drop (place + 4) file)) ≡ 4 = ap length h in omega (arith, four_there file (place + 4) e)

-- an occurrence of the letters after the first four bytes
pub mark_occurs : (piece : List ℕ) (k : ℕ) → OccursAt (drop 4 piece) (codes "icpf") k → HasMark piece k
mark_occurs piece k h =
    let e : take 4 (drop k (drop 4 piece)) ≡ codes "icpf" = OccursAt-part (drop 4 piece) (codes "icpf") k h in
    let n : 4 + k ≡ k + 4 = omega arith in
    ap (λ m. take 4 (drop m piece)) (sym n) ∙ ap (take 4) (sym (drop-drop k 4 piece)) ∙ e

pub occurs_mark : (piece : List ℕ) (k : ℕ) → HasMark piece k → OccursAt (drop 4 piece) (codes "icpf") k
occurs_mark piece k h =
    let fits = mark_fits piece k h in
    let n : 4 + k ≡ k + 4 = omega arith in
    let within : k + 4 ≤ length (drop 4 piece) = omega (arith, fits, length-drop 4 piece) in
    OccursAt-from_part (drop 4 piece) (codes "icpf") k within (ap (take 4) (drop-drop k 4 piece) ∙ ap (λ m. take 4 (drop m piece)) n ∙ h)

pub first_found : (piece : List ℕ) (r : Option ℕ) → FindsNeedle (drop 4 piece) (codes "icpf") 0 r → IsFirstMark piece r
first_found piece None h = λ place mark. let o = occurs_mark piece place mark in h place (omega arith) (omega (arith, mark_fits piece place mark, length-drop 4 piece)) o
first_found piece (Some k) h = (mark_occurs piece k h.1, λ place from to mark. h.0.before place (omega arith) to (occurs_mark piece place mark))

pub none_short : (piece : List ℕ) → length piece < 8 → IsFirstMark piece None
none_short piece lt = λ place mark. absurd (let f = mark_fits piece place mark in let b : 8 ≤ length piece = omega (arith, f) in omega (arith, b, lt))

pub found_in : (piece : List ℕ) (r : Option ℕ) → FindsNeedle (drop 4 piece) (codes "icpf") 0 r → IfSome r (λ k. k + 8 ≤ length piece)
found_in piece None h = tt
found_in piece (Some k) h = mark_fits piece k (mark_occurs piece k h.1)

-- ---- a window

part : (xs : List ℕ) (k count held : ℕ) → k + count ≤ held → take count (drop k (take held xs)) ≡ take count (drop k xs)
part xs k count held h =
    let e : held ≡ k + (held - k) = omega arith in
    ap (λ n. take count (drop k (take n xs))) e ∙ ap (take count) (drop-take k (held - k) xs) ∙ take-take count (held - k) (drop k xs) (omega arith)

pub in_piece : (piece file : List ℕ) (held from k count : ℕ) → take held piece ≡ take held (drop from file) → k + count ≤ held
    → take count (drop k piece) ≡ take count (drop (from + k) file)
in_piece piece file held from k count same fits =
    sym (part piece k count held fits) ∙ ap (λ l. take count (drop k l)) same ∙ part (drop from file) k count held fits ∙ ap (take count) (drop-drop k from file)

-- the letters in a slice of a window's piece, and in the file
slice_mark : (piece file : List ℕ) (held from at q : ℕ) → take held piece ≡ take held (drop from file) → at ≤ held → at + q + 8 ≤ held
    → take 4 (drop (q + 4) (take (held - at) (drop at piece))) ≡ take 4 (drop (from + at + q + 4) file)
slice_mark piece file held from at q same le fits =
    let k : at + (q + 4) + 4 ≤ held = omega (arith, fits) in
    let n : from + (at + (q + 4)) ≡ from + at + q + 4 = omega arith in
    part (drop at piece) (q + 4) 4 (held - at) (omega (arith, fits, le)) ∙ ap (take 4) (drop-drop (q + 4) at piece)
    ∙ in_piece piece file held from (at + (q + 4)) 4 same k ∙ ap (λ m. take 4 (drop m file)) n

pub mark_in_file : (piece file : List ℕ) (held from at q : ℕ) → held ≤ length piece → take held piece ≡ take held (drop from file) → at ≤ held → HasMark (take (held - at) (drop at piece)) q
    → (q + 8 ≤ held - at) × HasMark file (from + at + q)
mark_in_file piece file held from at q room same le h =
    let fits = mark_fits (take (held - at) (drop at piece)) q h in
    let b : q + 8 ≤ held - at = omega (arith, fits, length-take (held - at) (drop at piece)) in
    (b, sym (slice_mark piece file held from at q same le (omega (arith, b, le))) ∙ h)

pub mark_in_slice : (piece file : List ℕ) (held from at q : ℕ) → take held piece ≡ take held (drop from file) → at ≤ held → at + q + 8 ≤ held → HasMark file (from + at + q)
    → HasMark (take (held - at) (drop at piece)) q
mark_in_slice piece file held from at q same le fits h = slice_mark piece file held from at q same le fits ∙ h

-- an offset of a slice that begins here, and the same in the file
abbrev pub SameMark : ℕ → Option ℕ → Option ℕ → Type 0
SameMark from None None = Unit {0}
SameMark from None (Some s) = ⊥
SameMark from (Some k) None = ⊥
SameMark from (Some k) (Some s) = s ≡ from + k

-- the search in a window
pub mark_of : (piece file : List ℕ) (held wfrom from : ℕ) (r : Option ℕ) → held ≤ length piece → take held piece ≡ take held (drop wfrom file) → wfrom ≤ from → from + 8 ≤ wfrom + held
    → IsFirstMark (take (held - (from - wfrom)) (drop (from - wfrom) piece)) r → (s : Option ℕ) → SameMark from r s → MarkIn file from (wfrom + held) s
mark_of piece file held wfrom from None room same le fits h None e = λ place ge lt mark.
    let at = from - wfrom in
    let q = place - from in
    let n : wfrom + at + q ≡ place = omega (arith, le, ge) in
    h q (mark_in_slice piece file held wfrom at q same (omega (arith, fits, le)) (omega (arith, lt, ge, le)) (subst (HasMark file) (sym n) mark))
mark_of piece file held wfrom from None room same le fits h (Some s) e = absurd e
mark_of piece file held wfrom from (Some k) room same le fits h None e = absurd e
mark_of piece file held wfrom from (Some k) room same le fits h (Some s) e =
    let at = from - wfrom in
    let m = mark_in_file piece file held wfrom at k room same (omega (arith, fits, le)) h.0 in
    let n : wfrom + at + k ≡ s = omega (arith, le, e) in (
      subst (HasMark file) n m.1,
      λ place ge lt mark.
          let q = place - from in
          let i : wfrom + at + q ≡ place = omega (arith, le, ge) in
          h.1 q (omega arith) (omega (arith, lt, ge, e)) (mark_in_slice piece file held wfrom at q same (omega (arith, fits, le)) (omega (arith, m.0, lt, ge, le, e)) (subst (HasMark file) (sym i) mark)),
    )

-- no mark after the last offset with room for a size and the letters
pub at_end : (file : List ℕ) (from place total : ℕ) → total ≡ length file → total - place < 8 → NoMark file from place → NoMark file from (length file)
at_end file from place total e short none = λ p ge lt mark. let f = mark_fits file p mark in none p ge (omega (arith, f, e, short)) mark

-- a window with no bytes yet
pub empty_shows : (told : Option (List ℕ)) (total : ℕ) (w : Window) → 8 ≤ length w.piece.items → w.from ≡ 0 → w.held ≡ 0 → Shows told total w
empty_shows told total w room from held = record {
  room = room;
  held = omega (arith, held);
  within = omega (arith, from, held);
  same = λ _. ap (λ n. take n w.piece.items) held ∙ sym (ap (λ n. take n (drop w.from (bytes_of told))) held);
}
