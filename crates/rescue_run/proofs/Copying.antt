-- Bytes of a file, copied piece by piece.
use Rattle.std.proofs.Common.{◌≡◌, refl, ℕ, suc, ◌+◌, ◌-◌, ◌≤◌, List, ◌++◌, map, [], ◌∷◌, take, drop, length, length-take, length-drop, arith, ap, sym, subst, ◌∙◌}
use Rattle.std.proofs.lemmas.List.{take-take, drop-drop}
use lib.Seq.{take-add}
use Rattle.std.specs.Prelude.{Result, Ok, Err, OnErr}
use Rattle.pw_outside.specs.Ports.{last}
use Rattle.pw_outside.specs.Writing.{SinkState, Puts, PutsFront, PutsPart, Extends}
use Rattle.pw_outside.proofs.Puts.{puts_none, puts_then, then_front, part_front, front_more}
use Rattle.qt_atoms.specs.Atoms.{bytes_in}
use Rattle.qt_movie.specs.MovieBytes.{frame_head_bytes, frame_bytes}
use Rattle.rescue_run.proofs.Marks.{in_piece}

-- bytes up to an offset, and from there on
two_parts : (file : List ℕ) (p n s : ℕ) → p ≤ n → n ≤ s → bytes_in (n - p) file p ++ bytes_in (s - n) file n ≡ bytes_in (s - p) file p
two_parts file p n s a b =
    let e : s - p ≡ (n - p) + (s - n) = omega (arith, a, b) in
    let m : p + (n - p) ≡ n = omega (arith, a) in
    sym (ap (λ k. take k (drop p file)) e ∙ take-add (n - p) (s - n) (drop p file) ∙ ap (λ l. take (n - p) (drop p file) ++ take (s - n) l) (drop-drop (n - p) p file ∙ ap (λ k. drop k file) m))

pub more_bytes : (file : List ℕ) (p n s : ℕ) (a b c : SinkState) → p ≤ n → n ≤ s → Puts a b (bytes_in (n - p) file p) → Puts b c (bytes_in (s - n) file n) → Puts a c (bytes_in (s - p) file p)
more_bytes file p n s a b c le le' x y = subst (Puts a c) (two_parts file p n s le le') (puts_then x y)

pub part_bytes : (file : List ℕ) (p n s : ℕ) (a b c : SinkState) → p ≤ n → n ≤ s → Puts a b (bytes_in (n - p) file p) → PutsFront b c (bytes_in (s - n) file n) → PutsFront a c (bytes_in (s - p) file p)
part_bytes file p n s a b c le le' x y = subst (PutsFront a c) (two_parts file p n s le le') (then_front x y)

pub fewer_bytes : (file : List ℕ) (p n s : ℕ) (a b : SinkState) → p ≤ n → n ≤ s → Puts a b (bytes_in (n - p) file p) → PutsFront a b (bytes_in (s - p) file p)
fewer_bytes file p n s a b le le' x = record {
  out = n - p;
  front = subst (Puts a b) (sym (take-take (n - p) (s - p) (drop p file) (omega (arith, le, le')))) x;
}

-- as many bytes as are asked for
pub bytes_there : (file : List ℕ) (n p : ℕ) → p + n ≤ length file → length (bytes_in n file p) ≡ n
bytes_there file n p le = omega (arith, le, length-take n (drop p file), length-drop p file)

-- nothing yet
pub no_bytes : (file : List ℕ) (p : ℕ) (a : SinkState) → a.taken ≤ last → Puts a a (bytes_in (p - p) file p)
no_bytes file p a h = let e : 0 ≡ p - p = omega arith in subst (λ n. Puts a a (bytes_in n file p)) e (puts_none a h)

-- the bytes of a window, and the file's bytes
shown_bytes : (file items view : List ℕ) (held from place stop : ℕ) → take held items ≡ take held (drop from file) → view ≡ items → from ≤ place → place ≤ stop → stop ≤ from + held
    → take (stop - from - (place - from)) (drop (place - from) view) ≡ bytes_in (stop - place) file place
shown_bytes file items view held from place stop same is a b d =
    let k = place - from in
    let n : stop - from - k ≡ stop - place = omega (arith, a, b) in
    let m : from + k ≡ place = omega (arith, a) in
    ap (λ l. take (stop - from - k) (drop k l)) is ∙ ap (λ i. take i (drop k items)) n ∙ in_piece items file held from k (stop - place) same (omega (arith, a, b, d)) ∙ ap (λ i. take (stop - place) (drop i file)) m

pub shown_puts : (file items view : List ℕ) (held from place stop : ℕ) (a b : SinkState) → take held items ≡ take held (drop from file) → view ≡ items → from ≤ place → place ≤ stop → stop ≤ from + held
    → Puts a b (take (stop - from - (place - from)) (drop (place - from) view)) → Puts a b (bytes_in (stop - place) file place)
shown_puts file items view held from place stop a b same is x y z p = subst (Puts a b) (shown_bytes file items view held from place stop same is x y z) p

shorter : (file : List ℕ) (p n s : ℕ) (a b : SinkState) → n ≤ s → PutsPart a b (bytes_in n file p) → PutsFront a b (bytes_in s file p)
shorter file p n s a b le x =
    let few : x.out ≤ n = omega (arith, x.short, length-take n (drop p file)) in
    record { out = x.out; front = subst (Puts a b) (take-take x.out n (drop p file) few ∙ sym (take-take x.out s (drop p file) (omega (arith, few, le)))) x.front }

pub shown_part : (file items view : List ℕ) (held from place stop end : ℕ) (a b : SinkState) → take held items ≡ take held (drop from file) → view ≡ items → from ≤ place → place ≤ stop → stop ≤ from + held → stop ≤ end
    → PutsPart a b (take (stop - from - (place - from)) (drop (place - from) view)) → PutsFront a b (bytes_in (end - place) file place)
shown_part file items view held from place stop end a b same is x y z w p =
    shorter file place (stop - place) (end - place) a b (omega (arith, w)) (subst (PutsPart a b) (shown_bytes file items view held from place stop same is x y z) p)

-- ---- bytes from an offset on

whole_of : (p s size : ℕ) → s ≡ p + size → s - p ≡ size
whole_of p s size e = omega (arith, e)

pub part_copied : (file : List ℕ) (p n s size : ℕ) (a b c : SinkState) → s ≡ p + size → p ≤ n → n ≤ s → Puts a b (bytes_in (n - p) file p) → PutsFront b c (bytes_in (s - n) file n) → PutsFront a c (bytes_in size file p)
part_copied file p n s size a b c e le le' x y = subst (λ k. PutsFront a c (bytes_in k file p)) (whole_of p s size e) (part_bytes file p n s a b c le le' x y)

pub fewer_copied : (file : List ℕ) (p n s size : ℕ) (a b : SinkState) → s ≡ p + size → p ≤ n → n ≤ s → Puts a b (bytes_in (n - p) file p) → PutsFront a b (bytes_in size file p)
fewer_copied file p n s size a b e le le' x = subst (λ k. PutsFront a b (bytes_in k file p)) (whole_of p s size e) (fewer_bytes file p n s a b le le' x)

-- ---- a frame after its data atom's header

frame_is : (file : List ℕ) (n p : ℕ) → p + n ≤ length file → frame_head_bytes n ++ bytes_in n file p ≡ frame_bytes (bytes_in n file p)
frame_is file n p le = ap (λ k. frame_head_bytes k ++ bytes_in n file p) (sym (bytes_there file n p le))

pub head_part : (file : List ℕ) (n p : ℕ) (a b : SinkState) → p + n ≤ length file → PutsPart a b (frame_head_bytes n) → PutsFront a b (frame_bytes (bytes_in n file p))
head_part file n p a b le x = subst (PutsFront a b) (frame_is file n p le) (front_more (bytes_in n file p) (part_front x))

pub head_then : (file : List ℕ) (n p : ℕ) (a b c : SinkState) → p + n ≤ length file → Puts a b (frame_head_bytes n) → PutsFront b c (bytes_in n file p) → PutsFront a c (frame_bytes (bytes_in n file p))
head_then file n p a b c le x y = subst (PutsFront a c) (frame_is file n p le) (then_front x y)
