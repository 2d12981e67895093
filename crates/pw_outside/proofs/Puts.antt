-- Writing several things one after the other.
use Rattle.std.proofs.Common.{◌≡◌, refl, ℕ, zero, suc, ◌+◌, ◌≤◌, List, [], ◌∷◌, ◌++◌, arith, length, take, drop, ap, sym, subst, take_at, ◌∙◌}
use Rattle.std.proofs.Math.Seq.{take-length}
use Rattle.std.proofs.lemmas.List.{length-append, drop_at, append-nil}
use lib.Seq.{take-add}
use Rattle.std.specs.Io.KnownBytes.{Keeps}
use Rattle.std.proofs.KnownBytes.{Appends-trans, Appends-nil, Appends-kept}
use Rattle.pw_outside.specs.Ports.{last}
use Rattle.pw_outside.specs.Writing.{SinkState, Puts, PutsFront, PutsPart, Extends}

-- a prefix of the first list, out of both
take_first : (n : ℕ) (xs ys : List ℕ) → take (length (take n xs)) (xs ++ ys) ≡ take n xs
take_first zero xs ys = refl
take_first (suc n) [] ys = refl
take_first (suc n) (x ∷ xs) ys = ap (λ l. x ∷ l) (take_first n xs ys)

-- the first list and a prefix of the other, out of both
take_both : (xs ys : List ℕ) (n : ℕ) → take (length xs + n) (xs ++ ys) ≡ xs ++ take n ys
take_both xs ys n = take-add (length xs) n (xs ++ ys)
    ∙ ap (λ l. l ++ take n (drop (length xs) (xs ++ ys))) (take_at xs ys (length xs) refl)
    ∙ ap (λ l. xs ++ take n l) (drop_at xs ys (length xs) refl)

-- nothing was written
pub puts_none : (a : SinkState) → a.taken ≤ last → Puts a a []
puts_none a h = record {
  bytes_held = Appends-nil a.held;
  count = omega (arith, h);
}

-- a flush writes nothing
pub puts_flushed : {a b : SinkState} → Keeps a.held b.held → b.taken ≡ a.taken → a.taken ≤ last → Puts a b []
puts_flushed {a} {b} kept same h = record {
  bytes_held = Appends-kept a.held a.held b.held [] (Appends-nil a.held) kept;
  count = omega (arith, same, h);
}

-- one thing was written, and then another
pub puts_then : {a b c : SinkState} {xs ys : List ℕ} → Puts a b xs → Puts b c ys → Puts a c (xs ++ ys)
puts_then {a} {b} {c} {xs} {ys} p q = record {
  bytes_held = Appends-trans a.held b.held c.held xs ys p.bytes_held q.bytes_held;
  count = omega (arith, p.count, q.count, length-append xs ys);
}

-- all is a prefix, too
pub puts_front : {a b : SinkState} {xs : List ℕ} → Puts a b xs → PutsFront a b xs
puts_front {a} {b} {xs} p = record {
  out = length xs;
  front = subst (Puts a b) (sym (take-length xs)) p;
}

pub part_front : {a b : SinkState} {xs : List ℕ} → PutsPart a b xs → PutsFront a b xs
part_front p = record { out = p.out; front = p.front }

-- a prefix of the first thing is a prefix of both
pub front_more : {a b : SinkState} {xs : List ℕ} (ys : List ℕ) → PutsFront a b xs → PutsFront a b (xs ++ ys)
front_more {a} {b} {xs} ys p = record {
  out = length (take p.out xs);
  front = subst (Puts a b) (sym (take_first p.out xs ys)) p.front;
}

-- the first thing was written, and then a prefix of the other
pub then_front : {a b c : SinkState} {xs ys : List ℕ} → Puts a b xs → PutsFront b c ys → PutsFront a c (xs ++ ys)
then_front {a} {b} {c} {xs} {ys} p q = record {
  out = length xs + q.out;
  front = subst (Puts a c) (sym (take_both xs ys q.out)) (puts_then p q.front);
}

-- ---- nothing was written, or nothing more

pub front_none : (a : SinkState) (xs : List ℕ) → a.taken ≤ last → PutsFront a a xs
front_none a xs h = record { out = 0; front = puts_none a h }

-- all of it, and then nothing
pub puts_then_none : {a b c : SinkState} {xs : List ℕ} → Puts a b xs → Puts b c [] → Puts a c xs
puts_then_none {a} {b} {c} {xs} p q = subst (Puts a c) (append-nil xs) (puts_then p q)

-- all of it, and then a prefix of nothing
pub front_then_none : {a b c : SinkState} {xs : List ℕ} → Puts a b xs → PutsFront b c [] → PutsFront a c xs
front_then_none {a} {b} {c} {xs} p q = subst (PutsFront a c) (append-nil xs) (then_front p q)

-- ---- what was held has grown at its end

pub none_extends : (a : SinkState) → a.taken ≤ last → Extends a a
none_extends a h = ([], puts_none a h)

pub puts_extends : (a b : SinkState) (bytes : List ℕ) → Puts a b bytes → Extends a b
puts_extends a b bytes p = (bytes, p)

pub front_extends : (a b : SinkState) (bytes : List ℕ) → PutsFront a b bytes → Extends a b
front_extends a b bytes p = (take p.out bytes, p.front)

pub then_extends : (a b c : SinkState) → Extends a b → Extends b c → Extends a c
then_extends a b c p q = (p.0 ++ q.0, puts_then p.1 q.1)
