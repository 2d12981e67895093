-- Certificates written part by part.
use Rattle.std.proofs.Common.{◌≡◌, ℕ, zero, suc, ◌<◌, ◌≤◌, List, [], ◌∷◌, ◌++◌, length, map, get_or, refl, sym, ap, ◌∙◌, subst, arith, append_assoc, Vec, Global}
use Rattle.std.specs.Int.{w32, w64, to_be_bytes}
use Rattle.std.specs.List.{flat_map, sum_by}
use Rattle.std.specs.Prelude.{codes}
use Rattle.std.proofs.lemmas.List.Sums.{sum_by-cons}
use Rattle.pw_outside.specs.Writing.{SinkState, Puts, PutsFront}
use Rattle.pw_outside.proofs.Puts.{puts_then, then_front, front_more}
use Rattle.rate_table.specs.Body.{body_bytes}
use Rattle.rate_least.specs.declared.outcome.WidePair.{WidePair}
use Rattle.rate_least.specs.Records.{Certificate, Printed, fits, none}
use Rattle.rate_least.specs.Files.{pair_bytes, layer_bytes, sums_bytes, fit_bytes, said_bytes, cert_bytes}

-- one layer has no more pairs than all
pub one_layer : (xs : List (Vec WidePair Global)) (i : ℕ) (x : Vec WidePair Global) → i < length xs → x ≡ get_or xs i x → length x.items ≤ sum_by length (map (λ l. l.items) xs)
one_layer [] i x lt is = absurd (omega (arith, lt))
one_layer (y ∷ ys) zero x lt is = omega (arith, ap (λ (v : Vec WidePair Global). length v.items) is, sum_by-cons length y.items (map (λ l. l.items) ys))
one_layer (y ∷ ys) (suc i) x lt is = omega (arith, one_layer ys i x (omega (arith, lt)) is, sum_by-cons length y.items (map (λ l. l.items) ys))

-- the bytes of layers, vector by vector
pub vector_bytes : Vec WidePair Global → List ℕ
vector_bytes v = layer_bytes v.items

pub by_vectors : (xs : List (Vec WidePair Global)) → flat_map vector_bytes xs ≡ flat_map layer_bytes (map (λ l. l.items) xs)
unfolding vector_bytes
by_vectors [] = refl
by_vectors (x ∷ xs) = ap (λ l. layer_bytes x.items ++ l) (by_vectors xs)

-- the part before the outcome
pub cert_parts : (c : Certificate) → ((codes "PWLC" ++ (1 ∷ to_be_bytes w64 c.cap)) ++ body_bytes c.table) ++ said_bytes c.said ≡ cert_bytes c
unfolding cert_bytes
cert_parts c =
    append_assoc (codes "PWLC" ++ (1 ∷ to_be_bytes w64 c.cap)) (body_bytes c.table) (said_bytes c.said)

-- ---- one by one

pub one_front : {a b : SinkState} (x y text : List ℕ) → text ≡ x ++ y → PutsFront a b x → PutsFront a b text
one_front {a} {b} x y text e p = subst (PutsFront a b) (sym e) (front_more y p)

pub two_front : {a b c : SinkState} (x y text : List ℕ) → text ≡ x ++ y → Puts a b x → PutsFront b c y → PutsFront a c text
two_front {a} {b} {c} x y text e p q = subst (PutsFront a c) (sym e) (then_front p q)

pub two_all : {a b c : SinkState} (x y text : List ℕ) → text ≡ x ++ y → Puts a b x → Puts b c y → Puts a c text
two_all {a} {b} {c} x y text e p q = subst (Puts a c) (sym e) (puts_then p q)

pub layer_whole : (layer : List WidePair) (text : List ℕ) → text ≡ to_be_bytes w32 (length layer) → layer_bytes layer ≡ text ++ flat_map pair_bytes layer
unfolding layer_bytes
layer_whole layer text e = ap (λ (l : List ℕ). l ++ flat_map pair_bytes layer) (sym e)

-- the bytes of a layer are those of its vector
pub layer_item : (xs : List (Vec WidePair Global)) (i : ℕ) (v : Vec WidePair Global) (layer : List WidePair) → v ≡ get_or xs i v → layer ≡ v.items → layer_bytes layer ≡ vector_bytes (get_or xs i v)
unfolding vector_bytes
layer_item xs i v layer is e = ap layer_bytes e ∙ ap (λ (w : Vec WidePair Global). layer_bytes w.items) is

-- ---- the outcome

pub fit_text : (r : Printed) (choice sums : List ℕ) (layers : List (List WidePair)) → choice ≡ r.choice → sums ≡ sums_bytes r.size r.error r.multiplier → layers ≡ r.layers
    → 1 ∷ (choice ++ (sums ++ flat_map layer_bytes layers)) ≡ said_bytes (fits r)
unfolding said_bytes fit_bytes
fit_text r choice sums layers e f h = λ i. 1 ∷ (e i ++ (f i ++ flat_map layer_bytes (h i)))

pub none_text : (n : ℕ) → 0 ∷ to_be_bytes w64 n ≡ said_bytes (none n)
unfolding said_bytes
none_text n = refl
