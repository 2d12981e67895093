-- Bytes that are copied piece by piece.
use Rattle.std.proofs.Common.{◌≡◌, refl, ℕ, zero, suc, ◌+◌, ◌-◌, ◌≤◌, List, [], ◌∷◌, ◌++◌, length, take, drop, Option, None, Some, Result, Ok, Err, arith, sym, ap, subst, ◌∙◌}
use Rattle.std.specs.Prelude.{IsSome, IfSome, OnErr, replicate}
use Rattle.std.proofs.lemmas.List.{drop-drop, length-drop, take-append-drop}
use lib.Seq.{take-add}
use Rattle.pw_outside.specs.Ports.{last}
use Rattle.pw_outside.specs.Reading.{Rest, rest_of, bytes_of, Told}
use Rattle.pw_outside.specs.Writing.{SinkState}
use Rattle.pw_outside.proofs.Puts.{puts_none, puts_then, puts_front, then_front, front_more}
use Rattle.pcm_track.specs.Wav.{passed_over}
use Rattle.pcm_track.specs.Writing.{first_bytes, Copied, CopiedFront, told_from}
use Rattle.pcm_track.proofs.Passing.{passed-there, passed-behind}

-- ---- the first bytes

-- zeros after enough bytes don't matter
enough : (b m k : ℕ) (ys : List ℕ) → b ≤ length ys + m → b ≤ length ys + k → take b (ys ++ replicate m 0) ≡ take b (ys ++ replicate k 0)
enough zero m k ys p q = refl
enough (suc b) zero k [] p q = absurd (omega arith)
enough (suc b) (suc m) zero [] p q = absurd (omega arith)
enough (suc b) (suc m) (suc k) [] p q = ap (λ l. 0 ∷ l) (enough b m k [] (omega arith) (omega arith))
enough (suc b) m k (y ∷ ys) p q = ap (λ l. y ∷ l) (enough b m k ys (omega arith) (omega arith))

-- a prefix of lists that are long enough
take-front : (a : ℕ) (xs zs : List ℕ) → a ≤ length xs → take a (xs ++ zs) ≡ take a xs
take-front zero xs zs h = refl
take-front (suc a) [] zs h = absurd (omega arith)
take-front (suc a) (x ∷ xs) zs h = ap (λ l. x ∷ l) (take-front a xs zs (omega arith))

drop-front : (a : ℕ) (xs zs : List ℕ) → a ≤ length xs → drop a (xs ++ zs) ≡ drop a xs ++ zs
drop-front zero xs zs h = refl
drop-front (suc a) [] zs h = absurd (omega arith)
drop-front (suc a) (x ∷ xs) zs h = drop-front a xs zs (omega arith)

take-take : (a n : ℕ) (xs : List ℕ) → a ≤ n → take a (take n xs) ≡ take a xs
take-take zero n xs h = refl
take-take (suc a) zero xs h = absurd (omega arith)
take-take (suc a) (suc n) [] h = refl
take-take (suc a) (suc n) (x ∷ xs) h = ap (λ l. x ∷ l) (take-take a n xs (omega arith))

-- if there are enough, they are the first ones
pub first-there : (n : ℕ) (xs : List ℕ) → n ≤ length xs → first_bytes n xs ≡ take n xs
first-there n xs h = take-front n xs (replicate n 0) h

-- a part and then the others
pub first-then : (a b : ℕ) (xs : List ℕ) → a ≤ length xs → first_bytes a xs ++ first_bytes b (drop a xs) ≡ first_bytes (a + b) xs
first-then a b xs h =
    ap (λ l. l ++ first_bytes b (drop a xs)) (first-there a xs h)
    ∙ ap (λ l. take a xs ++ l) (enough b b (a + b) (drop a xs) (omega arith) (omega arith))
    ∙ ap (λ l. take a xs ++ take b l) (sym (drop-front a xs (replicate (a + b) 0) h))
    ∙ ap (λ l. l ++ take b (drop a (xs ++ replicate (a + b) 0))) (sym (take-front a xs (replicate (a + b) 0) h))
    ∙ sym (take-add a b (xs ++ replicate (a + b) 0))

-- fewer are a prefix of more
pub first-front : (a n : ℕ) (xs : List ℕ) → a ≤ n → first_bytes a xs ++ drop a (first_bytes n xs) ≡ first_bytes n xs
first-front a n xs h =
    ap (λ l. l ++ drop a (first_bytes n xs)) (enough a a n xs (omega arith) (omega arith) ∙ sym (take-take a n (xs ++ replicate n 0) h))
    ∙ take-append-drop a (first_bytes n xs)

-- ---- the bytes left in a port

abbrev pub Behind : (old new : Option (List ℕ)) → (n : ℕ) → Type 0
Behind old new n = IfSome old (λ xs. (n ≤ length xs) × (new ≡ Some (drop n xs)))

pub behind-then : (old mid new : Option (List ℕ)) (a b : ℕ) → Behind old mid a → Behind mid new b → Behind old new (a + b)
behind-then None mid new a b p q = tt
behind-then (Some xs) mid new a b p q =
    let there : Behind (Some (drop a xs)) new b = subst (λ m. Behind m new b) p.1 q in
    (omega (arith, p.0, there.0, length-drop a xs), there.1 ∙ ap Some (drop-drop b a xs))

-- by the result of a reading call
pub behind-passed : (old new : Option (List ℕ)) (n place place' : ℕ) → (IsSome old → IsSome new) → (IsSome old → passed_over n (rest_of place old) ≡ Ok (tt, rest_of place' new)) → Behind old new n
behind-passed None new n place place' told answer = tt
behind-passed (Some xs) None n place place' told answer = (let no = told refl in absurd cc)
behind-passed (Some xs) (Some ys) n place place' told answer =
    (passed-there n (rest_of place (Some xs)) (rest_of place' (Some ys)) (answer refl), ap (λ (r : Rest). Some r.bytes) (passed-behind n (rest_of place (Some xs)) (rest_of place' (Some ys)) (answer refl)))

-- by offsets of a store
pub behind-stored : (told : Option (List ℕ)) (place n : ℕ) → IfSome told (λ xs. place + n ≤ length xs) → Behind (told_from place told) (told_from (place + n) told) n
behind-stored None place n h = tt
behind-stored (Some xs) place n h = (omega (arith, h, length-drop place xs), ap Some (sym (drop-drop n place xs)))

-- ---- copying

if-same : (told : Option (List ℕ)) (bytes : List ℕ) (n : ℕ) → bytes ≡ first_bytes n (bytes_of told) → IfSome told (λ there. bytes ≡ first_bytes n there)
if-same None bytes n e = tt
if-same (Some xs) bytes n e = e

pub front_none : (told : Option (List ℕ)) (n : ℕ) (a : SinkState) → a.taken ≤ last → CopiedFront told n a a
front_none told n a h = record { bytes = first_bytes n (bytes_of told); same = if-same told (first_bytes n (bytes_of told)) n refl; front = record { out = 0; front = puts_none a h } }

both-same : (old mid : Option (List ℕ)) (a b : ℕ) (xs ys : List ℕ) → Behind old mid a → IfSome old (λ there. xs ≡ first_bytes a there) → IfSome mid (λ there. ys ≡ first_bytes b there)
    → IfSome old (λ there. xs ++ ys ≡ first_bytes (a + b) there)
both-same None mid a b xs ys h p q = tt
both-same (Some there) mid a b xs ys h p q =
    let second : IfSome (Some (drop a there)) (λ t. ys ≡ first_bytes b t) = subst (λ m. IfSome m (λ t. ys ≡ first_bytes b t)) h.1 q in
    ap (λ l. l ++ ys) p ∙ ap (λ l. first_bytes a there ++ l) second ∙ first-then a b there h.0

-- some bytes were copied, and then others
pub copied_then : {old mid : Option (List ℕ)} {m n : ℕ} {a b c : SinkState} → Behind old mid m → Copied old m a b → Copied mid n b c → Copied old (m + n) a c
copied_then {old} {mid} {m} {n} h p q = record { bytes = p.bytes ++ q.bytes; same = both-same old mid m n p.bytes q.bytes h p.same q.same; puts = puts_then p.puts q.puts }

-- some bytes were copied, and then a prefix of others
pub copied_then_front : {old mid : Option (List ℕ)} {m n : ℕ} {a b c : SinkState} → Behind old mid m → Copied old m a b → CopiedFront mid n b c → CopiedFront old (m + n) a c
copied_then_front {old} {mid} {m} {n} h p q = record { bytes = p.bytes ++ q.bytes; same = both-same old mid m n p.bytes q.bytes h p.same q.same; front = then_front p.puts q.front }

more-same : (told : Option (List ℕ)) (m n : ℕ) (xs : List ℕ) → m ≤ n → IfSome told (λ there. xs ≡ first_bytes m there) → IfSome told (λ there. xs ++ drop m (first_bytes n (bytes_of told)) ≡ first_bytes n there)
more-same None m n xs h p = tt
more-same (Some there) m n xs h p = ap (λ l. l ++ drop m (first_bytes n there)) p ∙ first-front m n there h

-- a prefix of some bytes is one of more
pub front_of_more : {told : Option (List ℕ)} {m : ℕ} {a b : SinkState} (n : ℕ) → m ≤ n → CopiedFront told m a b → CopiedFront told n a b
front_of_more {told} {m} n h p = record {
  bytes = p.bytes ++ drop m (first_bytes n (bytes_of told));
  same = more-same told m n p.bytes h p.same;
  front = front_more (drop m (first_bytes n (bytes_of told))) p.front;
}

pub any_err : {X E : Type 0} (r : Result X E) {P : Type 0} → P → OnErr r P
any_err (Ok x) p = tt
any_err (Err e) p = p

-- the bytes copied are those no longer left
pub counted : (count left n m : ℕ) → left ≤ count → n ≤ left → m ≡ left - n → (count - left) + n ≡ count - m
counted count left n m p q e = omega (arith, p, q, e)

pub front_resized : {told : Option (List ℕ)} {m n : ℕ} {a b : SinkState} → CopiedFront told m a b → m ≡ n → CopiedFront told n a b
front_resized {told} {m} {n} {a} {b} p e = subst (λ k. CopiedFront told k a b) e p

pub copied_resized : {told : Option (List ℕ)} {m n : ℕ} {a b : SinkState} → Copied told m a b → m ≡ n → Copied told n a b
copied_resized {told} {m} {n} {a} {b} p e = subst (λ k. Copied told k a b) e p

-- some of the bytes that a store has
pub within-stored : (told : Option (List ℕ)) (place size n : ℕ) → Told told (λ file. place + size ≤ length file) → n ≤ size → IfSome told (λ xs. place + n ≤ length xs)
within-stored None place size n h le = tt
within-stored (Some xs) place size n h le = omega (arith, h refl, le)
