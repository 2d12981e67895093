-- Steps of reading, one after the other.
use Rattle.std.proofs.Common.{◌≡◌, ℕ, ◌+◌, Bool, true, false, nat_lt, List, [], ◌++◌, length, take, drop, Option, Result, Ok, Err, refl, ap, sym, ◌∙◌, subst, arith, inl, inr, length-append, append_assoc, take_at}
use Rattle.std.specs.Int.{Width, byte_len, from_be_bytes}
use Rattle.std.proofs.lemmas.Bool.{cases_lt, le-ltb}
use Rattle.std.proofs.lemmas.List.{drop_at, get_or-drop, get_or-take, get_or_past, length-take}
use Rattle.pw_outside.specs.Reading.{Fault, Rest, Read, bind, refuse, number_at, AreBytes, Took, Agrees}

module _ {Kind : Type 0} where
  -- a step that gives a value is gone
  pub bind-step : {A B : Type 0} (r : Result A (Fault Kind)) (next : A → Result B (Fault Kind)) {x : A} → r ≡ Ok x → bind r next ≡ next x
  unfolding bind
  bind-step r next e = rw e refl

  -- equal first steps
  pub bind-first : {A B : Type 0} (r q : Result A (Fault Kind)) (next : A → Result B (Fault Kind)) → r ≡ q → bind r next ≡ bind q next
  bind-first r q next e = ap (λ x. bind x next) e

  -- two chains that go on alike after each value
  pub bind-same : {A B : Type 0} (r : Result A (Fault Kind)) (f g : A → Result B (Fault Kind)) → ((x : A) → r ≡ Ok x → f x ≡ g x) → bind r f ≡ bind r g
  unfolding bind
  bind-same (Ok x) f g h = h x refl
  bind-same (Err e) f g h = refl

  -- a chain that gives a value passed its first step
  pub bind-ok : {A B : Type 0} (r : Result A (Fault Kind)) (next : A → Result B (Fault Kind)) {y : B} → bind r next ≡ Ok y → (x : A) × (r ≡ Ok x) × (next x ≡ Ok y)
  unfolding bind
  bind-ok (Ok x) next e = (x, refl, e)
  bind-ok (Err f) next e = absurd cc

  pub refuse-ok : (test : Bool) (kind : Kind) (place : ℕ) {x : Unit {0}} → refuse test kind place ≡ Ok x → test ≡ false
  refuse-ok true kind place e = absurd cc
  refuse-ok false kind place e = refl

  pub refuse-none : (test : Bool) (kind : Kind) (place : ℕ) → test ≡ false → refuse test kind place ≡ Ok tt
  refuse-none test kind place e = rw e refl

  -- a refusal whose test fails is gone
  pub refuse-step : {B : Type 0} (test : Bool) (kind : Kind) (place : ℕ) (next : Unit {0} → Result B (Fault Kind)) → test ≡ false → bind (refuse test kind place) next ≡ next tt
  refuse-step test kind place next e = bind-step (refuse test kind place) next (refuse-none test kind place e)

  pub bind-bind : {A B C : Type 0} (r : Result A (Fault Kind)) (f : A → Result B (Fault Kind)) (g : B → Result C (Fault Kind)) → bind (bind r f) g ≡ bind r (λ x. bind (f x) g)
  unfolding bind
  bind-bind (Ok x) f g = refl
  bind-bind (Err e) f g = refl

  -- what is found, and the rest after it
  abbrev pub found : {A : Type 0} → A → ℕ → List ℕ → Read Kind A
  found x place bytes = Ok (x, record { place = place; bytes = bytes })

  pub same_rest : {A : Type 0} (x : A) (p q : ℕ) (bytes : List ℕ) → p ≡ q → found x p bytes ≡ found x q bytes
  same_rest x p q bytes e = ap (λ (r : ℕ). found x r bytes) e

  -- the number whose bytes come first
  pub number-here : (short : Kind) (w : Width) (n place : ℕ) (bytes behind : List ℕ) → length bytes ≡ byte_len w → from_be_bytes w bytes ≡ n
      → number_at short w (record { place = place; bytes = bytes ++ behind }) ≡ found n (place + byte_len w) behind
  number-here short w n place bytes behind len is =
      let long : nat_lt (length (bytes ++ behind)) (byte_len w) ≡ false = le-ltb _ _ (omega (arith, length-append bytes behind)) in
      let front = take_at bytes behind (byte_len w) len in
      let rest = drop_at bytes behind (byte_len w) len in
      rw (long, front, rest, is) refl

  -- a chain that gives a value passed the refusal before
  pub refuse-passed : {B : Type 0} (test : Bool) (kind : Kind) (place : ℕ) (next : Unit {0} → Result B (Fault Kind)) {y : B} → bind (refuse test kind place) next ≡ Ok y → (test ≡ false) × (next tt ≡ Ok y)
  unfolding bind
  refuse-passed true kind place next e = absurd cc
  refuse-passed false kind place next e = (refl, e)

pub bytes-drop : (n : ℕ) (bytes : List ℕ) → AreBytes bytes → AreBytes (drop n bytes)
bytes-drop n bytes h i = rw get_or-drop (h (n + i))

pub bytes-take : (n : ℕ) (bytes : List ℕ) → AreBytes bytes → AreBytes (take n bytes)
bytes-take n bytes h i =
    elim (cases_lt i n) [
      | inl lt ↦ rw (get_or-take n bytes i 0 lt) (h i)
      | inr le ↦ rw (get_or_past (take n bytes) i 0 (omega (arith, length-take n bytes))) (omega arith)
    ]

-- nothing was read
pub took_none : (s : Rest) → AreBytes s.bytes → Took s [] s
took_none s fits = record { parts = refl; place = omega arith; behind = fits }

-- one thing was read, and then another
pub then_took : {a b c : Rest} {x y : List ℕ} → Took a x b → Took b y c → Took a (x ++ y) c
then_took {a} {b} {c} {x} {y} p q = record {
  parts = p.parts ∙ ap (λ (t : List ℕ). x ++ t) q.parts ∙ sym (append_assoc x y c.bytes);
  place = omega (arith, p.place, q.place, length-append x y);
  behind = q.behind;
}

-- an answer of reading is one of what is equal to it
pub agrees-same : {Kind E X Y : Type 0} (fault : E → Option (Fault Kind)) (view : X → Y) (result : Result X E) (rest : Rest) {a b : Read Kind Y} → a ≡ b → Agrees fault view result rest a → Agrees fault view result rest b
agrees-same fault view result rest e h = subst (Agrees fault view result rest) e h
