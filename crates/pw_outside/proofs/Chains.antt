-- Reading several things one after the other, as a loop does.
use Rattle.std.proofs.Common.{◌≡◌, List, ◌∷◌, [], ◌++◌, Option, Result, Ok, Err, refl, ap, append_assoc}
use Rattle.pw_outside.specs.Reading.{Fault, Read, bind, ◌>>=◌, Fails}
use Rattle.pw_outside.proofs.Results.{if_some_weaker}

-- what was read before, and then what is still read
abbrev pub with_front : {Kind X : Type 0} → List X → Read Kind (List X) → Read Kind (List X)
with_front front read = read >>= λ x. Ok (front ++ x.0, x.1)

-- the first of what is still read goes over to what was read before
pub with_front-more : {Kind X : Type 0} (front : List X) (first : X) (read : Read Kind (List X))
    → with_front front (read >>= λ x. Ok (first ∷ x.0, x.1)) ≡ with_front (front ++ first ∷ []) read
unfolding bind
with_front-more {Kind} {X} front first (Ok x) = ap (λ (all : List X). Ok (all, x.1)) (simp append_assoc)
with_front-more front first (Err f) = refl

-- An error tells the fault of the whole where each fault of the part is one of the whole.
pub fails-whole : {Kind E X Y : Type 0} (fault : E → Option (Fault Kind)) (e : E) (part : Result X (Fault Kind)) (whole : Result Y (Fault Kind))
    → ((f : Fault Kind) → part ≡ Err f → whole ≡ Err f) → Fails fault e part → Fails fault e whole
fails-whole fault e part whole h told = if_some_weaker (fault e) (λ f. part ≡ Err f) (λ f. whole ≡ Err f) h told

-- Where nothing was read before, what is still read is all.
pub with_front_nil : {Kind X : Type 0} (read : Read Kind (List X)) → with_front [] read ≡ read
unfolding bind
with_front_nil (Ok x) = refl
with_front_nil (Err f) = refl
