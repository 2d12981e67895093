-- The result of a read consists of bytes.
use Rattle.std.proofs.Common.{◌≡◌, ℕ, zero, suc, List, [], ◌∷◌, ◌++◌, take, Option, Some, None, Result, Ok, Err, false, true, arith, refl, sym, subst, ◌∙◌}
use Rattle.std.specs.Prelude.{IsSome}
use Rattle.std.specs.Io.KnownBytes.{Consumes, Keeps, ReadConsumes, IsAtEnd}
use Rattle.pw_outside.specs.Reading.{AreBytes, bytes_of}
use Rattle.pw_outside.proofs.Steps.{bytes-take}
use Rattle.run_look.specs.inner.Through.{GaveBytes}

bytes-append : (a b : List ℕ) → AreBytes a → AreBytes b → AreBytes (a ++ b)
bytes-append [] b ha hb i = hb i
bytes-append (x ∷ a) b ha hb zero = ha 0
bytes-append (x ∷ a) b ha hb (suc i) = bytes-append a b (λ k. ha (suc k)) hb i

-- opaque bytes
abbrev no_bytes : Option (List ℕ)
no_bytes = None

none_told : {X : Type 0} → IsSome no_bytes → X
none_told t = let f : false ≡ true = t in cc

-- a piece was consumed
gave_piece : {N : Type 0} (old new : Option (List ℕ)) (piece : List ℕ) (n : N) → AreBytes piece → Consumes old new piece → GaveBytes old new n n
gave_piece None new piece n fit c = record { same = refl; told = λ t. none_told t; bytes = λ t h. none_told t }
gave_piece (Some xs) None piece n fit c = absurd c
gave_piece (Some xs) (Some ys) piece n fit c = record { same = refl; told = λ t. t; bytes = λ t h. subst AreBytes (sym c) (bytes-append piece ys fit h) }

-- nothing was consumed
kept_all : {N : Type 0} (old new : Option (List ℕ)) (n : N) → Keeps old new → GaveBytes old new n n
kept_all None new n c = record { same = refl; told = λ t. none_told t; bytes = λ t h. none_told t }
kept_all (Some xs) None n c = absurd c
kept_all (Some xs) (Some ys) n c = record { same = refl; told = λ t. t; bytes = λ t h. subst AreBytes c h }

-- a call of reading
pub gave_read : {E N : Type 0} (old new : Option (List ℕ)) (r : Result ℕ E) (piece : List ℕ) (n : N) → AreBytes piece → ReadConsumes old new r piece → GaveBytes old new n n
gave_read old new (Ok k) piece n fit c = gave_piece old new (take k piece) n (bytes-take k piece fit) c.0
gave_read old new (Err e) piece n fit c = kept_all old new n c

-- one call, and then another
pub gave_then : {N : Type 0} {a b c : Option (List ℕ)} {n m l : N} → GaveBytes a b n m → GaveBytes b c m l → GaveBytes a c n l
gave_then p q = record { same = q.same ∙ p.same; told = λ t. q.told (p.told t); bytes = λ t h. p.bytes t (q.bytes (p.told t) h) }

-- all bytes were read
pub gave_all : {N : Type 0} (old new : Option (List ℕ)) (n m : N) → GaveBytes old new n m → IsAtEnd new → IsSome old → AreBytes (bytes_of old)
gave_all old None n m g end t = g.bytes t none
  where
    none : AreBytes (bytes_of None)
    none i = omega arith
gave_all old (Some ys) n m g end t = g.bytes t (subst AreBytes (sym end) none)
  where
    none : AreBytes []
    none i = omega arith
