-- Parsing a format from left to right: a value and the rest, or the first fault and its place. A format's
-- definition is a chain of these steps; a call that reads has one clause, that it returns what the definition
-- gives.
use Rattle.std.specs.Prelude.{◌≡◌, ℕ, ◌+◌, ◌<◌, List, [], ◌++◌, length, take, drop, slice_index, Option, Bool, Result, Ok, Err, nat_lt, if◌then◌else◌, IsSome, OnOk, IfSome, unwrap_or}
use Rattle.std.specs.Int.{Width, byte_len, from_be_bytes}

-- what is wrong, and the offset of the input at which it is
pub record Fault (Kind : Type 0) : Type 0 where
  pub kind : Kind
  pub place : ℕ

-- the bytes that are still to be read, and the offset of the first of them
pub record Rest : Type 0 where
  pub place : ℕ
  pub bytes : List ℕ

-- what parsing gives: a value and the rest after it, or the first fault
abbrev pub Read : Type 0 → Type 0 → Type 0
Read Kind A = Result (A × Rest) (Fault Kind)

-- the next step on the value; an earlier fault stays the result
unfoldable pub bind : {Kind A B : Type 0} → Result A (Fault Kind) → (A → Result B (Fault Kind)) → Result B (Fault Kind)
bind (Ok x) next = next x
bind (Err e) next = Err e

infixl 10 ◌>>=◌
abbrev pub ◌>>=◌ : {Kind A B : Type 0} → Result A (Fault Kind) → (A → Result B (Fault Kind)) → Result B (Fault Kind)
r >>= next = bind r next

-- a fault at this place
abbrev pub bad : {Kind A : Type 0} → Kind → ℕ → Result A (Fault Kind)
bad kind place = Err (record { kind = kind; place = place })

-- a fault at this place, where the test holds
abbrev pub refuse : {Kind : Type 0} → Bool → Kind → ℕ → Result (Unit {0}) (Fault Kind)
refuse test kind place = if test then bad kind place else Ok tt

-- the next n bytes; a fault of kind `short` at their offset if fewer are left
abbrev pub bytes_at : {Kind : Type 0} → Kind → ℕ → Rest → Read Kind (List ℕ)
bytes_at short n s = if nat_lt (length s.bytes) n then bad short s.place
    else Ok (take n s.bytes, record { place = s.place + n; bytes = drop n s.bytes })

-- the next number of this width, the most significant byte first
abbrev pub number_at : {Kind : Type 0} → Kind → Width → Rest → Read Kind ℕ
number_at short w s = if nat_lt (length s.bytes) (byte_len w) then bad short s.place
    else Ok (from_be_bytes w (take (byte_len w) s.bytes), record { place = s.place + byte_len w; bytes = drop (byte_len w) s.bytes })

-- each is a byte
abbrev pub AreBytes : List ℕ → Type 0
AreBytes bytes = (k : ℕ) → slice_index bytes k < 256

-- `text` was read, and `rest` is what comes after it.
pub record Took (s : Rest) (text : List ℕ) (rest : Rest) : Type 0 where
  pub parts : s.bytes ≡ text ++ rest.bytes
  pub place : rest.place ≡ s.place + length text
  pub behind : AreBytes rest.bytes

-- ---- how a call relates to its format's definition. `fault` says which errors of the call report a fault of the bytes;
-- ---- the other errors are a port's failure or missing memory.

-- the bytes of a port, where they are visible
abbrev pub bytes_of : Option (List ℕ) → List ℕ
bytes_of told = unwrap_or told []

-- the bytes left, as a rest that begins at this offset
abbrev pub rest_of : ℕ → Option (List ℕ) → Rest
rest_of place left = record { place = place; bytes = bytes_of left }

-- An error that reports a fault reports the one that the definition gives.
abbrev pub Fails : {Kind E Y : Type 0} → (E → Option (Fault Kind)) → E → Result Y (Fault Kind) → Type 0
Fails fault e found = IfSome (fault e) (λ f. found ≡ Err f)

-- The result is the value that the definition gives, seen by `view`, or its fault.
abbrev pub Answers : {Kind E X Y : Type 0} → (E → Option (Fault Kind)) → (X → Y) → Result X E → Result Y (Fault Kind) → Type 0
Answers fault view (Ok x) found = found ≡ Ok (view x)
Answers fault view (Err e) found = Fails fault e found

-- The same of a call that moves on in the input: `rest` is what the definition leaves.
abbrev pub Agrees : {Kind E X Y : Type 0} → (E → Option (Fault Kind)) → (X → Y) → Result X E → Rest → Read Kind Y → Type 0
Agrees fault view (Ok x) rest found = found ≡ Ok (view x, rest)
Agrees fault view (Err e) rest found = Fails fault e found

-- If a port's bytes are visible, the fact holds of them.
abbrev pub Told : Option (List ℕ) → (List ℕ → Type 0) → Type 0
Told bytes fact = IsSome bytes → fact (bytes_of bytes)

-- If a source's bytes are visible, they stay visible, and the result is what the definition gives for them.
pub record Gives {Kind E X Y : Type 0} (fault : E → Option (Fault Kind)) (view : X → Y) (old new : Option (List ℕ)) (before after : ℕ) (result : Result X E) (read : Rest → Read Kind Y) : Type 0 where
  pub told : IsSome old → OnOk result (IsSome new)
  pub answer : IsSome old → Agrees fault view result (rest_of after new) (read (rest_of before old))

-- The same of a call that doesn't return the offset after what it read.
pub record GivesValue {Kind E X Y : Type 0} (fault : E → Option (Fault Kind)) (view : X → Y) (old new : Option (List ℕ)) (before : ℕ) (result : Result X E) (read : Rest → Read Kind Y) : Type 0 where
  pub told : IsSome old → OnOk result (IsSome new)
  pub answer : IsSome old → (after : ℕ) × Agrees fault view result (rest_of after new) (read (rest_of before old))
