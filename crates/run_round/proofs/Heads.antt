-- A head line that is read has a format within the limits.
use Rattle.std.proofs.Common.{◌≡◌, refl, ℕ, ◌+◌, ◌≤◌, ◌%◌, Bool, true, false, Option, None, Some, Result, Ok, Err, List, [], ◌∷◌, length, arith, sym, subst}
use Rattle.std.specs.Prelude.{IfSome, IfOk, IsTrue, nat_le, ◌&&◌, ◌||◌, ◌==◌, if◌then◌else◌, option_and_then, unwrap_or}
use Rattle.std.specs.List.{slice_split, position}
use Rattle.std.proofs.lemmas.Bool.{leb-true}
use Rattle.std.proofs.lemmas.Bool.Decides.{nat_tests}
use Rattle.pw_outside.specs.Reading.{Fault, Rest, bind, refuse}
use Rattle.pw_planes.specs.declared.kinds.Interlace.{Interlace}
use Rattle.pw_planes.specs.declared.kinds.Interlace.TheVariants.{Progressive, TopFirst, BottomFirst}
use Rattle.pw_planes.specs.declared.plane.TheConstants.{MAX_WIDTH, MAX_HEIGHT}
use Rattle.pic_y4m.specs.declared.head.Head.{Head}
use Rattle.pic_y4m.specs.declared.head.TheConstants.{MAX_RATE_NUM, MAX_RATE_DEN}
use Rattle.pic_y4m.specs.declared.fault.PictureKind.{PictureKind}
use Rattle.pic_y4m.specs.Values.{number, when_within, number_within, rate_from, rate_of, shared_rows, IsRate}
use Rattle.pic_y4m.specs.Parameters.{AreWithin, none_found, is_space, required, with_width, with_height, with_rate, with_mode, with_format, with_parameter, parameters_of}
use Rattle.pic_y4m.specs.HeadLine.{IsHead, is_interlaced, mode_allowed, interlace_in, stream_of, text_stream, stream_at}
use Rattle.pic_y4m.specs.Frames.{Pictures, start_at}
use Rattle.pic_raw.specs.Any.{head_of, pictures_of}

-- ---- steps

abbrev Step : Type 0 → Type 0
Step A = Result A (Fault PictureKind)

-- if each value of a step leads to a good one, the chain does
chained : {A B : Type 0} (Q : A → Type 0) (P : B → Type 0) (r : Step A) (next : A → Step B) → IfOk r Q → ((x : A) → Q x → IfOk (next x) P) → IfOk (bind r next) P
unfolding bind
chained Q P (Ok x) next h k = k x h
chained Q P (Err f) next h k = tt

unasked : {A : Type 0} (r : Step A) → IfOk r (λ x. Unit {0})
unasked (Ok x) = tt
unasked (Err f) = tt

refused : (test : Bool) (kind : PictureKind) (place : ℕ) → IfOk (refuse test kind place) (λ x. test ≡ false)
refused true kind place = tt
refused false kind place = refl

either : {A : Type 0} (P : A → Type 0) (test : Bool) (x y : Step A) → IfOk x P → IfOk y P → IfOk (if test then x else y) P
either P true x y h k = h
either P false x y h k = k

needed : {A : Type 0} (P : A → Type 0) (o : Option A) (kind : PictureKind) (place : ℕ) → IfSome o P → IfOk (required o kind place) P
needed P None kind place h = tt
needed P (Some x) kind place h = h

-- ---- values

and-then : {A B : Type 0} (Q : A → Type 0) (P : B → Type 0) (f : A → Option B) (o : Option A) → IfSome o Q → ((x : A) → Q x → IfSome (f x) P) → IfSome (option_and_then f o) P
and-then Q P f None h k = tt
and-then Q P f (Some x) h k = k x h

any-some : {A : Type 0} (o : Option A) → IfSome o (λ x. Unit {0})
any-some None = tt
any-some (Some x) = tt

abbrev IsWithin : ℕ → ℕ → ℕ → Type 0
IsWithin low high n = (low ≤ n) × (n ≤ high)

within-tests : (low high n : ℕ) (a b : Bool) → nat_le low n ≡ a → nat_le n high ≡ b → IfSome (if a && b then Some n else None) (IsWithin low high)
within-tests low high n true true e f = (leb-true low n e, leb-true n high f)
within-tests low high n true false e f = tt
within-tests low high n false b e f = tt

number-is : (low high : ℕ) (bytes : List ℕ) → IfSome (number_within low high bytes) (IsWithin low high)
unfolding number_within
number-is low high bytes = and-then (λ n. Unit {0}) (IsWithin low high) (when_within low high) (number bytes) (any-some (number bytes))
    (λ n h. within-tests low high n (nat_le low n) (nat_le n high) refl refl)

rate-from : (num den : ℕ) (a b : Bool) → (num == 0) ≡ a → (den == 0) ≡ b → num ≤ 1000000 → den ≤ 4000
    → IfSome (if a && b then Some (record { num = 25; den = 1 }) else (if a || b then None else Some (record { num = num; den = den }))) IsRate
rate-from num den true true e f n d = record { some_num = omega arith; num = omega arith; some_den = omega arith; den = omega arith }
rate-from num den true false e f n d = tt
rate-from num den false true e f n d = tt
rate-from num den false false e f n d = record { some_num = grind (arith, nat_tests); num = n; some_den = grind (arith, nat_tests); den = d }

rate-is : (bytes : List ℕ) → IfSome (rate_of bytes) IsRate
unfolding rate_of
rate-is bytes = and-then (λ n. Unit {0}) IsRate _ (position (λ b. b == 58) bytes) (any-some (position (λ b. b == 58) bytes)) (λ colon h.
    and-then (IsWithin 0 MAX_RATE_NUM) IsRate _ _ (number-is 0 MAX_RATE_NUM _) (λ num n.
    and-then (IsWithin 0 MAX_RATE_DEN) IsRate (rate_from num) _ (number-is 0 MAX_RATE_DEN _) (λ den d. rate-from num den (num == 0) (den == 0) refl refl n.1 d.1)))

-- ---- parameters

width-kept : (p : _) (place : ℕ) (value : List ℕ) → AreWithin p → IfOk (with_width p place value) AreWithin
unfolding with_width
width-kept p place value is = chained (λ x. Unit {0}) AreWithin _ _ (unasked _) (λ x h.
    chained (IsWithin 1 MAX_WIDTH) AreWithin _ _ (needed (IsWithin 1 MAX_WIDTH) _ _ place (number-is 1 MAX_WIDTH value)) (λ n h. record { width = h; height = is.height; rate = is.rate }))

height-kept : (p : _) (place : ℕ) (value : List ℕ) → AreWithin p → IfOk (with_height p place value) AreWithin
unfolding with_height
height-kept p place value is = chained (λ x. Unit {0}) AreWithin _ _ (unasked _) (λ x h.
    chained (IsWithin 1 MAX_HEIGHT) AreWithin _ _ (needed (IsWithin 1 MAX_HEIGHT) _ _ place (number-is 1 MAX_HEIGHT value)) (λ n h. record { width = is.width; height = h; rate = is.rate }))

rate-kept : (p : _) (place : ℕ) (value : List ℕ) → AreWithin p → IfOk (with_rate p place value) AreWithin
unfolding with_rate
rate-kept p place value is = chained (λ x. Unit {0}) AreWithin _ _ (unasked _) (λ x h.
    chained IsRate AreWithin _ _ (needed IsRate _ _ place (rate-is value)) (λ n h. record { width = is.width; height = is.height; rate = h }))

mode-kept : (p : _) (place : ℕ) (value : List ℕ) → AreWithin p → IfOk (with_mode p place value) AreWithin
unfolding with_mode
mode-kept p place value is = chained (λ x. Unit {0}) AreWithin _ _ (unasked _) (λ x h.
    chained (λ x. Unit {0}) AreWithin _ _ (unasked _) (λ x h.
    chained (λ x. Unit {0}) AreWithin _ _ (unasked _) (λ x h. record { width = is.width; height = is.height; rate = is.rate })))

format-kept : (p : _) (place : ℕ) (value : List ℕ) → AreWithin p → IfOk (with_format p place value) AreWithin
unfolding with_format
format-kept p place value is = chained (λ x. Unit {0}) AreWithin _ _ (unasked _) (λ x h.
    chained (λ x. Unit {0}) AreWithin _ _ (unasked _) (λ x h. record { width = is.width; height = is.height; rate = is.rate }))

parameter-kept : (p : _) (place : ℕ) (word : List ℕ) → AreWithin p → IfOk (with_parameter p place word) AreWithin
unfolding with_parameter
parameter-kept p place [] is = is
parameter-kept p place (letter ∷ value) is =
    either AreWithin (letter == 87) _ _ (width-kept p place value is)
    (either AreWithin (letter == 72) _ _ (height-kept p place value is)
    (either AreWithin (letter == 70) _ _ (rate-kept p place value is)
    (either AreWithin (letter == 73) _ _ (mode-kept p place value is)
    (either AreWithin (letter == 67) _ _ (format-kept p place value is) is))))

parameters-kept : (p : _) (place : ℕ) (words : List (List ℕ)) → AreWithin p → IfOk (parameters_of p place words) AreWithin
unfolding parameters_of
parameters-kept p place [] is = is
parameters-kept p place (word ∷ words) is =
    chained AreWithin AreWithin (with_parameter p place word) _ (parameter-kept p place word is) (λ q h. parameters-kept q (place + (length word + 1)) words h)

-- ---- the head

even-rows : (mode : Interlace) (shares : Bool) (height : ℕ) → (is_interlaced mode && (shares || (height % 2 == 1))) ≡ false → IsTrue (is_interlaced mode) → height % 2 ≡ 0
even-rows Progressive shares height e t = absurd cc
even-rows TopFirst true height e t = absurd cc
even-rows TopFirst false height e t = grind (arith, nat_tests)
even-rows BottomFirst true height e t = absurd cc
even-rows BottomFirst false height e t = grind (arith, nat_tests)

rate-or : (o : Option _) → IfSome o IsRate → IsRate (unwrap_or o (record { num = 25; den = 1 }))
rate-or None h = record { some_num = omega arith; num = omega arith; some_den = omega arith; den = omega arith }
rate-or (Some r) h = h

weakened : {A : Type 0} (P Q : A → Type 0) (r : Step A) → IfOk r P → ((x : A) → P x → Q x) → IfOk r Q
weakened P Q (Ok x) h k = k x h
weakened P Q (Err f) h k = tt

-- interlaced frames have an even number of rows
mode-even : (mode : Option _) (width : Option ℕ) (n : ℕ) (rate : Option _) (found : Option _) (format : _)
    → IfOk (mode_allowed (record { width = width; height = Some n; rate = rate; mode = mode; format = found }) format) (λ x. IsTrue (is_interlaced (interlace_in mode)) → n % 2 ≡ 0)
unfolding mode_allowed
mode-even None width n rate found format = λ t. absurd cc
mode-even (Some mode) width n rate found format =
    weakened (λ x. (is_interlaced mode.interlace && (format.shares_rows || (n % 2 == 1))) ≡ false) (λ x. IsTrue (is_interlaced mode.interlace) → n % 2 ≡ 0) _ (refused _ _ _)
    (λ x e t. even-rows mode.interlace format.shares_rows n e t)

stream-is : (width height : Option ℕ) (rate : Option _) (mode : Option _) (format : Option _)
    → AreWithin (record { width = width; height = height; rate = rate; mode = mode; format = format })
    → IfOk (stream_of (record { width = width; height = height; rate = rate; mode = mode; format = format })) (λ s. IsHead s.head)
unfolding stream_of
stream-is None height rate mode format is = chained (λ x. Unit {0}) (λ s. IsHead s.head) _ _ (unasked _) (λ x h. chained (λ x. ⊥) (λ s. IsHead s.head) _ _ tt (λ x h. absurd h))
stream-is (Some w) None rate mode format is =
    chained (λ x. Unit {0}) (λ s. IsHead s.head) _ _ (unasked _) (λ x h. chained (λ x. Unit {0}) (λ s. IsHead s.head) _ _ tt (λ x h. chained (λ x. ⊥) (λ s. IsHead s.head) _ _ tt (λ x h. absurd h)))
stream-is (Some w) (Some n) rate mode format is =
    let r = rate-or rate is.rate in
    chained (λ x. IsTrue (is_interlaced (interlace_in mode)) → n % 2 ≡ 0) (λ s. IsHead s.head) _ _ (mode-even mode (Some w) n rate format (unwrap_or format shared_rows)) (λ x even.
    chained (IsWithin 1 MAX_WIDTH) (λ s. IsHead s.head) _ _ is.width (λ width columns.
    chained (λ height. (height ≡ n) × IsWithin 1 MAX_HEIGHT height) (λ s. IsHead s.head) _ _ (refl, is.height) (λ height rows. record {
      some_columns = columns.0;
      columns = columns.1;
      some_rows = rows.1.0;
      rows = rows.1.1;
      fields = λ t. subst (λ k. k % 2 ≡ 0) (sym rows.0) (even t);
      some_num = r.some_num;
      num = r.num;
      some_den = r.some_den;
      den = r.den;
    })))

text-is : (text : List ℕ) → IfOk (text_stream text) (λ s. IsHead s.head)
unfolding text_stream
text-is text = chained (λ x. Unit {0}) (λ s. IsHead s.head) _ _ (unasked _) (λ x h.
    chained AreWithin (λ s. IsHead s.head) _ _ (parameters-kept none_found 9 (slice_split is_space text) (record { width = tt; height = tt; rate = tt })) (λ p is.
    stream-is p.width p.height p.rate p.mode p.format is))

line-is : (s : Rest) → IfOk (stream_at s) (λ x. IsHead x.0.head)
unfolding stream_at
line-is s = chained (λ x. Unit {0}) (λ x. IsHead x.0.head) _ _ (unasked _) (λ magic h.
    chained (λ x. Unit {0}) (λ x. IsHead x.0.head) _ _ (unasked _) (λ line h.
    chained (λ x. Unit {0}) (λ x. IsHead x.0.head) _ _ (unasked _) (λ text h.
    chained (λ s. IsHead s.head) (λ x. IsHead x.0.head) _ _ (text-is text) (λ stream h. h))))

start-is : (s : Rest) → IfOk (start_at s) (λ x. IsHead x.0.form.head)
unfolding start_at
start-is s = chained (λ x. IsHead x.0.head) (λ x. IsHead x.0.form.head) _ _ (line-is s) (λ stream h. h)

y4m-is : (bytes : List ℕ) → IfOk (pictures_of None bytes) (λ x. IsHead x.0)
unfolding pictures_of
y4m-is bytes = chained (λ x. IsHead (head_of x.0)) (λ x. IsHead x.0) _ _
    (chained (λ x. IsHead x.0.form.head) (λ x. IsHead (head_of x.0)) _ _ (start-is (record { place = 0; bytes = bytes })) (λ r h. h)) (λ start h. h)

pub y4m-head : (head : Head) (bytes : List ℕ) (ps : Pictures) → pictures_of None bytes ≡ Ok (head, ps) → IsHead head
y4m-head head bytes ps e = subst (λ r. IfOk r (λ x. IsHead x.0)) e (y4m-is bytes)
