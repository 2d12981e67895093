-- Reading a component's bits: the blocks, or the first fault in the order of bits (SMPTE RDD 36, scanned
-- coefficients; the faults and the end of the data are our own).
use Rattle.std.specs.Prelude.{ℕ, zero, suc, ◌+◌, ◌-◌, ◌*◌, ◌/◌, ◌%◌, Bool, true, false, List, [], ◌∷◌, ◌++◌, length, replicate, map, get_or, nat_eq, nat_lt, nat_le, if◌then◌else◌, Result, Ok, Err, ℤ, pos, negsuc, ◌+ℤ◌, nat_abs}
use Rattle.std.specs.List.{range_with_len}
use Rattle.pr_codes.specs.Words.{code_at, book, leading, WordFault}
use Rattle.pr_codes.specs.declared.book.Codebook.{Codebook}
use Rattle.pr_coeff.specs.Component.{is_negative, turned, dc_book, run_book, level_book, Block, index_of}

-- the faults of bits
pub data Fault : Type 0 where
  codeword : Fault
  run_past : Fault
  level_range : Fault

-- the next step, if no fault came before it
infixl 10 ◌>>=◌
abbrev pub ◌>>=◌ : {A B : Type 0} → Result A Fault → (A → Result B Fault) → Result B Fault
(Ok x) >>= f = f x
(Err e) >>= f = Err e

-- a codeword that isn't there is a fault, whatever the reason
abbrev pub faulty : {A : Type 0} → Result A WordFault → Result A Fault
faulty (Ok x) = Ok x
faulty (Err e) = Err codeword

-- the number of the next codeword, and the bits after it
abbrev pub word_at : Codebook → List Bool → Result (ℕ × List Bool) Fault
word_at b l = faulty (code_at b l)

-- the signed number of a code
abbrev pub unfolded : ℕ → ℤ
unfolded c = if nat_eq (c % 2) 0 then pos (c / 2) else negsuc (c / 2)

abbrev pub is_small : ℤ → Bool
is_small v = nat_le (nat_abs v) 32767

-- a DC coefficient, the context of the next one, and the bits after its codeword
pub record First : Type 0 where
  pub value : ℤ
  pub negative : Bool
  pub code : ℕ
  pub rest : List Bool

-- the DC coefficient of a code, after the one before it
abbrev pub first_of : ℤ → Bool → ℕ × List Bool → Result First Fault
first_of last negative c =
    let diff = turned negative (unfolded c.0) in
    if is_small (last +ℤ diff)
    then Ok (record { value = last +ℤ diff; negative = is_negative diff; code = c.0; rest = c.1 })
    else Err level_range

-- the next DC coefficient: its magnitude is validated before a further codeword is read
unfoldable pub first_at : ℤ → Bool → ℕ → List Bool → Result First Fault
first_at last negative code l = word_at (dc_book code) l >>= first_of last negative

-- a DC coefficient before others
abbrev pub with_first : ℤ → Result (List ℤ × List Bool) Fault → Result (List ℤ × List Bool) Fault
with_first d read = read >>= λ ds. Ok (d ∷ ds.0, ds.1)

-- the DC coefficients of n blocks, after an earlier one, and the bits after their codewords
abbrev pub firsts_at : ℕ → ℤ → Bool → ℕ → List Bool → Result (List ℤ × List Bool) Fault
firsts_at zero last negative code l = Ok ([], l)
firsts_at (suc k) last negative code l = do
  d ← first_at last negative code l
  ds ← firsts_at k d.value d.negative d.code d.rest
  Ok (d.value ∷ ds.0, ds.1)

-- a run, the value after it, and the bits after its sign
pub record Triple : Type 0 where
  pub run : ℕ
  pub level : ℕ
  pub negative : Bool
  pub rest : List Bool

-- the sign after a run and a level
abbrev pub sign_then : ℕ → ℕ → List Bool → Result Triple Fault
sign_then run level [] = Err codeword
sign_then run level (b ∷ l) = Ok (record { run = run; level = level; negative = b; rest = l })

-- a level, which is validated before the sign is read
abbrev pub level_then : ℕ → ℕ × List Bool → Result Triple Fault
level_then run m = if nat_lt m.0 32767 then sign_then run m.0 m.1 else Err level_range

-- a level and a sign, after a run and a magnitude
abbrev pub level_at : ℕ → ℕ → List Bool → Result Triple Fault
level_at run magnitude l = word_at (level_book magnitude) l >>= level_then run

-- a run, which is validated before the level is read: after its zeros a position has to be left
abbrev pub run_then : ℕ → ℕ → ℕ × List Bool → Result Triple Fault
run_then room magnitude r =
    if nat_lt r.0 room then level_at r.0 magnitude r.1 else Err run_past

-- the next run, level and sign, with `room` positions left
unfoldable pub triple_at : ℕ → ℕ → ℕ → List Bool → Result Triple Fault
triple_at room run magnitude l = word_at (run_book run) l >>= run_then room magnitude

-- whether all bits are zeros: the data ends there
abbrev pub no_ones : List Bool → Bool
no_ones l = nat_eq (leading l) (length l)

-- a level with its sign
abbrev pub signed : Bool → ℕ → ℤ
signed true m = negsuc m
signed false m = pos (suc m)

-- a triple expanded, before other values
abbrev pub with_triple : Triple → List ℤ → Result (List ℤ) Fault
with_triple t vs = Ok (replicate t.run (pos 0) ++ signed t.negative t.level ∷ vs)

-- The values at `room` positions, after a run and a magnitude: each iteration reads a triple, until only zeros are
-- left.
abbrev pub values_at : ℕ → ℕ → ℕ → ℕ → List Bool → Result (List ℤ) Fault
values_at zero room run magnitude l = Err codeword
values_at (suc turns) room run magnitude l =
    if no_ones l then Ok (replicate room (pos 0))
    else (triple_at room run magnitude l >>= λ t.
    values_at turns (room - t.run - 1) t.run (suc t.level) t.rest >>= with_triple t)

-- after the code of the first DC coefficient
abbrev pub first_then : ℕ → ℕ × List Bool → Result (List ℤ × List Bool) Fault
first_then k c =
    if is_small (unfolded c.0)
    then (firsts_at k (unfolded c.0) false 5 c.1 >>= λ ds. Ok (unfolded c.0 ∷ ds.0, ds.1))
    else Err level_range

-- the DC coefficients of all blocks, and the bits after their codewords
abbrev pub all_firsts_at : ℕ → List Bool → Result (List ℤ × List Bool) Fault
all_firsts_at zero l = Ok ([], l)
all_firsts_at (suc k) l = word_at (book 0 5 6) l >>= first_then k

-- the blocks whose values at the positions of a scan are these
abbrev pub woven : List ℕ → ℕ → List ℤ → List Block
woven scan count vs =
    map (λ i. map (λ p. get_or vs (index_of p scan * count + i) (pos 0)) (range_with_len 0 64)) (range_with_len 0 count)

-- after the DC coefficients
abbrev pub rest_then : List ℕ → ℕ → List ℤ × List Bool → Result (List Block) Fault
rest_then scan count ds = values_at (63 * count + 1) (63 * count) 4 2 ds.1 >>= λ vs. Ok (woven scan count (ds.0 ++ vs))

-- the blocks of a component, or its first fault
unfoldable pub component_at : ℕ → List ℕ → List Bool → Result (List Block) Fault
component_at count scan l = all_firsts_at count l >>= rest_then scan count
