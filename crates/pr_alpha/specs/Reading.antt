-- Reading the bits of alpha values: n values, or the first fault in the order of bits (SMPTE RDD 36, scanned alpha;
-- the faults and data of no bits are our own).
use Rattle.std.specs.Prelude.{ℕ, zero, suc, ◌+◌, ◌-◌, ◌/◌, ◌%◌, Bool, true, false, List, [], ◌∷◌, ◌++◌, length, take, drop, replicate, nat_eq, nat_lt, if◌then◌else◌, Result, Ok, Err}
use Rattle.pw_bits.specs.Bits.{value}
use Rattle.pr_alpha.specs.Alpha.{Difference, long, short, short_size, greatest, moved}

-- the faults of bits: they end before all values are known, or a run passes the number of values
pub data Fault : Type 0 where
  wanting : Fault
  past : Fault

-- the next step, if no fault came before it
infixl 10 ◌>>=◌
abbrev pub ◌>>=◌ : {A B : Type 0} → Result A Fault → (A → Result B Fault) → Result B Fault
(Ok x) >>= f = f x
(Err e) >>= f = Err e

-- the number of the next k bits, and the bits after them
unfoldable pub number_at : ℕ → List Bool → Result (ℕ × List Bool) Fault
number_at k l = if nat_lt (length l) k then Err wanting else Ok (value (take k l), drop k l)

-- the number of bits of a difference after its first bit, which is a 1 for a long one
abbrev pub size_behind : ℕ → Bool → ℕ
size_behind n true = n
size_behind n false = short_size n + 1

-- a difference by the number of these bits: a short one's last bit is its sign
abbrev pub numbered : Bool → ℕ → Difference
numbered true d = long d
numbered false d = short (d / 2) (nat_eq (d % 2) 1)

-- the value at a difference from the one before
abbrev pub moved_by : ℕ → ℕ → Bool → ℕ × List Bool → Result (ℕ × List Bool) Fault
moved_by n before first d = Ok (moved n before (numbered first d.0), d.1)

-- the value of the difference at the front, after its first bit
abbrev pub value_behind : ℕ → ℕ → Bool → List Bool → Result (ℕ × List Bool) Fault
value_behind n before first l = number_at (size_behind n first) l >>= moved_by n before first

-- a run by its 4 bits: if these are zeros, it is the number of 11 further ones
abbrev pub brief_then : ℕ × List Bool → Result (ℕ × List Bool) Fault
brief_then k = if nat_eq k.0 0 then number_at 11 k.1 else Ok k

-- the run at the front
unfoldable pub run_at : List Bool → Result (ℕ × List Bool) Fault
run_at [] = Err wanting
run_at (true ∷ l) = Ok (0, l)
run_at (false ∷ l) = number_at 4 l >>= brief_then

-- a value, its number of repetitions, and the bits after it
pub record Found : Type 0 where
  pub value : ℕ
  pub count : ℕ
  pub rest : List Bool

-- a run, which is validated against the number of missing values
abbrev pub run_then : ℕ → ℕ → ℕ × List Bool → Result Found Fault
run_then wants v k =
    if nat_lt k.0 wants then Ok (record { value = v; count = k.0 + 1; rest = k.1 }) else Err past

-- after a value: a run, if further values are missing
abbrev pub value_then : ℕ → ℕ × List Bool → Result Found Fault
value_then wants v =
    if nat_lt 1 wants then run_at v.1 >>= run_then wants v.0
    else Ok (record { value = v.0; count = 1; rest = v.1 })

-- the step at the front after the first bit of its difference, if `wants` values are missing
unfoldable pub step_behind : ℕ → ℕ → ℕ → Bool → List Bool → Result Found Fault
step_behind n before wants first l = value_behind n before first l >>= value_then wants

-- the step at the front
abbrev pub step_at : ℕ → ℕ → ℕ → List Bool → Result Found Fault
step_at n before wants [] = Err wanting
step_at n before wants (first ∷ l) = step_behind n before wants first l

-- the values of a step before others
abbrev pub with_found : Found → List ℕ → Result (List ℕ) Fault
with_found s vs = Ok (replicate s.count s.value ++ vs)

-- n values after a value: each iteration reads a step, until none is missing
abbrev pub values_at : ℕ → ℕ → ℕ → ℕ → List Bool → Result (List ℕ) Fault
values_at zero n before wants l = Ok []
values_at (suc turns) n before wants l =
    if nat_eq wants 0 then Ok []
    else (step_at n before wants l >>= λ s. values_at turns n s.value (wants - s.count) s.rest >>= with_found s)

-- n values, or the first fault
unfoldable pub alpha_at : ℕ → ℕ → List Bool → Result (List ℕ) Fault
alpha_at count n [] = Ok (replicate count (greatest n))
alpha_at count n (b ∷ l) = values_at count n (greatest n) count (b ∷ l)
