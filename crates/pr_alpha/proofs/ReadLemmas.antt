-- What a reader's steps say about the bits at the front.
use Rattle.std.proofs.Common.{◌≡◌, ℕ, zero, suc, ◌+◌, ◌-◌, ◌^◌, ◌<◌, ◌≤◌, Bool, true, false, List, [], ◌∷◌, ◌++◌, length, take, drop, replicate, Result, Ok, Err, refl, ap, sym, ◌∙◌, subst, arith, append_assoc, append-nil, length-append}
use Rattle.std.proofs.lemmas.Bool.{lt-ltb, le-ltb, ne_eqb}
use Rattle.std.proofs.lemmas.List.{take_at, length-replicate}
use Rattle.pr_alpha.specs.Alpha.{greatest, moved, AreBelow}
use Rattle.pr_alpha.specs.Reading.{Fault, wanting, past, ◌>>=◌, number_at, size_behind, moved_by, numbered, value_behind, brief_then, run_at, Found, run_then, value_then, step_behind, step_at, with_found, values_at, alpha_at}
use Rattle.pr_alpha.specs.Calls.{IsFault, IsEnd}
use Rattle.pr_alpha.specs.declared.read.AlphaFault.{AlphaFault}
use Rattle.pr_alpha.specs.declared.read.AlphaFault.TheVariants as faults
use Rattle.pr_alpha.proofs.StepLemmas.{values_none, values_some}

-- an error of a sub-parser is the parser's error
pub fault_whole : {A B : Type 0} (f : AlphaFault) (part : Result A Fault) (whole : Result B Fault) → ((x : Fault) → part ≡ Err x → whole ≡ Err x) → IsFault f part → IsFault f whole
fault_whole faults.AlphaShort part whole h e = h wanting e
fault_whole faults.AlphaPast part whole h e = h past e
fault_whole faults.Failed part whole h e = tt

-- a missing bit is a fault of what begins with one
pub end_whole : {B : Type 0} (f : AlphaFault) (l : List Bool) (whole : Result B Fault) → (l ≡ [] → whole ≡ Err wanting) → IsEnd f l → IsFault f whole
end_whole faults.AlphaShort l whole h e = h e
end_whole faults.AlphaPast l whole h e = absurd e
end_whole faults.Failed l whole h e = tt

pub past_is : {A : Type 0} (f : AlphaFault) (found : Result A Fault) → f ≡ faults.AlphaPast → found ≡ Err past → IsFault f found
past_is f found e h = subst (λ f. IsFault f found) (sym e) h

-- ---- values

module _ (n before : ℕ) (first : Bool) (l : List Bool) where
  pub value_is : (d : ℕ) (rest : List Bool) (size v : ℕ) → size ≡ size_behind n first → number_at size l ≡ Ok (d, rest) → v ≡ moved n before (numbered first d) → value_behind n before first l ≡ Ok (v, rest)
  value_is d rest size v is e value =
      ap (λ k. number_at k l >>= moved_by n before first) (sym is) ∙ ap (λ r. r >>= moved_by n before first) e ∙ ap (λ x. Ok (x, rest)) (sym value)

-- ---- runs

pub run_none : (l rest : List Bool) → l ≡ true ∷ rest → run_at l ≡ Ok (0, rest)
unfolding run_at
run_none l rest e = ap run_at e

pub run_end : (l : List Bool) → l ≡ [] → run_at l ≡ Err wanting
unfolding run_at
run_end l e = ap run_at e

pub run_brief : (l m rest : List Bool) (k : ℕ) → l ≡ false ∷ m → number_at 4 m ≡ Ok (k, rest) → (k ≡ 0 → ⊥) → run_at l ≡ Ok (k, rest)
unfolding run_at
run_brief l m rest k e f some = ap run_at e ∙ ap (λ r. r >>= brief_then) f ∙ rw (ne_eqb k 0 some) refl

pub run_wide : (l m rest : List Bool) → l ≡ false ∷ m → number_at 4 m ≡ Ok (0, rest) → run_at l ≡ number_at 11 rest
unfolding run_at
run_wide l m rest e f = ap run_at e ∙ ap (λ r. r >>= brief_then) f

pub run_fails : (l m : List Bool) (x : Fault) → l ≡ false ∷ m → number_at 4 m ≡ Err x → run_at l ≡ Err x
unfolding run_at
run_fails l m x e f = ap run_at e ∙ ap (λ r. r >>= brief_then) f

-- ---- steps

module _ (n before wants : ℕ) (first : Bool) (l : List Bool) where
  pub step_fails : (x : Fault) → value_behind n before first l ≡ Err x → step_behind n before wants first l ≡ Err x
  unfolding step_behind
  step_fails x e = ap (λ r. r >>= value_then wants) e

  pub step_last : (v : ℕ) (rest : List Bool) → value_behind n before first l ≡ Ok (v, rest) → wants ≤ 1 → step_behind n before wants first l ≡ Ok (record { value = v; count = 1; rest = rest })
  unfolding step_behind
  step_last v rest e few = ap (λ r. r >>= value_then wants) e ∙ rw (le-ltb 1 wants few) refl

  step_more : (v : ℕ) (rest : List Bool) → value_behind n before first l ≡ Ok (v, rest) → 1 < wants → step_behind n before wants first l ≡ (run_at rest >>= run_then wants v)
  unfolding step_behind
  step_more v rest e many = ap (λ r. r >>= value_then wants) e ∙ rw (lt-ltb 1 wants many) refl

  pub step_run : (v k : ℕ) (m rest : List Bool) → value_behind n before first l ≡ Ok (v, m) → 1 < wants → run_at m ≡ Ok (k, rest) → k < wants →
      step_behind n before wants first l ≡ Ok (record { value = v; count = k + 1; rest = rest })
  step_run v k m rest e many f inside = step_more v m e many ∙ ap (λ r. r >>= run_then wants v) f ∙ rw (lt-ltb k wants inside) refl

  pub step_past : (v k : ℕ) (m rest : List Bool) → value_behind n before first l ≡ Ok (v, m) → 1 < wants → run_at m ≡ Ok (k, rest) → wants ≤ k →
      step_behind n before wants first l ≡ Err past
  step_past v k m rest e many f over = step_more v m e many ∙ ap (λ r. r >>= run_then wants v) f ∙ rw (le-ltb k wants over) refl

  pub step_run_fails : (v : ℕ) (m : List Bool) (x : Fault) → value_behind n before first l ≡ Ok (v, m) → 1 < wants → run_at m ≡ Err x → step_behind n before wants first l ≡ Err x
  step_run_fails v m x e many f = step_more v m e many ∙ ap (λ r. r >>= run_then wants v) f

-- ---- row by row

-- values that were read before, and what is still read
abbrev pub with_front : List ℕ → Result (List ℕ) Fault → Result (List ℕ) Fault
with_front front read = read >>= λ vs. Ok (front ++ vs)

pub with_front-nil : (read : Result (List ℕ) Fault) → read ≡ with_front [] read
with_front-nil (Ok vs) = refl
with_front-nil (Err e) = refl

with_front-found : (front : List ℕ) (s : Found) (read : Result (List ℕ) Fault) → with_front front (read >>= with_found s) ≡ with_front (front ++ replicate s.count s.value) read
with_front-found front s (Ok vs) = ap (λ (l : List ℕ). (let r : Result (List ℕ) Fault = Ok l in r)) (sym (append_assoc front (replicate s.count s.value) vs))
with_front-found front s (Err e) = refl

module _ (front : List ℕ) (turns n before wants : ℕ) (l : List Bool) (some : 0 < wants) (enough : wants ≤ turns) where
  turn : with_front front (values_at turns n before wants l) ≡ with_front front (step_at n before wants l >>= λ s. values_at (turns - 1) n s.value (wants - s.count) s.rest >>= with_found s)
  turn =
      let is : turns ≡ suc (turns - 1) = omega arith in
      ap (λ t. with_front front (values_at t n before wants l)) is ∙ ap (with_front front) (values_some (turns - 1) n before wants l some)

  pub values_step : (s : Found) → step_at n before wants l ≡ Ok s →
      with_front front (values_at turns n before wants l) ≡ with_front (front ++ replicate s.count s.value) (values_at (turns - 1) n s.value (wants - s.count) s.rest)
  values_step s e =
      turn ∙ ap (λ r. with_front front (r >>= λ (x : Found). values_at (turns - 1) n x.value (wants - x.count) x.rest >>= with_found x)) e
      ∙ with_front-found front s (values_at (turns - 1) n s.value (wants - s.count) s.rest)

  pub values_fail : (x : Fault) → step_at n before wants l ≡ Err x → with_front front (values_at turns n before wants l) ≡ Err x
  values_fail x e = turn ∙ ap (λ r. with_front front (r >>= λ (x : Found). values_at (turns - 1) n x.value (wants - x.count) x.rest >>= with_found x)) e

pub values_end : (front : List ℕ) (turns n before wants : ℕ) (l : List Bool) → wants ≡ 0 → with_front front (values_at turns n before wants l) ≡ Ok front
values_end front turns n before wants l none =
    ap (λ w. with_front front (values_at turns n before w l)) none ∙ ap (with_front front) (values_none turns n before l) ∙ ap Ok (append-nil front)

-- what the loop has read after a row
pub rows_read : (n m bits before v done count turns : ℕ) (long : Bool) (front : List ℕ) (l rest start : List Bool) → m ≡ n → done < n → n - done ≤ turns →
    values_at n bits (greatest bits) n start ≡ with_front front (values_at turns bits before (n - done) (long ∷ l)) →
    step_behind bits before (m - done) long l ≡ Ok (record { value = v; count = count; rest = rest }) →
    values_at n bits (greatest bits) n start ≡ with_front (front ++ replicate count v) (values_at (turns - 1) bits v (n - (done + count)) rest)
rows_read n m bits before v done count turns long front l rest start same inside enough reads step =
    let s : Found = record { value = v; count = count; rest = rest } in
    reads ∙ values_step front turns bits before (n - done) (long ∷ l) (omega arith) enough s (ap (λ k. step_behind bits before (k - done) long l) (sym same) ∙ step)
    ∙ ap (λ k. with_front (front ++ replicate count v) (values_at (turns - 1) bits v k rest)) (let e : n - done - count ≡ n - (done + count) = omega arith in e)

-- ---- the values in memory

-- a row after those that were read
pub set_front : (old new : List ℕ) (front : List ℕ) (done count v : ℕ) → length front ≡ done → take done old ≡ front → new ≡ take done old ++ (replicate count v ++ drop (done + count) old) →
    take (done + count) new ≡ front ++ replicate count v
set_front old new front done count v size is e =
    let f = front ++ replicate count v in
    let n : length f ≡ done + count = omega (arith, size, length-append front (replicate count v), length-replicate count v) in
    ap (take (done + count)) (e ∙ ap (λ x. x ++ (replicate count v ++ drop (done + count) old)) is ∙ sym (append_assoc front (replicate count v) (drop (done + count) old)))
    ∙ take_at f (drop (done + count) old) (done + count) n

below_row : (n count v : ℕ) → v < 2 ^ n → AreBelow n (replicate count v)
below_row n zero v h i = omega arith
below_row n (suc k) v h zero = h
below_row n (suc k) v h (suc i) = below_row n k v h i

below_both : (n : ℕ) (a b : List ℕ) → AreBelow n a → AreBelow n b → AreBelow n (a ++ b)
below_both n [] b x y i = y i
below_both n (v ∷ a) b x y zero = x 0
below_both n (v ∷ a) b x y (suc i) = below_both n a b (λ i. x (suc i)) y i

pub below_more : (n count v : ℕ) (front : List ℕ) → v < 2 ^ n → AreBelow n front → AreBelow n (front ++ replicate count v)
below_more n count v front h x = below_both n front (replicate count v) x (below_row n count v h)

pub below_none : (n : ℕ) → 0 < 2 ^ n → AreBelow n []
below_none n h i = h

-- ---- whole data

pub whole_values : (count n : ℕ) (l m : List Bool) (b : Bool) → l ≡ b ∷ m → alpha_at count n l ≡ values_at count n (greatest n) count (b ∷ m)
unfolding alpha_at
whole_values count n l m b e = ap (alpha_at count n) e
