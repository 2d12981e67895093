-- The groups of a number after its first, as the recursion reads them.
use Rattle.std.proofs.Common.{◌≡◌, ℕ, zero, suc, ◌+◌, ◌-◌, ◌*◌, ◌<◌, ◌≤◌, Bool, true, nat_lt, Result, Ok, Err, refl, ap, ◌∙◌, arith}
use Rattle.std.specs.Prelude.{not, ◌==◌}
use Rattle.std.proofs.lemmas.Bool.{le-ltb, lt-ltb, ne_eqb, eq-eqb}
use Rattle.pw_outside.specs.Reading.{Fault, Rest, Read, bind, ◌>>=◌, refuse, Fails}
use Rattle.pw_outside.proofs.Chains.{fails-whole}
use Rattle.rate_table.specs.declared.fault.ProofKind.{ProofKind}
use Rattle.rate_table.specs.declared.fault.ProofKind.TheVariants.{ProofShape}
use Rattle.rate_table.specs.declared.fault.TableFault.{TableFault}
use Rattle.rate_table.specs.Reading.{told_fault}
use Rattle.rate_cert.specs.Numbers.{group_at, groups_at, limit}
use Rattle.pw_outside.proofs.Steps.{bind-step, refuse-step}
use Rattle.rate_cert.proofs.Numbered.{chosen, passed}

bind-err : {A B : Type 0} (r : Result A (Fault ProofKind)) (next : A → Result B (Fault ProofKind)) {f : Fault ProofKind} → r ≡ Err f → bind r next ≡ Err f
unfolding bind
bind-err r next e = rw e refl

refuse-err : {B : Type 0} (test : Bool) (kind : ProofKind) (place : ℕ) (next : Unit {0} → Result B (Fault ProofKind)) → test ≡ true → bind (refuse test kind place) next ≡ Err (record { kind = kind; place = place })
unfolding bind
refuse-err test kind place next e = rw e refl

abbrev shape : ℕ → Fault ProofKind
shape first = record { kind = ProofShape; place = first }

module _ (m first : ℕ) (s : Rest) where
  as_zero : m ≡ 0 → groups_at m first s ≡ groups_at 0 first s
  as_zero e = ap (λ k. groups_at k first s) e

  as_more : 0 < m → groups_at m first s ≡ groups_at (suc (m - 1)) first s
  as_more lt = let e : m ≡ suc (m - 1) = omega (arith, lt) in ap (λ k. groups_at k first s) e

first_err : (m first : ℕ) (s : Rest) (f : Fault ProofKind) → group_at first s ≡ Err f → groups_at m first s ≡ Err f
unfolding groups_at
first_err zero first s f h = bind-err _ _ h
first_err (suc m) first s f h = bind-err _ _ h

pub groups-first : (e : TableFault) (m first : ℕ) (s : Rest) → Fails told_fault e (group_at first s) → Fails told_fault e (groups_at m first s)
groups-first e m first s h = fails-whole told_fault e (group_at first s) (groups_at m first s) (λ f g. first_err m first s f g) h

pub last_bad : (m first : ℕ) (s after : Rest) (byte : ℕ) → m ≡ 0 → (byte ≡ 1 → ⊥) → group_at first s ≡ Ok (byte, after) → groups_at m first s ≡ Err (shape first)
unfolding groups_at
last_bad m first s after byte e n h = as_zero m first s e ∙ bind-step _ _ h ∙ refuse-err (not (byte == 1)) _ _ _ (ap not (ne_eqb byte 1 n))

pub last_ok : (m first : ℕ) (s after : Rest) (byte : ℕ) → m ≡ 0 → byte ≡ 1 → group_at first s ≡ Ok (byte, after) → groups_at m first s ≡ Ok (1, after)
unfolding groups_at
last_ok m first s after byte e n h = as_zero m first s e ∙ bind-step _ _ h ∙ refuse-step (not (byte == 1)) _ _ _ (ap not (eq-eqb byte 1 n)) ∙ ap (λ b. let r : Read ProofKind ℕ = Ok (b, after) in r) n

pub more_bad : (m first : ℕ) (s after : Rest) (byte : ℕ) → 0 < m → byte ≡ 0 → group_at first s ≡ Ok (byte, after) → groups_at m first s ≡ Err (shape first)
unfolding groups_at
more_bad m first s after byte lt z h = as_more m first s lt ∙ bind-step _ _ h ∙ refuse-err (byte == 0) _ _ _ (eq-eqb byte 0 z)

pub more_ok : (m first : ℕ) (s after : Rest) (byte : ℕ) → 0 < m → (byte ≡ 0 → ⊥) → byte < 128 → group_at first s ≡ Ok (byte, after) → groups_at m first s ≡ Ok (byte, after)
unfolding groups_at
more_ok m first s after byte lt z low h = as_more m first s lt ∙ bind-step _ _ h ∙ refuse-step (byte == 0) _ _ _ (ne_eqb byte 0 z) ∙ chosen (nat_lt byte 128) _ _ (lt-ltb byte 128 low)

high_is : (m first : ℕ) (s after : Rest) (byte : ℕ) → 0 < m → (byte ≡ 0 → ⊥) → 128 ≤ byte → group_at first s ≡ Ok (byte, after)
    → groups_at m first s ≡ (groups_at (m - 1) first after >>= λ high. Ok (byte - 128 + 128 * high.0, high.1))
unfolding groups_at
high_is m first s after byte lt z low h = as_more m first s lt ∙ bind-step _ _ h ∙ refuse-step (byte == 0) _ _ _ (ne_eqb byte 0 z) ∙ passed (nat_lt byte 128) _ _ (le-ltb byte 128 low)

pub high_bad : (e : TableFault) (m first : ℕ) (s after : Rest) (byte : ℕ) → 0 < m → (byte ≡ 0 → ⊥) → 128 ≤ byte → group_at first s ≡ Ok (byte, after)
    → Fails told_fault e (groups_at (m - 1) first after) → Fails told_fault e (groups_at m first s)
high_bad e m first s after byte lt z low h bad = fails-whole told_fault e (groups_at (m - 1) first after) (groups_at m first s) (λ f g. high_is m first s after byte lt z low h ∙ bind-err _ _ g) bad

pub high_ok : (m first : ℕ) (s after rest : Rest) (byte high : ℕ) → 0 < m → (byte ≡ 0 → ⊥) → 128 ≤ byte → group_at first s ≡ Ok (byte, after)
    → groups_at (m - 1) first after ≡ Ok (high, rest) → groups_at m first s ≡ Ok (byte - 128 + 128 * high, rest)
high_ok m first s after rest byte high lt z low h g = high_is m first s after byte lt z low h ∙ bind-step _ _ g

-- ---- how large they are

pub limit_some : (m : ℕ) → 2 ≤ limit m
unfolding limit
limit_some zero = omega arith
limit_some (suc m) = omega (arith, limit_some m)

pub limit_more : (m : ℕ) → 0 < m → limit m ≡ limit (m - 1) * 128
unfolding limit
limit_more m lt = let e : m ≡ suc (m - 1) = omega (arith, lt) in ap limit e

limit_rises : (m k : ℕ) → limit m ≤ limit (k + m)
unfolding limit
limit_rises m zero = let e : zero + m ≡ m = omega arith in omega (arith, ap limit e)
limit_rises m (suc k) = let e : suc k + m ≡ suc (k + m) = omega arith in omega (arith, ap limit e, limit_rises m k)

limit_eight : limit 8 ≡ 144115188075855872
unfolding limit
limit_eight = refl

pub limit_most : (m : ℕ) → m ≤ 8 → limit m ≤ 144115188075855872
limit_most m le = let e : (8 - m) + m ≡ 8 = omega (arith, le) in omega (arith, limit_rises m (8 - m), ap limit e, limit_eight)
