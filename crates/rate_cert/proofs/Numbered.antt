-- A LEB128 number that is written is read as that number.
use Rattle.std.proofs.Common.{◌≡◌, ℕ, zero, suc, ◌+◌, ◌-◌, ◌*◌, ◌/◌, ◌%◌, ◌<◌, ◌≤◌, Bool, true, false, nat_lt, List, [], ◌∷◌, ◌++◌, length, Ok, refl, sym, ap, ◌∙◌, arith, ⊎_elim}
use Rattle.std.specs.Prelude.{if◌then◌else◌}
use Rattle.std.specs.Int.{w8}
use Rattle.std.proofs.lemmas.Nat.{div-add-mod', div_below, le-div}
use Rattle.std.proofs.lemmas.Bool.{le-ltb, lt-ltb, ne_eqb, cases_lt}
use Rattle.pw_outside.specs.Reading.{Rest, Read, bad, number_at}
use Rattle.rate_table.specs.declared.fault.ProofKind.{ProofKind}
use Rattle.rate_table.specs.declared.fault.ProofKind.TheVariants.{ProofShort}
use Rattle.rate_cert.specs.Numbers.{groups_of, number_bytes, limit, group_at, groups_at, short_at}
use Rattle.rate_cert.specs.Laws.{NumberIsReadAgain}
use Rattle.pw_outside.proofs.Steps.{bind-step, refuse-step, found, same_rest}
use Rattle.rate_table.proofs.Here.{byte-here}

-- what follows a test
pub chosen : {A : Type 0} (b : Bool) (x y : A) → b ≡ true → (if b then x else y) ≡ x
chosen b x y e = rw e refl

pub passed : {A : Type 0} (b : Bool) (x y : A) → b ≡ false → (if b then x else y) ≡ y
passed b x y e = rw e refl

group-here : (n first place : ℕ) (behind : List ℕ) → group_at first (record { place = place; bytes = n ∷ behind }) ≡ found n (place + 1) behind
group-here n first place behind =
    let long : nat_lt (length (n ∷ behind)) 1 ≡ false = le-ltb _ _ (omega arith) in
    passed (nat_lt (length (n ∷ behind)) 1) (bad ProofShort first) (number_at ProofShort w8 (record { place = place; bytes = n ∷ behind })) long ∙ byte-here ProofShort n place behind

-- the first group and the rest make the number
whole : (n : ℕ) → 128 + n % 128 - 128 + 128 * (n / 128) ≡ n
whole n = omega (arith, div-add-mod' n 128)

pub groups-last : (more n : ℕ) → n < 128 → groups_of (suc more) n ≡ n ∷ []
unfolding groups_of
groups-last more n l = chosen (nat_lt n 128) (n ∷ []) ((128 + n % 128) ∷ groups_of more (n / 128)) (lt-ltb n 128 l)

pub groups-further : (more n : ℕ) → 128 ≤ n → groups_of (suc more) n ≡ (128 + n % 128) ∷ groups_of more (n / 128)
unfolding groups_of
groups-further more n l = passed (nat_lt n 128) (n ∷ []) ((128 + n % 128) ∷ groups_of more (n / 128)) (le-ltb n 128 l)

at : ℕ → List ℕ → Rest
at place bytes = record { place = place; bytes = bytes }

-- what the reading after the first byte makes of the byte
abbrev joined : ℕ → ℕ × Rest → Read ProofKind ℕ
joined byte high = Ok (byte - 128 + 128 * high.0, high.1)

groups-again : (more n first place : ℕ) (behind : List ℕ) → 0 < n → n < limit more
    → groups_at more first (record { place = place; bytes = groups_of more n ++ behind }) ≡ found n (place + length (groups_of more n)) behind
unfolding groups_at groups_of limit
groups-again zero n first place behind some small =
    let one : n ≡ 1 = omega (arith, some, small) in
    bind-step _ _ (group-here n first place behind)
    ∙ refuse-step _ _ _ _ (rw one refl)
groups-again (suc more) n first place behind some small =
    ⊎_elim
    (λ l. let e = groups-last more n l in
    ap (λ g. groups_at (suc more) first (record { place = place; bytes = g ++ behind })) e
    ∙ bind-step _ _ (group-here n first place behind)
    ∙ refuse-step _ _ _ _ (ne_eqb n 0 (λ z. omega (arith, some, z)))
    ∙ chosen (nat_lt n 128) _ _ (lt-ltb n 128 l)
    ∙ sym (ap (λ g. found n (place + length g) behind) e))
    (λ l. let e = groups-further more n l in
    let high = groups-again more (n / 128) first (place + 1) behind (le-div 1 n 128 (omega arith) (omega (arith, l))) (div_below n 128 (limit more) (omega arith) small) in
    ap (λ g. groups_at (suc more) first (record { place = place; bytes = g ++ behind })) e
    ∙ bind-step _ _ (group-here (128 + n % 128) first place (groups_of more (n / 128) ++ behind))
    ∙ refuse-step _ _ _ _ (ne_eqb (128 + n % 128) 0 (λ z. omega (arith, z)))
    ∙ passed (nat_lt (128 + n % 128) 128) _ _ (le-ltb (128 + n % 128) 128 (omega arith))
    ∙ bind-step _ (joined (128 + n % 128)) high
    ∙ ap (λ v. found v (place + 1 + length (groups_of more (n / 128))) behind) (whole n)
    ∙ same_rest n _ _ behind (omega arith)
    ∙ sym (ap (λ g. found n (place + length g) behind) e))
    (cases_lt n 128)

pub number-again : NumberIsReadAgain
unfolding short_at number_bytes limit
number-again n place behind small =
    ⊎_elim
    (λ l. let e = groups-last 8 n l in
    ap (λ g. short_at (record { place = place; bytes = g ++ behind })) e
    ∙ bind-step _ _ (byte-here ProofShort n place behind)
    ∙ chosen (nat_lt n 128) _ _ (lt-ltb n 128 l)
    ∙ sym (ap (λ g. found n (place + length g) behind) e))
    (λ l. let e = groups-further 8 n l in
    let high = groups-again 8 (n / 128) place (place + 1) behind (le-div 1 n 128 (omega arith) (omega (arith, l))) (div_below n 128 (limit 8) (omega arith) (omega (arith, small))) in
    ap (λ g. short_at (record { place = place; bytes = g ++ behind })) e
    ∙ bind-step _ _ (byte-here ProofShort (128 + n % 128) place (groups_of 8 (n / 128) ++ behind))
    ∙ passed (nat_lt (128 + n % 128) 128) _ _ (le-ltb (128 + n % 128) 128 (omega arith))
    ∙ bind-step _ (joined (128 + n % 128)) high
    ∙ ap (λ v. found v (place + 1 + length (groups_of 8 (n / 128))) behind) (whole n)
    ∙ same_rest n _ _ behind (omega arith)
    ∙ sym (ap (λ g. found n (place + length g) behind) e))
    (cases_lt n 128)
