-- A record's verdict from the checks of its parts.
use Rattle.std.proofs.Common.{◌≡◌, ℕ, refl, subst, inl, inr, ⊎_elim, Result, Ok, Err}
use Rattle.std.specs.Prelude.{◌⊎◌, ◌↔◌, OnOk, IfErr}
use Rattle.std.proofs.lemmas.Result.{on_ok_weaker, IfErr-weaker}
use Rattle.rate_table.specs.Table.{Table}
use Rattle.rate_table.specs.Laws.{GoodIsLeast, GoodNoneFits}
use Rattle.rate_table.specs.Records.{Printed, IsGoodFit, SaysNone, HasCounts, HasEntries, SumsAreRight}
use Rattle.rate_cert.specs.declared.settings.Settings.{Settings}
use Rattle.rate_cert.specs.Records.{Record, Said, fits, none, IsGood, IsTableOf, AreGood, Asks, AsksNothing, Fails, FailsFit, FailsLayers, IsTrueOf}
use Rattle.rate_check.specs.declared.check.Clause.{Clause}

pub good_fit : (t : Table) (r : Printed) → HasCounts t r → HasEntries t r → SumsAreRight t r → AreGood t r → IsGoodFit t r
good_fit t r counts entries sums l = record { counts = counts; entries = entries; sums = sums; first = l.first; order = l.order; steps = l.steps; last = l.last }

asks_more : {P Q : Type 0} (behind : ℕ → Type 0) (k n : ℕ) → Q → Asks k P behind n → Asks k (Q × P) behind n
asks_more behind k n q h = ⊎_elim (λ f. inl (f.0, λ b. f.1 b.1)) (λ f. inr ((q, f.0), f.1)) h

-- the clauses on sums, and those on layers after them
pub sums_fail : (t : Table) (r : Printed) (n : ℕ) → HasCounts t r → Asks 3 (HasEntries t r) (Asks 4 (SumsAreRight t r) AsksNothing) n → Asks 1 (HasCounts t r) (FailsFit t r) n
sums_fail t r n c h = inr (c, ⊎_elim (λ f. inl f) (λ f. inr (f.0, ⊎_elim (λ g. inl g) (λ g. absurd g.1) f.1)) h)

pub layers_fail : (t : Table) (r : Printed) (n : ℕ) → HasCounts t r → HasEntries t r → SumsAreRight t r → FailsLayers t r n → Asks 1 (HasCounts t r) (FailsFit t r) n
layers_fail t r n c e f h = inr (c, inr (e, inr (f, h)))

module _ (s : Settings) (t : Table) (p : Record) (res : Result (Unit {0}) Clause) (table : IsTableOf s t) where
  pub fit_good : (r r' : Printed) → r ≡ r' → record { table = t; said = fits r' } ≡ p → OnOk res (IsGoodFit t r) → OnOk res (IsGood s p)
  fit_good r r' e f h = subst (λ x. OnOk res (IsGood s x)) f (subst (λ x. OnOk res (IsGood s (record { table = t; said = fits x }))) e (on_ok_weaker res (λ g. record { table = table; verdict = g }) h))

  pub fit_fails : (r r' : Printed) → r ≡ r' → record { table = t; said = fits r' } ≡ p → IfErr res (λ c. Asks 1 (HasCounts t r) (FailsFit t r) c.number) → IfErr res (λ c. Fails s p c.number)
  fit_fails r r' e f h = subst (λ x. IfErr res (λ c. Fails s x c.number)) f (subst (λ x. IfErr res (λ c. Fails s (record { table = t; said = fits x }) c.number)) e
      (IfErr-weaker res (λ c. Asks 1 (HasCounts t r) (FailsFit t r) c.number) (λ c. Fails s (record { table = t; said = fits r }) c.number) (λ c a. asks_more (FailsFit t r) 1 c.number table a) h))

  pub none_good : (n : ℕ) → record { table = t; said = none n } ≡ p → OnOk res (SaysNone t n) → OnOk res (IsGood s p)
  none_good n f h = subst (λ x. OnOk res (IsGood s x)) f (on_ok_weaker res (λ g. record { table = table; verdict = g }) h)

  pub none_fails : (n : ℕ) → record { table = t; said = none n } ≡ p → IfErr res (λ c. Asks 2 (SaysNone t n) AsksNothing c.number) → IfErr res (λ c. Fails s p c.number)
  none_fails n f h = subst (λ x. IfErr res (λ c. Fails s x c.number)) f
      (IfErr-weaker res (λ c. Asks 2 (SaysNone t n) AsksNothing c.number) (λ c. Fails s (record { table = t; said = none n }) c.number) (λ c a. inr ((table, tt), a)) h)

-- ---- good, or a clause that fails

-- if a clause holds, those after it decide
pub past : {N P B : Type 0} → P → (N × (P → ⊥)) ⊎ (P × B) → B
past p h = ⊎_elim (λ f. absurd (f.1 p)) (λ f. f.1) h

-- no clause of a good record fails
none_fails_good : (s : Settings) (t : Table) (said : Said) (n : ℕ) → IsGood s (record { table = t; said = said }) → Fails s (record { table = t; said = said }) n → ⊥
none_fails_good s t (fits r) n g h =
    let v = g.verdict in
    past v.last (past v.steps (past v.order (past v.first (past v.sums (past v.entries (past (g.table, v.counts) h))))))
none_fails_good s t (none least) n g h = past g.verdict (past (g.table, tt) h)

pub exactly : (s : Settings) (p : Record) (res : Result (Unit {0}) Clause) → OnOk res (IsGood s p) → IfErr res (λ c. Fails s p c.number) → (res ≡ Ok tt) ↔ IsGood s p
exactly s p (Ok x) good fails = ((λ e. good), (λ g. refl))
exactly s p (Err c) good fails = ((λ e. absurd cc), (λ g. absurd (none_fails_good s p.table p.said c.number g fails)))

true_of : (s : Settings) (t : Table) (said : Said) → GoodIsLeast → GoodNoneFits → IsGood s (record { table = t; said = said }) → IsTrueOf t said
true_of s t (fits r) least nothing g = least t r g.verdict
true_of s t (none n) least nothing g = nothing t n g.verdict

-- what a good record says is true
pub sound : (s : Settings) (p : Record) (res : Result (Unit {0}) Clause) → GoodIsLeast → GoodNoneFits → OnOk res (IsGood s p) → OnOk res (IsTrueOf p.table p.said)
sound s p res least nothing good = on_ok_weaker res (λ g. true_of s p.table p.said least nothing g) good
