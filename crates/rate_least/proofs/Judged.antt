-- A certificate's verdict from the checks of its parts.
use Rattle.std.proofs.Common.{◌≡◌, ℕ, List, refl, subst, inl, inr, ⊎_elim, Result, Ok, Err}
use Rattle.std.specs.Prelude.{◌↔◌, OnOk, IfErr}
use Rattle.std.proofs.lemmas.Result.{on_ok_weaker}
use Rattle.rate_check.proofs.Judged.{past}
use Rattle.rate_table.specs.declared.entry.Entry.{Entry}
use Rattle.rate_cert.specs.Records.{Asks, AsksNothing}
use Rattle.rate_check.specs.declared.check.Clause.{Clause}
use Rattle.rate_least.specs.Laws.{GoodIsTrue}
use Rattle.rate_least.specs.Records.{Printed, Said, fits, none, IsGood, IsGoodFit, HasCounts, HasEntries, SumsAreRight, AreGood, Fails, FailsFit, FailsLayers, SaysNone, IsTrueOf}

module _ (slices : List (List Entry)) (cap : ℕ) where
  pub good_fit : (r : Printed) → HasCounts slices r → HasEntries slices r → SumsAreRight slices cap r → AreGood slices cap r → IsGoodFit slices cap r
  good_fit r counts entries sums layers = record { counts = counts; entries = entries; sums = sums; layers = layers }

  -- the clauses on sums, and those on layers after them
  pub sums_fail : (r : Printed) (n : ℕ) → HasCounts slices r → Asks 3 (HasEntries slices r) (Asks 4 (SumsAreRight slices cap r) AsksNothing) n → Asks 1 (HasCounts slices r) (FailsFit slices cap r) n
  sums_fail r n c h = inr (c, ⊎_elim (λ f. inl f) (λ f. inr (f.0, ⊎_elim (λ g. inl g) (λ g. absurd g.1) f.1)) h)

  pub layers_fail : (r : Printed) (n : ℕ) → HasCounts slices r → HasEntries slices r → SumsAreRight slices cap r → FailsLayers slices cap r n → Asks 1 (HasCounts slices r) (FailsFit slices cap r) n
  layers_fail r n c e f h = inr (c, inr (e, inr (f, h)))

  module _ (said : Said) (res : Result (Unit {0}) Clause) where
    pub fit_good : (r r' : Printed) → r ≡ r' → fits r' ≡ said → OnOk res (IsGoodFit slices cap r) → OnOk res (IsGood slices cap said)
    fit_good r r' e f h = subst (λ x. OnOk res (IsGood slices cap x)) f (subst (λ x. OnOk res (IsGoodFit slices cap x)) e h)

    pub fit_fails : (r r' : Printed) → r ≡ r' → fits r' ≡ said → IfErr res (λ c. Asks 1 (HasCounts slices r) (FailsFit slices cap r) c.number) → IfErr res (λ c. Fails slices cap said c.number)
    fit_fails r r' e f h = subst (λ x. IfErr res (λ c. Fails slices cap x c.number)) f (subst (λ x. IfErr res (λ c. Fails slices cap (fits x) c.number)) e h)

    pub none_good : (n : ℕ) → none n ≡ said → OnOk res (SaysNone slices cap n) → OnOk res (IsGood slices cap said)
    none_good n f h = subst (λ x. OnOk res (IsGood slices cap x)) f h

    pub none_fails : (n : ℕ) → none n ≡ said → IfErr res (λ c. Asks 2 (SaysNone slices cap n) AsksNothing c.number) → IfErr res (λ c. Fails slices cap said c.number)
    none_fails n f h = subst (λ x. IfErr res (λ c. Fails slices cap x c.number)) f h

  -- ---- good, or a clause that fails

  -- no clause of a good certificate fails
  none_fails_good : (said : Said) (n : ℕ) → IsGood slices cap said → Fails slices cap said n → ⊥
  none_fails_good (fits r) n g h =
      let l = g.layers in
      past l.last (past l.steps (past l.order (past l.first (past g.sums (past g.entries (past g.counts h))))))
  none_fails_good (none least) n g h = past g h

  pub exactly : (said : Said) (res : Result (Unit {0}) Clause) → OnOk res (IsGood slices cap said) → IfErr res (λ c. Fails slices cap said c.number) → (res ≡ Ok tt) ↔ IsGood slices cap said
  exactly said (Ok x) good fails = ((λ e. good), (λ g. refl))
  exactly said (Err c) good fails = ((λ e. absurd cc), (λ g. absurd (none_fails_good said c.number g fails)))

  -- what a good certificate says is true
  pub sound : (said : Said) (res : Result (Unit {0}) Clause) → GoodIsTrue → OnOk res (IsGood slices cap said) → OnOk res (IsTrueOf slices cap said)
  sound said res true_law good = on_ok_weaker res (λ g. true_law slices cap said g) good
