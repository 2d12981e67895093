use Rattle.std.proofs.Common.{◌≡◌, ◌≤◌, sym, ◌∙◌, subst, arith}
use Rattle.rate_table.specs.Table.{IsTable, size_of, error_of}
use Rattle.rate_least.proofs.check.check_sums.Goals as goal

pub returns-then-error-cap-clause-good : goal.returns-then-error-cap-clause-good
returns-then-error-cap-clause-good c =
    let t = c.args.table.now in
    let is : IsTable t = subst IsTable c.table.view_is c.table.invariant in
    let h = c.in-Some.ensures.some in (
      (h.0, h.1, h.2),
      λ other o ids.
          let same = c.indices_tell_choice.ensures t h.0 other is h.1 o (h.2 ∙ sym ids) in
          subst (λ x. (size_of x ≡ c.args.size) × (error_of x ≡ c.args.error) × (error_of x ≤ c.args.cap)) same
          (omega (arith, h.3, c.if-bytes-size.true), omega (arith, h.4, c.if-errors-error.true), omega (arith, h.4, c.if-errors-error.true, c.if-error-cap.true)),
    )
