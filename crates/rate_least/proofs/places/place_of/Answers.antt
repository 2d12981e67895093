use Rattle.std.proofs.Common.{rules, ltb, refl, ◌∙◌, arith}
use Rattle.std.proofs.lemmas.List.Sorted.{IsPartitionPoint-from_clause, IsPartitionedBy-ltb}
use Rattle.std.proofs.lemmas.List.{get_or_default}
use Rattle.std.proofs.lemmas.Bool.{false≢true}
use Rattle.rate_least.specs.declared.outcome.WidePair.{WidePair}
use Rattle.rate_least.proofs.Onward.{rises_sorted, none_at}
use Rattle.rate_least.proofs.places.place_of.Goals as goal
use Rattle.rate_least.proofs.places.place_of.Goals.{else-at-pairs-via-then-at-pairs+else-is_pair, else-at-pairs-via-else-at-pairs}

pub returns-else-at-pairs-clause-none : goal.returns-else-at-pairs-clause-none
returns-else-at-pairs-clause-none c =
    let ps = c.args.pairs.now in
    let at = c.partition_point-at.result in
    let q : WidePair = record { size = c.args.size; error = c.args.error } in
    let parts = IsPartitionPoint-from_clause (λ (p : WidePair). ltb p.size c.args.size) ps at c.partition_point-at.ensures.partitioned
    (IsPartitionedBy-ltb (λ (p : WidePair). p.size) ps c.args.size (rises_sorted ps c.requires)) (λ a r f k. search rules) in
    none_at ps c.args.size at c.requires parts q refl (λ n e. elim c.else-at-pairs.branch [
      | else-at-pairs-via-then-at-pairs+else-is_pair w ↦ false≢true (w.if-is_pair.ensures.1 (get_or_default ps at _ q n ∙ e))
      | else-at-pairs-via-else-at-pairs w ↦ omega (arith, n, w.if-at-pairs.false)
    ])
