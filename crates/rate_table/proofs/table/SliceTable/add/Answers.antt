use Rattle.std.proofs.Common.{◌<◌, arith, sym, subst}
use Rattle.rate_table.specs.Body.{last_index}
use Rattle.rate_table.proofs.Behind.{few-below, slice-behind}
use Rattle.rate_table.proofs.table.SliceTable.add.Goals as goal

pub push-requires : goal.push-requires
push-requires c =
    let above = subst (λ entries. last_index entries < c.args.entry.index) (sym c.self.view_is) c.requires.above in
    (omega arith, few-below _ _ c.self.invariant c.requires.entry above)

pub invariant_of-self : goal.invariant_of-self
invariant_of-self c =
    let above = subst (λ entries. last_index entries < c.args.entry.index) (sym c.self.view_is) c.requires.above in
    rw c.push.ensures.items (slice-behind _ _ c.self.invariant c.requires.entry above)
