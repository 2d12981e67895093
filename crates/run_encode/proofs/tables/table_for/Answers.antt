use Rattle.std.proofs.Common.{◌≡◌, sym, ap, subst, ◌∙◌}
use Rattle.std.specs.Prelude.{IfOk}
use Rattle.std.proofs.lemmas.List.Elements.{recursion_from_All}
use Rattle.rate_table.specs.Table.{Table, IsTable, group_table}
use Rattle.run_encode.specs.Groups.{IsFrameOf}
use Rattle.run_encode.proofs.Ready.{group-is-table}
use Rattle.run_encode.proofs.Grouped.{table-is}
use Rattle.run_encode.proofs.tables.table_for.Goals as goal

pub join-requires : goal.join-requires
join-requires c =
    subst IsTable (sym (ap group_table c.in_ok-tables.ensures ∙ sym (table-is c.args.job.now c.args.frames.now)))
    (group-is-table c.args.job.now c.requires.job c.group_table_is_table.ensures c.args.frames.now (recursion_from_All (IsFrameOf c.args.job.now) c.args.frames.now c.requires.frames) c.requires.some c.requires.few)

pub returns : goal.returns
returns c = record {
  table = subst (λ x. IfOk c.join.result (λ (t : Table). t ≡ x)) (ap group_table c.in_ok-tables.ensures ∙ sym (table-is c.args.job.now c.args.frames.now)) c.join.ensures;
}
