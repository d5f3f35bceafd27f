use Rattle.std.proofs.Common.{◌++◌, string_bytes, ap, ◌∙◌}
use Rattle.plan_report.proofs.Growing.{table_none, table_more}
use Rattle.plan_report.proofs.lines.write_table.Goals as goal
use Rattle.plan_report.specs.Texts.{pair_line}
use Rattle.plan_report.specs.declared.lines.Pair.{Pair}
use Rattle.grades.specs.Names.{kind_number}
use Rattle.table_book.specs.Table.{table_meaning}

pub loop-place-init : goal.loop-place-init
loop-place-init c =
    table_none (kind_number c.args.scale.kind) c.args.scale.lowest (table_meaning c.args.grades.now).grade c.args.plan.now
    (string_bytes c.args.out.now)

pub loop-place-preserved : goal.loop-place-preserved
loop-place-preserved c =
    table_more (kind_number c.args.scale.kind) c.args.scale.lowest (table_meaning c.args.grades.now).grade c.args.plan.now
    (string_bytes c.args.out.now) (string_bytes c.loop-place.out) (string_bytes c.write_pair.new.out) c.loop-place.place
    c.loop-place.invariant
    (c.in_ok-write_pair.ensures
    ∙ ap (λ (x : Pair). string_bytes c.loop-place.out ++ pair_line (kind_number c.args.scale.kind) c.args.scale.lowest x.pkg x.translator x.grade)
    c.pair_at.ensures)
