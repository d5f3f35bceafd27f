use Rattle.plan_report.proofs.lines.write_table.Given as goal
use Rattle.plan_report.specs.Texts.{table}
use Rattle.grades.specs.Names.{kind_number}
use Rattle.std.proofs.Common.{◌≡◌, ◌++◌, string_bytes}
use Rattle.table_book.specs.Table.{table_meaning}

abbrev pub invariant-loop-place : goal.invariant-loop-place
invariant-loop-place l =
    string_bytes l.out
    ≡ string_bytes l.initial.out ++ table (kind_number l.scale.kind) l.scale.lowest (table_meaning l.grades).grade l.plan l.place
