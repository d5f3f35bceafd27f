use Rattle.std.proofs.Common.{ℕ, List, ◌++◌, length, string_bytes, ap, ◌∙◌, append_assoc}
use Rattle.matching.specs.Answers.{member}
use Rattle.plan_report.proofs.Growing.{if_ok, two_parts}
use Rattle.plan_report.proofs.lines.write_plan.Goals as goal
use Rattle.plan_report.specs.Texts.{lowest_line, set_line, table, tight_words}
use Rattle.grades.specs.Names.{kind_number}
use Rattle.table_book.specs.Table.{table_meaning}

pub returns : goal.returns
returns c =
    let rows = table (kind_number c.args.scale.kind) c.args.scale.lowest (table_meaning c.args.grades.now).grade c.args.plan.now (length c.args.plan.now) in
    let lowest = lowest_line (kind_number c.args.scale.kind) c.args.scale.lowest in
    let named = set_line tight_words (member c.args.set.now) (length c.args.set.now) in
    let start = string_bytes c.args.out.now in
    if_ok c.write_set.result _ _
    (λ _ h.
    two_parts start (rows ++ lowest) named (string_bytes c.writeln.new.self) (string_bytes c.write_set.new.out)
    (two_parts start rows lowest (string_bytes c.write_table.new.out) (string_bytes c.writeln.new.self)
    c.in_ok-write_table.ensures c.in_ok-writeln.ensures.bytes)
    h
    ∙ ap (λ (x : List ℕ). start ++ x) (append_assoc rows lowest named))
    c.write_set.ensures
