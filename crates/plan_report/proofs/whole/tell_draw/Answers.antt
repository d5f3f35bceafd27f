use Rattle.std.proofs.Common.{◌≡◌, ◌≤◌, length, string_bytes, arith}
use Rattle.file_format.specs.FileOf.{grade_in}
use Rattle.plan_report.proofs.Growing.{if_ok}
use Rattle.plan_report.proofs.Telling.{plan_told, short_told}
use Rattle.plan_report.proofs.whole.tell_draw.Goals as goal
use Rattle.grades.specs.Names.{kind_number}
use Rattle.table_book.specs.Table.{table_meaning}

pub returns-in-Some : goal.returns-in-Some
returns-in-Some c =
    let sized : c.from-packages.result ≡ c.args.head.sizes.packages = omega (arith, c.from-packages.ensures, c.packages.ensures) in
    let room : c.args.head.sizes.packages ≤ length c.draw_by_head.new.set = omega (arith, c.draw_by_head.auto.set, c.args.head.sizes.within.1) in
    if_ok c.write_plan.result _ _
    (λ _ h.
    plan_told (kind_number c.args.head.kind) c.args.head.sizes.packages c.args.head.sizes.translators (grade_in c.args.file.now)
    c.draw_by_head.new.plan c.draw_by_head.new.set (string_bytes c.args.out.now) (string_bytes c.write_plan.new.out)
    c.from-packages.result sized room c.requires.begun (table_meaning c.args.grades.now).grade c.in-Some.lowest c.requires.grades
    c.in-Some.ensures h)
    c.write_plan.ensures

pub returns-in-None : goal.returns-in-None
returns-in-None c =
    let sized : c.from-packages.result ≡ c.args.head.sizes.packages = omega (arith, c.from-packages.ensures, c.packages.ensures) in
    let room : c.args.head.sizes.packages ≤ length c.draw_by_head.new.set = omega (arith, c.draw_by_head.auto.set, c.args.head.sizes.within.1) in
    if_ok c.write_short.result _ _
    (λ _ h.
    short_told (kind_number c.args.head.kind) c.args.head.sizes.packages c.args.head.sizes.translators (grade_in c.args.file.now)
    c.draw_by_head.new.plan c.draw_by_head.new.set (string_bytes c.args.out.now) (string_bytes c.write_short.new.out)
    c.from-packages.result sized room c.requires.begun c.in-None.ensures h)
    c.write_short.ensures
