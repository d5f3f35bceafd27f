use Rattle.plan_report.proofs.Telling.{grades_read}
use Rattle.plan_report.proofs.whole.grades_in.Goals as goal
use Rattle.table_book.specs.Table.{table_meaning}

pub returns : goal.returns
returns c =
    grades_read c.args.head c.args.file.now.file.now c.requires.bytes c.requires.right (table_meaning c.new-book.result)
    (table_meaning c.put_records.new.book) c.args.file.now.count c.new-book.ensures c.args.file.now.counted
    c.put_records.ensures.after c.put_records.ensures.grades
