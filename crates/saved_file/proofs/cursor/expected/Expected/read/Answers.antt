use Rattle.file_format.specs.Rules.{RecordsRight, RightPart, first_count, second_count, sheet_record}
use Rattle.file_format.specs.Layout.{count_in}
use Rattle.saved_file.proofs.Faults.{in_the_end}
use Rattle.saved_file.proofs.cursor.expected.Expected.read.Goals as goal
use Rattle.saved_file.specs.Expecting.{of_kind}
use Rattle.std.proofs.Common.{◌∙◌, rules}
use Rattle.std.proofs.lemmas.Result.{err_from_is_err_and}

pub returns-in_err-at_the_end : goal.returns-in_err-at_the_end
returns-in_err-at_the_end g c =
    let e = of_kind g.K.Kind.NUMBER g.K.Kind.valid c.args.self.now in
    let bs = c.args.file.now in
    let p = err_from_is_err_and c.from_residual-in_err-at_the_end.result c.from_residual-in_err-at_the_end.ensures.1 in
    let first : RightPart e bs first_count = search rules in
    let sheet : RightPart e bs sheet_record = search rules in
    let second : RightPart e bs second_count = search rules in
    let records : RecordsRight e bs (count_in bs) = search rules in
    rw (p.1, p.2)
    (in_the_end e bs c.grade_records.new.cursor.file.now
    (c.grade_records.ensures.file ∙ c.second_count.ensures.moved.0 ∙ c.sheet_record.ensures.moved.0
    ∙ c.first_count.ensures.moved.0 ∙ c.new-cursor.ensures.file)
    first sheet second records c.in_err-at_the_end.field-0.0 c.in_err-at_the_end.ensures)
