use Rattle.sheet.proofs.Pairs.{grade_runs}
use Rattle.sheet.proofs.sheet.Sheet.grade.Goals as goal

pub returns : goal.returns
returns g c plan set =
    grade_runs _ c.args.role c.args.pkg c.args.translator plan set c.args.code c.put_grade.result _
    c.put_grade.ensures.answer c.put_grade.ensures.after
