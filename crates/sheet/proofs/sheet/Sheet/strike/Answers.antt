use Rattle.sheet.proofs.Pairs.{strike_runs}
use Rattle.sheet.proofs.sheet.Sheet.strike.Goals as goal

pub returns : goal.returns
returns g c plan set =
    strike_runs _ c.args.role c.args.pkg c.args.translator plan set c.take_grade.result _
    c.take_grade.ensures.answer c.take_grade.ensures.after
