use Rattle.sheet.proofs.Showing.{show_runs}
use Rattle.sheet.proofs.sheet.Sheet.show.Goals as goal

pub returns-clause-ran : goal.returns-clause-ran
returns-clause-ran g c fits set =
    show_runs _ c.args.role c.args.plan.now set fits c.show_plan.result c.show_plan.new.plan
    c.show_plan.ensures.answer c.show_plan.ensures.written
