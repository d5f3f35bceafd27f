use Rattle.plan_facts.proofs.Exists.{best_plan_or_none}
use Rattle.plan_facts.proofs.best_plan_or_none.Goals as goal

pub returns : goal.returns
returns c = best_plan_or_none
