use Rattle.plan_facts.proofs.Lowest.{plans_name_translators}
use Rattle.plan_facts.proofs.plans_name_translators.Goals as goal

pub returns : goal.returns
returns c = plans_name_translators
