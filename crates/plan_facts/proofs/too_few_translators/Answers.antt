use Rattle.plan_facts.proofs.Counted.{too_few_translators}
use Rattle.plan_facts.proofs.too_few_translators.Goals as goal

pub returns : goal.returns
returns c = too_few_translators
