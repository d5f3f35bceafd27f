use Rattle.matching.proofs.Rules.{no_full_plan}
use Rattle.matching.proofs.theorems.short_rules_out.Goals as goal

pub returns : goal.returns
returns c = no_full_plan
