use Rattle.matching.proofs.Rules.{tight_rules}
use Rattle.matching.proofs.theorems.tight_rules_out.Goals as goal

pub returns : goal.returns
returns c = tight_rules
