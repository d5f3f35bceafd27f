use Rattle.plan_facts.proofs.Counted.{empty_sets_are_neither, tight_sets_are_not_short}
use Rattle.plan_facts.proofs.tight_and_short_sets.Goals as goal

pub returns : goal.returns
returns c = record { empty = empty_sets_are_neither; apart = tight_sets_are_not_short }
