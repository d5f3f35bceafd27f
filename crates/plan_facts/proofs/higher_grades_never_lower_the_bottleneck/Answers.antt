use Rattle.plan_facts.proofs.Raised.{never_lower}
use Rattle.plan_facts.proofs.higher_grades_never_lower_the_bottleneck.Goals as goal

pub returns : goal.returns
returns c = never_lower
