use Rattle.plan_facts.proofs.Lowest.{below_the_others, one_lowest_grade}
use Rattle.plan_facts.proofs.one_lowest_grade.Goals as goal

pub returns : goal.returns
returns c = record { one = one_lowest_grade; below = below_the_others }
