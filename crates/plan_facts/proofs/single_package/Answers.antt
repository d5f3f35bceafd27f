use Rattle.plan_facts.proofs.Single.{higher_grade_is_drawn, last_translator_counts, ungraded_package_is_short}
use Rattle.plan_facts.proofs.single_package.Goals as goal

pub returns : goal.returns
returns c = record { last = last_translator_counts; higher = higher_grade_is_drawn; none = ungraded_package_is_short }
