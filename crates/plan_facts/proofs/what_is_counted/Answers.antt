use Rattle.plan_facts.proofs.Counted.{counts, joined_by_grades, reached_by_a_member, sets_end_at_the_last_package}
use Rattle.plan_facts.proofs.what_is_counted.Goals as goal

pub returns : goal.returns
returns c = record { counts = counts; reached = reached_by_a_member; joined = joined_by_grades; ends = sets_end_at_the_last_package }
