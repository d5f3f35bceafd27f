use Rattle.page_facts.proofs.Spent.{other_lines_leave_the_published, shown_as_drawn}
use Rattle.page_facts.proofs.published_plans.Goals as goal

pub returns : goal.returns
returns c = record { others = other_lines_leave_the_published; shown = shown_as_drawn }
