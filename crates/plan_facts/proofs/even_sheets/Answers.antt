use Rattle.plan_facts.proofs.Even.{even_sheets_count_up, short_even_sheets, tight_sets_of_even_sheets}
use Rattle.plan_facts.proofs.even_sheets.Goals as goal

pub returns : goal.returns
returns c = record { plan = even_sheets_count_up; tight = tight_sets_of_even_sheets; short = short_even_sheets }
