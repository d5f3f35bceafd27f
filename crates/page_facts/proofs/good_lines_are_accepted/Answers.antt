use Rattle.page_facts.proofs.Accepted.{good_draws, good_grades, good_loads, good_shows, good_slips, good_strikes}
use Rattle.page_facts.proofs.good_lines_are_accepted.Goals as goal

pub returns : goal.returns
returns c =
    record { grade = good_grades; strike = good_strikes; load = good_loads; draw = good_draws; slip = good_slips; show = good_shows }
