use Rattle.page_facts.proofs.Tallies.{newest_line_first, slip_counts}
use Rattle.page_facts.proofs.counted_lines.Goals as goal

pub returns : goal.returns
returns c = record { counts = slip_counts; newest = newest_line_first }
