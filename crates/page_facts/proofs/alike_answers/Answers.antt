use Rattle.page_facts.proofs.Alike.{alike_answers_agree, alike_line_by_line, equivalence}
use Rattle.page_facts.proofs.alike_answers.Goals as goal

pub returns : goal.returns
returns c = record { agree = alike_answers_agree; equivalence = equivalence; lines = alike_line_by_line }
