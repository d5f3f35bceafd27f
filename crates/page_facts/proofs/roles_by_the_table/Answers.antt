use Rattle.page_facts.proofs.Rights.{roles_by_the_table}
use Rattle.page_facts.proofs.roles_by_the_table.Goals as goal

pub returns : goal.returns
returns c = roles_by_the_table
