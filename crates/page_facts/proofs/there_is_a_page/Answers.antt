use Rattle.page_facts.proofs.Witness.{there_is_a_page}
use Rattle.page_facts.proofs.there_is_a_page.Goals as goal

pub returns : goal.returns
returns c = there_is_a_page
