use Rattle.page_facts.proofs.Limit.{limit_is_kept}
use Rattle.page_facts.proofs.limit_is_kept.Goals as goal

pub returns : goal.returns
returns c = limit_is_kept
