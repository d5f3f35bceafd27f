use Rattle.page_runs.proofs.Once.{rules_determine_the_output}
use Rattle.page_runs.proofs.run.answers.Goals as goal

pub returns-in_err-write_output-clause-determined : goal.returns-in_err-write_output-clause-determined
returns-in_err-write_output-clause-determined c = rules_determine_the_output

pub returns-clause-determined : goal.returns-clause-determined
returns-clause-determined c = rules_determine_the_output
