use Rattle.file_format.proofs.Once.{right_or_one_fault}
use Rattle.file_format.proofs.laws.right_or_one_fault.Goals as goal

pub returns : goal.returns
returns c = right_or_one_fault
