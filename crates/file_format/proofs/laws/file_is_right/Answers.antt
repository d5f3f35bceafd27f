use Rattle.file_format.proofs.RoundTrip.{file_is_right}
use Rattle.file_format.proofs.laws.file_is_right.Goals as goal

pub returns : goal.returns
returns c = file_is_right
