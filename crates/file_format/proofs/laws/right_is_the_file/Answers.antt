use Rattle.file_format.proofs.RoundTrip.{right_is_the_file}
use Rattle.file_format.proofs.laws.right_is_the_file.Goals as goal

pub returns : goal.returns
returns c = right_is_the_file
