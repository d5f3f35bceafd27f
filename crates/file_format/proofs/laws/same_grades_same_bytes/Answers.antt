use Rattle.file_format.proofs.RoundTrip.{same_grades_same_bytes}
use Rattle.file_format.proofs.laws.same_grades_same_bytes.Goals as goal

pub returns : goal.returns
returns c = same_grades_same_bytes
