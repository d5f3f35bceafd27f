use Rattle.augmenting.proofs.Arrays.{all_alike}
use Rattle.augmenting.proofs.members.Members.none.Goals as goal
use Rattle.std.proofs.Common.{false}

pub returns : goal.returns
returns c = λ k. all_alike 48 k false
