use Rattle.augmenting.proofs.Arrays.{all_alike}
use Rattle.augmenting.proofs.owners.Owners.none.Goals as goal

pub returns : goal.returns
returns c = λ j. all_alike 64 j 0
