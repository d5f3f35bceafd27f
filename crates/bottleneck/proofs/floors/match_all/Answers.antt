use Rattle.std.proofs.Common.{false}
use Rattle.augmenting.proofs.Arrays.{all_alike}
use Rattle.bottleneck.proofs.Progress.{nothing_to_try}
use Rattle.bottleneck.proofs.floors.match_all.Goals as goal

pub lower-requires-clause-left : goal.lower-requires-clause-left
lower-requires-clause-left g c =
    nothing_to_try g.K.Kind.above c.args.counted.now.table.codes c.args.counted.now.table.translators 1 c.args.counted.now.floor c.none-owners.result.places _ c.requires (λ j. all_alike 64 j false)
