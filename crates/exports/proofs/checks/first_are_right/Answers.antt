use Rattle.std.proofs.Common.{ap, ◌∙◌}
use Rattle.exports.proofs.Codes.{take_there}
use Rattle.exports.proofs.checks.first_are_right.Goals as goal
use Rattle.exports.specs.Kinds.{codes_right}

pub returns : goal.returns
returns g c =
    c.codes_are_right.ensures ∙ ap (codes_right g.K.Kind.valid) (take_there c.args.most c.min.result c.args.codes.now c.min.ensures)
