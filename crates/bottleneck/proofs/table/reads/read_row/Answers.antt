use Rattle.bottleneck.proofs.Rows.{row_read}
use Rattle.bottleneck.proofs.table.reads.read_row.Goals as goal
use Rattle.std.proofs.Common.{◌*◌, ◌∙◌, arith}

pub returns-clause-row : goal.returns-clause-row
returns-clause-row g c =
    row_read g.K.Kind.valid (g.R.Reading.meaning c.args.grades.now) (g.met.R.Reading.sound c.args.grades.now) c.args.pkg c.loop-j.codes
    (λ i l. c.loop-j.invariant.0 i (omega arith))
    (c.loop-j.invariant.1 (65 * c.args.pkg) (omega arith) ∙ c.requires.empty (65 * c.args.pkg) (omega arith))
    (λ x l h. c.loop-j.invariant.2 x (omega arith))
