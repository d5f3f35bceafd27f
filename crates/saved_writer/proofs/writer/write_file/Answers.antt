use Rattle.saved_writer.proofs.WholeFile.{reads_back, room, too_short}
use Rattle.saved_writer.proofs.writer.write_file.Goals as goal
use Rattle.std.proofs.Common.{◌∙◌, arith}

pub returns-then-out-length : goal.returns-then-out-length
returns-then-out-length g c =
    let w =
    too_short g.K.Kind.NUMBER (g.R.Reading.meaning c.args.book.now) c.from.result c.args.out.now
    (c.from.ensures ∙ c.standing_grades-count.ensures) c.if-out-length.true in
    record { answer = w.0; after = w.1; read_back = tt }

pub returns-clause-answer : goal.returns-clause-answer
returns-clause-answer g c =
    room g.K.Kind.NUMBER (g.R.Reading.meaning c.args.book.now) c.args.out.now c.from.result
    (c.from.ensures ∙ c.standing_grades-count.ensures) (omega arith)

pub returns-clause-read_back : goal.returns-clause-read_back
returns-clause-read_back g c =
    reads_back g.K.Kind.NUMBER g.K.Kind.valid (g.R.Reading.meaning c.args.book.now)
    (g.met.R.Reading.sound c.args.book.now) c.write_rows.ensures.codes
