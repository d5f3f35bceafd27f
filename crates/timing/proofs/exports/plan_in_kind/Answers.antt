use Rattle.timing.proofs.Drawing.{drawn_in, refused_full}
use Rattle.timing.proofs.exports.plan_in_kind.Goals as goal

pub fill-requires : goal.fill-requires
fill-requires g c = c.requires

pub returns-in_err-fill : goal.returns-in_err-fill
returns-in_err-fill g c =
    let m = g.B.Reading.meaning c.args.book.now in
    refused_full g.K.Kind.valid g.K.Kind.above g.B.Book.LIMIT m.packages m.translators c.args.codes.now
    c.args.plan.now c.args.set.now c.from_residual.result c.in_err-fill.field-0.0
    c.from_residual.ensures.1 c.in_err-fill.ensures

pub returns : goal.returns
returns g c =
    let m = g.B.Reading.meaning c.args.book.now in
    let h = c.in_ok-fill.ensures in
    drawn_in g.K.Kind.valid g.K.Kind.above g.B.Book.LIMIT m.packages m.translators c.args.codes.now
    c.args.plan.now c.args.set.now (g.B.Reading.meaning c.fill.new.book) c.plan_again.new.plan
    c.plan_again.new.set c.plan_again.result h.0 h.1 c.plan_again.ensures
