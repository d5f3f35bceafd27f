use Rattle.sheet.proofs.sheet.Sheet.answer_to.Goals as goal

pub returns-in-Grade : goal.returns-in-Grade
returns-in-Grade g c _ =
    rw (c.in-Grade.is, c.into.ensures c.args.plan.now c.args.set.now) (c.grade.ensures c.args.plan.now c.args.set.now)

pub returns-in-Strike : goal.returns-in-Strike
returns-in-Strike g c _ =
    rw (c.in-Strike.is, c.into-in-Strike.ensures c.args.plan.now c.args.set.now) (c.strike.ensures c.args.plan.now c.args.set.now)

pub returns-in-Load : goal.returns-in-Load
returns-in-Load g c _ =
    rw (c.in-Load.is, c.into-in-Load.ensures c.args.plan.now c.args.set.now) (c.load.ensures c.args.plan.now c.args.set.now)

pub returns-in-Draw : goal.returns-in-Draw
returns-in-Draw g c _ =
    rw (c.in-Draw.is, c.into-in-Draw.ensures c.draw.new.plan c.draw.new.set) c.draw.ensures

pub returns-in-Publish : goal.returns-in-Publish
returns-in-Publish g c _ =
    rw (c.in-Publish.is, c.into-in-Publish.ensures c.args.plan.now c.args.set.now) (c.publish.ensures c.args.plan.now c.args.set.now)

pub returns-in-Withdraw : goal.returns-in-Withdraw
returns-in-Withdraw g c _ =
    rw (c.in-Withdraw.is, c.into-in-Withdraw.ensures c.args.plan.now c.args.set.now) (c.withdraw.ensures c.args.plan.now c.args.set.now)

pub returns-in-Show : goal.returns-in-Show
returns-in-Show g c fits =
    rw (c.in-Show.is, c.into-in-Show.ensures c.show.new.plan c.args.set.now) (c.show.ensures.ran fits c.args.set.now)
