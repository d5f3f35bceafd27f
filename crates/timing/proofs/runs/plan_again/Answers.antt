use Rattle.bottleneck.specs.Grades.{valid_grades}
use Rattle.timing.proofs.Again.{answered_again}
use Rattle.timing.proofs.runs.plan_again.Goals as goal

pub loop-init : goal.loop-init
loop-init g c = λ plan set a. a

pub loop-preserved : goal.loop-preserved
loop-preserved g c =
    let m = g.R.Reading.meaning c.args.grades.now in
    λ plan set a. answered_again g.K.Kind.above (valid_grades g.K.Kind.valid m) m.packages m.translators plan set
    c.loop.plan c.loop.set c.match_into-answer-in-loop.new.plan c.match_into-answer-in-loop.new.set
    c.loop.answer c.match_into-answer-in-loop.result (c.loop.invariant plan set a) c.match_into-answer-in-loop.ensures

pub returns : goal.returns
returns g c = c.loop.invariant c.args.plan.now c.args.set.now c.match_into-answer.ensures
