use Rattle.std.proofs.Common.{ℕ, List}
use Rattle.bottleneck.specs.Grades.{valid_grades}
use Rattle.matching.specs.Answers.{Answered}
use Rattle.timing.proofs.runs.plan_again.Given as goal

abbrev pub invariant-loop : goal.invariant-loop
invariant-loop g l =
    let m = g.R.Reading.meaning l.grades in
    let G = valid_grades g.K.Kind.valid m in
    (plan set : List ℕ)
    → Answered g.K.Kind.above G m.packages m.translators plan set l.initial.plan l.initial.set l.initial.answer
    → Answered g.K.Kind.above G m.packages m.translators plan set l.plan l.set l.answer
