use Rattle.std.proofs.Common.{◌≡◌, ℕ, ◌≤◌, length, take, sym, ◌∙◌, subst, arith}
use Rattle.bottleneck.specs.Grades.{valid_grades}
use Rattle.matching.proofs.Buffers.{all_counted}
use Rattle.matching.proofs.Firsts.{best_from}
use Rattle.matching.proofs.Rules.{no_full_plan}
use Rattle.matching.proofs.best.best_plan.Goals as goal
use Rattle.matching.specs.Plans.{BestPlan}
use Rattle.augmenting.specs.Owners.{seen}
use Rattle.bottleneck.specs.Grades.{graded}
use Rattle.std.proofs.lemmas.Result.{err_from_is_err_and}

pub returns : goal.returns
returns g c =
    let valid = g.K.Kind.valid in
    let above = g.K.Kind.above in
    let m = g.R.Reading.meaning c.args.grades.now in
    let G = valid_grades valid m in
    let best = c.in_ok-best.best in
    let found = c.in_ok-best.ensures in
    let plan = c.of_owners.result in
    let few = plan.few.1 in
    let full = plan.full in
    let e : plan.packages ≡ m.packages = c.of_owners.ensures.packages ∙ c.packages.ensures in
    let wide : m.packages ≤ length plan.numbers = omega (arith, few, full, e) in (
      subst (λ (x : ℕ). BestPlan above G m.packages m.translators (take x plan.numbers) best.lowest) (sym e)
          (best_from valid above g.met.K.Kind.order G (all_counted valid m) m.packages m.translators best.lowest best.owners.places best.tight.places found
          plan.numbers wide c.of_owners.ensures.numbers),
      found.tight,
    )

pub returns-in_err-best : goal.returns-in_err-best
returns-in_err-best g c =
    let m = g.R.Reading.meaning c.args.grades.now in
    let short = c.in_err-best.field-0.0 in
    let p = err_from_is_err_and c.from_residual.result c.from_residual.ensures.1 in
    rw (p.1, p.2)
    (no_full_plan (graded (valid_grades g.K.Kind.valid m)) m.packages m.translators (seen short.places) c.in_err-best.ensures, c.in_err-best.ensures)
