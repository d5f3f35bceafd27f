use Rattle.std.proofs.Common.{◌≡◌, ℕ, Option, sym, subst}
use Rattle.matching.proofs.Rules.{one_best}
use Rattle.matching.proofs.theorems.one_best_plan.Goals as goal
use Rattle.matching.specs.Plans.{BestPlan}

pub returns : goal.returns
returns c valid above o G H all e p t plan other lowest code a b =
    let same : H ≡ G = λ i k j. sym (e k j) i in
    one_best valid above o G all p t plan other lowest code a (subst (λ (x : ℕ → ℕ → Option ℕ). BestPlan above x p t other code) same b)
