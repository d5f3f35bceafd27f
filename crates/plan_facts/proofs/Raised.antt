-- Grades that are all still there, the same or higher, have a bottleneck that is the same or higher.
use Rattle.std.proofs.Common.{◌≡◌, ℕ, ◌+◌, ◌<◌, Bool, true, ◌⊎◌, get_or, is_some, sym, ap, ◌∙◌, subst, inl, inr, ⊎_elim, arith}
use Rattle.bottleneck.proofs.Lowering.{some_graded}
use Rattle.bottleneck.specs.Grades.{graded}
use Rattle.grades.specs.Order.{Order}
use Rattle.matching.proofs.Rules.{repaired}
use Rattle.matching.specs.Plans.{FullPlan}
use Rattle.plan_facts.proofs.Lowest.{below_the_others, lowest_grade, same_grade}
use Rattle.plan_facts.specs.Plans.{HigherGradesNeverLowerTheBottleneck}

-- the same or above, twice
abbrev AtLeast : (ℕ → ℕ → Bool) → ℕ → ℕ → Type 0
AtLeast above a b = (a ≡ b) ⊎ (above a b ≡ true)

at_least :
    (valid : ℕ → Bool) (above : ℕ → ℕ → Bool) → Order valid above → (a b c : ℕ) → valid a ≡ true → valid b ≡ true → valid c ≡ true
    → AtLeast above a b → AtLeast above b c → AtLeast above a c
at_least valid above o a b c u v w (inl e) (inl f) = inl (e ∙ f)
at_least valid above o a b c u v w (inl e) (inr f) = inr (ap (λ (x : ℕ). above x c) e ∙ f)
at_least valid above o a b c u v w (inr e) (inl f) = inr (ap (above a) (sym f) ∙ e)
at_least valid above o a b c u v w (inr e) (inr f) = inr (o.chain a b c u v w e f)

pub never_lower : HigherGradesNeverLowerTheBottleneck
never_lower valid above o G H all more up p t plan other lowest code a b =
    let long = a.full.long in
    let held = a.lowest_grade.held in
    let full : FullPlan (graded H) p t plan =
    repaired (graded G) (graded H) p t plan a.full
    (λ k l.
    let y = some_graded (G (k + 1) (get_or plan k 0)) (a.full.paired k l) in
    ap is_some (up (k + 1) (get_or plan k 0) y.0 y.1).1) in
    let new = lowest_grade valid above o H more p t (omega (arith, held.1, long)) plan full in
    let h = new.1.held in
    let k = h.0 in
    let here : k < p = omega (arith, h.1, long) in
    let old = (below_the_others valid above o G all p t plan lowest a.full a.lowest_grade).1 k here in
    let raised = up (k + 1) (get_or plan k 0) old.0 old.1 in
    let same : raised.0 ≡ new.0 = same_grade (H (k + 1) (get_or plan k 0)) raised.0 new.0 raised.1 h.2 in
    let vl : valid lowest ≡ true = all (held.0 + 1) (get_or plan held.0 0) lowest held.2 in
    let vo : valid old.0 ≡ true = all (k + 1) (get_or plan k 0) old.0 old.1 in
    let vn : valid new.0 ≡ true = more (k + 1) (get_or plan k 0) new.0 h.2 in
    let hc = b.lowest_grade.held in
    let vc : valid code ≡ true = more (hc.0 + 1) (get_or other hc.0 0) code hc.2 in
    let x : AtLeast above new.0 old.0 = subst (λ (z : ℕ). AtLeast above z old.0) same raised.2 in
    let y : AtLeast above new.0 lowest = at_least valid above o new.0 old.0 lowest vn vo vl x old.2 in
    let z : AtLeast above code new.0 = ⊎_elim (λ q. inl (sym q)) (λ q. inr q) (b.bottleneck plan new.0 full new.1) in
    at_least valid above o code new.0 lowest vc vn vl z y
