-- What a set with too few translators rules out, and that the best plan is one.
use Rattle.std.proofs.Common.{◌≡◌, ℕ, zero, suc, ◌+◌, ◌-◌, ◌<◌, ◌≤◌, Bool, true, false, List, length, get_or, Option, sym, ap, ◌∙◌, subst, ⊎_elim, arith}
use Rattle.augmenting.proofs.Gathered.{ruled_out}
use Rattle.augmenting.specs.Assigned.{Assigns}
use Rattle.augmenting.specs.Sets.{OneFewer}
use Rattle.bottleneck.proofs.Lowering.{some_graded}
use Rattle.bottleneck.proofs.Ranks.{compared}
use Rattle.bottleneck.specs.Grades.{AllValid, graded, graded_above, passes}
use Rattle.grades.proofs.Laws.{strict}
use Rattle.grades.specs.Order.{Order}
use Rattle.matching.specs.Plans.{BestPlan, FirstBefore, FullPlan, LowestGrade, TightSet}
use Rattle.std.proofs.lemmas.List.{ext_get_or}
use Rattle.std.proofs.lemmas.Bool.{both_ways, cases_eq}

-- a full plan by places
pub assigned : (C : ℕ → ℕ → Bool) (p t : ℕ) (plan : List ℕ) → FullPlan C p t plan → Assigns C p t (λ k. get_or plan k 0 - 1)
assigned C p t plan f =
    record {
      within = λ k l. let y = f.within k l in let a = y.0 in let b = y.1 in omega (arith, a, b);
      joined = λ k l.
          let a = (f.within k l).0 in
          let e : get_or plan k 0 - 1 + 1 ≡ get_or plan k 0 = omega (arith, a) in
          ap (C (k + 1)) e ∙ f.paired k l;
      apart = λ k l h g q.
          let a = (f.within k h).0 in
          let b = (f.within l g).0 in
          f.apart k l h g (let e : get_or plan k 0 ≡ get_or plan l 0 = omega (arith, a, b, q) in e);
    }

pub no_full_plan : (C : ℕ → ℕ → Bool) (p t : ℕ) (S : ℕ → Bool) → OneFewer C p t S → (plan : List ℕ) → FullPlan C p t plan → ⊥
no_full_plan C p t S s plan f = ruled_out C p t S (λ k. get_or plan k 0 - 1) s (assigned C p t plan f)

-- the same plan in another pattern
pub repaired :
    (C D : ℕ → ℕ → Bool) (p t : ℕ) (plan : List ℕ) → FullPlan C p t plan
    → ((k : ℕ) → k < p → D (k + 1) (get_or plan k 0) ≡ true) → FullPlan D p t plan
repaired C D p t plan f g = record { long = f.long; within = f.within; paired = g; apart = f.apart }

-- a plan whose lowest grade is above a code has only grades above it
pub all_above :
    (valid : ℕ → Bool) (above : ℕ → ℕ → Bool) → Order valid above → (G : ℕ → ℕ → Option ℕ) → AllValid valid G
    → (p t lowest code : ℕ) (plan : List ℕ) → valid lowest ≡ true → FullPlan (graded G) p t plan
    → LowestGrade above G plan code → above code lowest ≡ true → FullPlan (graded_above above G lowest) p t plan
all_above valid above o G all p t lowest code plan v f g e = repaired (graded G) (graded_above above G lowest) p t plan f each
  where
    w : valid code ≡ true
    w = all (g.held.0 + 1) (get_or plan g.held.0 0) code g.held.2

    each : (k : ℕ) → k < p → graded_above above G lowest (k + 1) (get_or plan k 0) ≡ true
    each k l =
        let y = some_graded (G (k + 1) (get_or plan k 0)) (f.paired k l) in
        let long = f.long in
        let d : above code y.0 ≡ false = g.none_below k y.0 (omega (arith, long)) y.1 in
        let x : valid y.0 ≡ true = all (k + 1) (get_or plan k 0) y.0 y.1 in
        ap (passes (λ c. above c lowest)) y.1
        ∙ ⊎_elim
        (λ q. absurd (both_ways (above code y.0) d q))
        (λ r. ⊎_elim (λ q. o.chain y.0 code lowest x w v q e) (λ q. ap (λ c. above c lowest) (sym q) ∙ e) r)
        (compared valid above o code y.0 w x)

pub tight_rules :
    (valid : ℕ → Bool) (above : ℕ → ℕ → Bool) → Order valid above → (G : ℕ → ℕ → Option ℕ) → AllValid valid G
    → (p t lowest : ℕ) (S : ℕ → Bool) → valid lowest ≡ true → TightSet above G p t lowest S
    → (plan : List ℕ) (code : ℕ) → FullPlan (graded G) p t plan → LowestGrade above G plan code → above code lowest ≡ true → ⊥
tight_rules valid above o G all p t lowest S v s plan code f g e =
    no_full_plan (graded_above above G lowest) p t S s plan (all_above valid above o G all p t lowest code plan v f g e)

-- one best plan, with one lowest grade
same_code :
    (valid : ℕ → Bool) (above : ℕ → ℕ → Bool) → Order valid above → (G : ℕ → ℕ → Option ℕ) → AllValid valid G
    → (p t : ℕ) (plan other : List ℕ) (lowest code : ℕ)
    → BestPlan above G p t plan lowest → BestPlan above G p t other code → lowest ≡ code
same_code valid above o G all p t plan other lowest code a b =
    ⊎_elim
    (λ q. sym q)
    (λ q.
    ⊎_elim
    (λ r. r)
    (λ r. absurd (both_ways (above code lowest) (strict o lowest code v w q) r))
    (b.bottleneck plan lowest a.full a.lowest_grade))
    (a.bottleneck other code b.full b.lowest_grade)
  where
    v : valid lowest ≡ true
    v = let h = a.lowest_grade.held in all (h.0 + 1) (get_or plan h.0 0) lowest h.2

    w : valid code ≡ true
    w = let h = b.lowest_grade.held in all (h.0 + 1) (get_or other h.0 0) code h.2

-- two plans of which each is first before the other agree all along
pub agree : (plan other : List ℕ) → length plan ≡ length other → FirstBefore plan other → FirstBefore other plan
    → (n : ℕ) → n ≤ length plan → (k : ℕ) → k < n → get_or plan k 0 ≡ get_or other k 0
agree plan other e f g zero l k h = absurd (omega arith)
agree plan other e f g (suc n) l k h =
    ⊎_elim (here (agree plan other e f g n (omega arith))) (λ d. agree plan other e f g n (omega arith) k (omega arith)) (cases_eq k n)
  where
    here : ((i : ℕ) → i < n → get_or plan i 0 ≡ get_or other i 0) → k ≡ n → get_or plan k 0 ≡ get_or other k 0
    here ih q =
        let a : get_or plan n 0 ≤ get_or other n 0 = f n (omega arith) (λ i x. sym (ih i x)) in
        let b : get_or other n 0 ≤ get_or plan n 0 = g n (omega arith) (λ i x. ih i x) in
        let c : get_or plan n 0 ≡ get_or other n 0 = omega (arith, a, b) in
        ap (λ x. get_or plan x 0) q ∙ c ∙ ap (λ x. get_or other x 0) (sym q)

pub one_best :
    (valid : ℕ → Bool) (above : ℕ → ℕ → Bool) → Order valid above → (G : ℕ → ℕ → Option ℕ) → AllValid valid G
    → (p t : ℕ) (plan other : List ℕ) (lowest code : ℕ)
    → BestPlan above G p t plan lowest → BestPlan above G p t other code → (plan ≡ other) × (lowest ≡ code)
one_best valid above o G all p t plan other lowest code a b =
    let e : lowest ≡ code = same_code valid above o G all p t plan other lowest code a b in
    let l : length plan ≡ length other = a.full.long ∙ sym b.full.long in
    let f : FirstBefore plan other = a.first other b.full (subst (λ (x : ℕ). LowestGrade above G other x) (sym e) b.lowest_grade) in
    let g : FirstBefore other plan = b.first plan a.full (subst (λ (x : ℕ). LowestGrade above G plan x) e a.lowest_grade) in
    (ext_get_or 0 plan other l (agree plan other l f g (length plan) (omega arith)), e)
