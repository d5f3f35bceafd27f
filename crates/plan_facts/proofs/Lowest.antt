-- Every full plan has one lowest grade.
use Rattle.std.proofs.Common.{◌≡◌, ℕ, zero, suc, ◌+◌, ◌<◌, ◌≤◌, Bool, true, false, List, get_or, is_some, Some, Option, sym, ap, ◌∙◌, inl, inr, ⊎_elim, arith}
use Rattle.bottleneck.proofs.Lowering.{some_graded}
use Rattle.bottleneck.proofs.Ranks.{compared}
use Rattle.bottleneck.specs.Grades.{AllValid, graded}
use Rattle.grades.proofs.Laws.{exact, not_itself}
use Rattle.grades.specs.Order.{Order}
use Rattle.matching.specs.Plans.{FullPlan, LowestGrade}
use Rattle.plan_facts.specs.Plans.{LowestGradeIsBelowTheOthers, OneLowestGrade, PlansNameTranslators}
use Rattle.std.proofs.lemmas.Bool.{both_ways, cases_Bool, cases_eq}

pub same_some : (x y : ℕ) → Some x ≡ Some y → x ≡ y
same_some x y e = cc

-- a pair has one grade
pub same_grade : (grade : Option ℕ) (x y : ℕ) → grade ≡ Some x → grade ≡ Some y → x ≡ y
same_grade grade x y e f = same_some x y (sym e ∙ f)

-- one of the first n grades is this, and none is below it
pub record LowestOf (above : ℕ → ℕ → Bool) (g : ℕ → Option ℕ) (n code : ℕ) : Type 0 where
  pub held : (k : ℕ) × (k < n) × (g k ≡ Some code)
  pub none_below : (k other : ℕ) → k < n → g k ≡ Some other → above code other ≡ false

module _ (valid : ℕ → Bool) (above : ℕ → ℕ → Bool) (o : Order valid above) (g : ℕ → Option ℕ)
    (all : (k code : ℕ) → g k ≡ Some code → valid code ≡ true)
  where
    -- the grade at place n itself
    itself : (n c d : ℕ) → g n ≡ Some c → g n ≡ Some d → above c d ≡ false
    itself n c d e q =
        ap (above c) (same_some d c (sym q ∙ e)) ∙ not_itself o c (all n c e)

    first_lowest : (c : ℕ) → g 0 ≡ Some c → LowestOf above g 1 c
    first_lowest c e =
        record {
          held = (0, omega arith, e);
          none_below = λ k d l q. itself 0 c d e (ap g (let z : 0 ≡ k = omega arith in z) ∙ q);
        }

    -- one grade more: it is below the lowest of the others, or not
    lower : (n c d : ℕ) → g n ≡ Some c → LowestOf above g n d → above d c ≡ true → LowestOf above g (suc n) c
    lower n c d e h b =
        record {
          held = (n, omega arith, e);
          none_below = λ k x l q.
              ⊎_elim
              (λ z. itself n c x e (ap g (sym z) ∙ q))
              (λ z.
              let w = h.held in
              let f : above d x ≡ false = h.none_below k x (omega arith) q in
              ⊎_elim
              (λ y. absurd (both_ways (above d x) f (o.chain d c x (all w.0 d w.2) (all n c e) (all k x q) b y)))
              (λ y. y)
              (cases_Bool (above c x)))
              (cases_eq k n);
        }

    same : (n c d : ℕ) → g n ≡ Some c → LowestOf above g n d → above d c ≡ false → LowestOf above g (suc n) d
    same n c d e h b =
        let w = h.held in
        record {
          held = (w.0, omega (arith, w.1), w.2);
          none_below = λ k x l q.
              ⊎_elim
              (λ z. ap (above d) (same_some x c (sym q ∙ ap g z ∙ e)) ∙ b)
              (λ z. h.none_below k x (omega arith) q)
              (cases_eq k n);
        }

    pub lowest_of : (n : ℕ) → 1 ≤ n → ((k : ℕ) → k < n → is_some (g k) ≡ true) → (code : ℕ) × LowestOf above g n code
    lowest_of zero l h = absurd (omega arith)
    lowest_of (suc zero) l h = let y = some_graded (g 0) (h 0 (omega arith)) in (y.0, first_lowest y.0 y.1)
    lowest_of (suc (suc n)) l h = more (lowest_of (suc n) (omega arith) (λ k m. h k (omega arith)))
      where
        more : (code : ℕ) × LowestOf above g (suc n) code → (code : ℕ) × LowestOf above g (suc (suc n)) code
        more w =
            let y = some_graded (g (suc n)) (h (suc n) (omega arith)) in
            ⊎_elim
            (λ b. (y.0, lower (suc n) y.0 w.0 y.1 w.1 b))
            (λ b. (w.0, same (suc n) y.0 w.0 y.1 w.1 b))
            (cases_Bool (above w.0 y.0))

pub lowest_grade :
    (valid : ℕ → Bool) (above : ℕ → ℕ → Bool) → Order valid above → (G : ℕ → ℕ → Option ℕ) → AllValid valid G
    → (p t : ℕ) → 1 ≤ p → (plan : List ℕ) → FullPlan (graded G) p t plan → (lowest : ℕ) × LowestGrade above G plan lowest
lowest_grade valid above o G all p t l plan f =
    let long = f.long in
    let w = lowest_of valid above o (λ k. G (k + 1) (get_or plan k 0)) (λ k code e. all (k + 1) (get_or plan k 0) code e) p l f.paired in
    let h = w.1.held in (
      w.0,
      record {
        held = (h.0, omega (arith, h.1, long), h.2);
        none_below = λ k code m e. w.1.none_below k code (omega (arith, m, long)) e;
      },
    )

pub same_lowest :
    (valid : ℕ → Bool) (above : ℕ → ℕ → Bool) → Order valid above → (G : ℕ → ℕ → Option ℕ) → AllValid valid G
    → (plan : List ℕ) (a b : ℕ) → LowestGrade above G plan a → LowestGrade above G plan b → a ≡ b
same_lowest valid above o G all plan a b x y =
    let h = x.held in
    let k = y.held in
    exact o a b (all (h.0 + 1) (get_or plan h.0 0) a h.2) (all (k.0 + 1) (get_or plan k.0 0) b k.2)
    (x.none_below k.0 b k.1 k.2) (y.none_below h.0 a h.1 h.2)

pub one_lowest_grade : OneLowestGrade
one_lowest_grade valid above o G all p t l plan f =
    let w = lowest_grade valid above o G all p t l plan f in
    (w.0, w.1, λ code x. same_lowest valid above o G all plan code w.0 x w.1)

pub below_the_others : LowestGradeIsBelowTheOthers
below_the_others valid above o G all p t plan lowest f x =
    let long = f.long in
    let h = x.held in (
      (h.0, omega (arith, h.1, long), h.2),
      λ k l.
          let y = some_graded (G (k + 1) (get_or plan k 0)) (f.paired k l) in
          let e : above lowest y.0 ≡ false = x.none_below k y.0 (omega (arith, l, long)) y.1 in (
            y.0,
            y.1,
            ⊎_elim
                (λ q. absurd (both_ways (above lowest y.0) e q))
                (λ r. ⊎_elim (λ q. inr q) (λ q. inl (sym q)) r)
                (compared valid above o lowest y.0 (all (h.0 + 1) (get_or plan h.0 0) lowest h.2) (all (k + 1) (get_or plan k 0) y.0 y.1)),
          ),
    )

pub plans_name_translators : PlansNameTranslators
plans_name_translators above G p t plan lowest b =
    (b.full.long, b.full.within, λ k l h g e. let q = b.full.apart k l (omega arith) g e in omega (arith, q, h))
