-- Sheets of one package.
use Rattle.std.proofs.Common.{◌≡◌, ℕ, zero, suc, ◌+◌, ◌<◌, ◌≤◌, Bool, true, false, ◌⊎◌, List, [], ◌∷◌, get_or, is_some, Some, None, Option, sym, refl, ap, ◌∙◌, inl, inr, ⊎_elim, arith}
use Rattle.augmenting.specs.Counting.{count}
use Rattle.augmenting.specs.Sets.{reached}
use Rattle.bottleneck.specs.Grades.{AllValid, graded, graded_above, passes}
use Rattle.grades.proofs.Laws.{not_itself}
use Rattle.grades.specs.Order.{Order}
use Rattle.matching.proofs.Rules.{no_full_plan, one_best}
use Rattle.matching.specs.Plans.{BestPlan, FirstBefore, FullPlan, LowestGrade, ShortSet, TightSet}
use Rattle.plan_facts.proofs.Counted.{count_all, none_reached}
use Rattle.plan_facts.proofs.Lowest.{same_some}
use Rattle.plan_facts.specs.Single.{HigherGradeIsDrawn, LastTranslatorCounts, UngradedPackageIsShort}
use Rattle.std.proofs.lemmas.Bool.{both_ways, cases_eq}

never_some : (x : ℕ) → None ≡ Some x → ⊥
never_some x e = let z : ◌≡◌ {A = ℕ} 0 1 = cc in omega arith

-- the first place is the only one
only_place : (P : ℕ → Type 0) → P 0 → (k : ℕ) → k < 1 → P k
only_place P h zero l = h
only_place P h (suc k) l = absurd (omega arith)

module _ (valid : ℕ → Bool) (above : ℕ → ℕ → Bool) (o : Order valid above) (G : ℕ → ℕ → Option ℕ) (valids : AllValid valid G)
    (t best code : ℕ) (low : 1 ≤ best) (high : best ≤ t) (is : G 1 best ≡ Some code)
    (others : (j other : ℕ) → 1 ≤ j → j ≤ t → (j ≡ best → ⊥) → G 1 j ≡ Some other → above code other ≡ true)
  where
    right : valid code ≡ true
    right = valids 1 best code is

    full : FullPlan (graded G) 1 t (best ∷ [])
    full =
        record {
          long = refl;
          within = only_place (λ k. (1 ≤ get_or (best ∷ []) k 0) × (get_or (best ∷ []) k 0 ≤ t)) (low, high);
          paired = only_place (λ k. graded G (k + 1) (get_or (best ∷ []) k 0) ≡ true) (ap is_some is);
          apart = λ k l h g e. omega arith;
        }

    lowest : LowestGrade above G (best ∷ []) code
    lowest =
        record {
          held = (0, omega arith, is);
          none_below = λ k c l.
              only_place (λ i. G (i + 1) (get_or (best ∷ []) i 0) ≡ Some c → above code c ≡ false)
              (λ e. ap (above code) (same_some c code (sym e ∙ is)) ∙ not_itself o code right) k (omega (arith, l));
        }

    -- the grade of any plan is this one or one below it
    held : (other : List ℕ) (c : ℕ) → FullPlan (graded G) 1 t other → LowestGrade above G other c → G 1 (get_or other 0 0) ≡ Some c
    held other c f g =
        let h = g.held in
        let long = f.long in
        let z : h.0 ≡ 0 = omega (arith, h.1, long) in
        ap (λ (k : ℕ). G (k + 1) (get_or other k 0)) (sym z) ∙ h.2

    bottleneck :
        (other : List ℕ) (c : ℕ) → FullPlan (graded G) 1 t other → LowestGrade above G other c → (c ≡ code) ⊎ (above code c ≡ true)
    bottleneck other c f g =
        let e : G 1 (get_or other 0 0) ≡ Some c = held other c f g in
        ⊎_elim
        (λ q. inl (same_some c code (sym e ∙ ap (G 1) q ∙ is)))
        (λ d. let w = f.within 0 (omega arith) in inr (others (get_or other 0 0) c w.0 w.1 d e))
        (cases_eq (get_or other 0 0) best)

    first : (other : List ℕ) → FullPlan (graded G) 1 t other → LowestGrade above G other code → FirstBefore (best ∷ []) other
    first other f g k l agree =
        only_place (λ i. get_or (best ∷ []) i 0 ≤ get_or other i 0)
        (let e : G 1 (get_or other 0 0) ≡ Some code = held other code f g in
        ⊎_elim
        (λ q. omega (arith, q))
        (λ d. let w = f.within 0 (omega arith) in absurd (both_ways (above code code) (not_itself o code right) (others (get_or other 0 0) code w.0 w.1 d e)))
        (cases_eq (get_or other 0 0) best))
        k (omega (arith, l))

    pub single_best : BestPlan above G 1 t (best ∷ []) code
    single_best = record { full = full; lowest_grade = lowest; bottleneck = bottleneck; first = first }

pub higher_grade_is_drawn : HigherGradeIsDrawn
higher_grade_is_drawn valid above o G valids t best code low high is others =
    single_best valid above o G valids t best code low high is others

one_member : (S : ℕ → Bool) → S 0 ≡ true → count S 1 ≡ 1
one_member S h = count_all S 1 (only_place (λ k. S k ≡ true) h)

pub ungraded_package_is_short : UngradedPackageIsShort
ungraded_package_is_short G t none = (λ plan f. no_full_plan (graded G) 1 t (λ k. true) (short (λ k. true) refl) plan f, short)
  where
    short : (S : ℕ → Bool) → S 0 ≡ true → ShortSet G 1 t S
    short S h =
        let a = one_member S h in
        let b : count (reached (graded G) 1 S) t ≡ 0 =
        none_reached (graded G) 1 t S
        (λ k j l m. only_place (λ i. graded G (i + 1) (j + 1) ≡ false) (ap is_some (none (j + 1) (omega arith) (omega arith))) k l) in
        omega (arith, a, b)

pub last_translator_counts : LastTranslatorCounts
last_translator_counts valid above o G valids t code some is none =
    let best : BestPlan above G 1 t (t ∷ []) code =
    single_best valid above o G valids t t code some (omega arith) is
    (λ j other l h d e. absurd (never_some other (sym (none j l (omega arith)) ∙ e))) in (
      best,
      λ plan lowest b. one_best valid above o G valids 1 t plan (t ∷ []) lowest code b best,
      tight,
      λ S s. no_full_plan (graded G) 1 t S s (t ∷ []) best.full,
    )
  where
    right : valid code ≡ true
    right = valids 1 t code is

    -- no grade is above the only one
    nothing : (j : ℕ) → 1 ≤ j → j ≤ t → passes (λ c. above c code) (G 1 j) ≡ false
    nothing j l h =
        ⊎_elim
        (λ q. ap (λ (x : ℕ). passes (λ c. above c code) (G 1 x)) q ∙ ap (passes (λ c. above c code)) is ∙ not_itself o code right)
        (λ d. ap (passes (λ c. above c code)) (none j l (omega arith)))
        (cases_eq j t)

    tight : (S : ℕ → Bool) → S 0 ≡ true → TightSet above G 1 t code S
    tight S h =
        let a = one_member S h in
        let b : count (reached (graded_above above G code) 1 S) t ≡ 0 =
        none_reached (graded_above above G code) 1 t S
        (λ k j l m. only_place (λ i. graded_above above G code (i + 1) (j + 1) ≡ false) (nothing (j + 1) (omega arith) (omega arith)) k l) in
        omega (arith, a, b)
