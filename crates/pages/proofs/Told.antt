-- What each outcome tells.
use Rattle.std.proofs.Common.{◌≡◌, ℕ, Bool, true, ◌⊎◌, List, ◌∷◌, take, Some, None, Option, sym, refl, ap, ◌∙◌, subst, inl, inr, arith}
use Rattle.bottleneck.specs.Grades.{AllValid, counted, graded}
use Rattle.matching.proofs.Rules.{one_best}
use Rattle.matching.specs.Plans.{BestPlan, FullPlan, NoPlan}
use Rattle.pages.proofs.Calls.{ordinal}
use Rattle.pages.proofs.Determined.{one_reason}
use Rattle.pages.proofs.Kept.{standing_grades_are_of_the_kind}
use Rattle.pages.proofs.Off.{lawful}
use Rattle.pages.specs.Answers.{Right, Page, Drawing, Lacking, Showing, Untouched, says_done, valid_only}
use Rattle.pages.specs.Files.{SameForm}
use Rattle.pages.specs.Lines.{Opening, Event, Call, Outcome}
use Rattle.pages.specs.Reasons.{FirstReason, slip_of}
use Rattle.pages.specs.Standing.{Standing, Drawn, standing, grade_at, published_at}
use Rattle.pages.specs.Told.{RefusedForTheFirstReason, DrawnLinesHaveTheBestPlan, ShortLinesHaveNoPlan, DrawnWhereThereIsAPlan, ShowsGiveThePublishedPlan, OtherCallsAreDone, SameGradesSamePlan}
use Rattle.refusals.specs.declared.refusal.Refusal.{Refusal}
use Rattle.std.proofs.lemmas.Bool.{both_ways}

abbrev kind_of : Outcome → ℕ
kind_of Outcome.done = 0
kind_of (Outcome.drawn code) = 1
kind_of Outcome.short = 2
kind_of (Outcome.shown code) = 3
kind_of (Outcome.refused r) = 4

same_refusal : (r q : Refusal) → Outcome.refused r ≡ Outcome.refused q → r ≡ q
same_refusal r q e = cc

same_code : (c d : ℕ) → Outcome.drawn c ≡ Outcome.drawn d → c ≡ d
same_code c d e = cc

-- on a page the codes that stand are valid, so all of them count
all_count : (valid : ℕ → Bool) (x : Option ℕ) → ((code : ℕ) → x ≡ Some code → valid code ≡ true) → counted valid x ≡ x
all_count valid None h = refl
all_count valid (Some code) h = simp (h code refl)

grades_count : (o : Opening) (h : List Event) → Page o h → valid_only o (grade_at h) ≡ grade_at h
grades_count o h a = λ k i j. all_count o.valid (grade_at h i j) (λ code e. ((standing_grades_are_of_the_kind o h a).codes i j code e).0) k

pub refused_for_the_first_reason : RefusedForTheFirstReason
refused_for_the_first_reason o above e r a = (told a.0, asked a.0)
  where
    s : Standing
    s = standing o.packages above

    told :
        Right o s e.line e.answer → e.answer.outcome ≡ Outcome.refused r
        → FirstReason o s e.line r × (e.answer.slip ≡ slip_of e.line.call) × Untouched e.line e.answer
    told (Right.refused q x f t u) y = (subst (FirstReason o s e.line) (same_refusal q r (sym x ∙ y)) f, t, u)
    told (Right.done n c k x t u) y = absurd (omega (arith, ap kind_of (sym x ∙ y)))
    told (Right.drawn n c code x u) y = absurd (omega (arith, ap kind_of (sym x ∙ y)))
    told (Right.short n c x u) y = absurd (omega (arith, ap kind_of (sym x ∙ y)))
    told (Right.shown n c d q x u) y = absurd (omega (arith, ap kind_of (sym x ∙ y)))

    asked : Right o s e.line e.answer → FirstReason o s e.line r → e.answer.outcome ≡ Outcome.refused r
    asked (Right.refused q x f t u) g = x ∙ ap Outcome.refused (one_reason o (lawful o above a.1) s e.line q r f g)
    asked (Right.done n c k x t u) g = absurd (n r g.holds)
    asked (Right.drawn n c code x u) g = absurd (n r g.holds)
    asked (Right.short n c x u) g = absurd (n r g.holds)
    asked (Right.shown n c d q x u) g = absurd (n r g.holds)

pub drawn_lines_have_the_best_plan : DrawnLinesHaveTheBestPlan
drawn_lines_have_the_best_plan o above e code a y = told a.0
  where
    told :
        Right o (standing o.packages above) e.line e.answer
        → (e.line.call ≡ Call.draw) × Drawing o (grade_at above) e.line e.answer code
    told (Right.refused q x f t u) = absurd (omega (arith, ap kind_of (sym x ∙ y)))
    told (Right.done n c k x t u) = absurd (omega (arith, ap kind_of (sym x ∙ y)))
    told (Right.drawn n c d x u) = (
      c,
      subst (λ (g : ℕ → ℕ → Option ℕ). Drawing o g e.line e.answer code) (grades_count o above a.1)
          (subst (λ (z : ℕ). Drawing o (valid_only o (grade_at above)) e.line e.answer z) (same_code d code (sym x ∙ y)) u),
    )
    told (Right.short n c x u) = absurd (omega (arith, ap kind_of (sym x ∙ y)))
    told (Right.shown n c d q x u) = absurd (omega (arith, ap kind_of (sym x ∙ y)))

pub short_lines_have_no_plan : ShortLinesHaveNoPlan
short_lines_have_no_plan o above e a y = told a.0
  where
    told :
        Right o (standing o.packages above) e.line e.answer
        → (e.line.call ≡ Call.draw) × Lacking o (grade_at above) e.line e.answer
    told (Right.refused q x f t u) = absurd (omega (arith, ap kind_of (sym x ∙ y)))
    told (Right.done n c k x t u) = absurd (omega (arith, ap kind_of (sym x ∙ y)))
    told (Right.drawn n c d x u) = absurd (omega (arith, ap kind_of (sym x ∙ y)))
    told (Right.short n c x u) =
        (c, subst (λ (g : ℕ → ℕ → Option ℕ). Lacking o g e.line e.answer) (grades_count o above a.1) u)
    told (Right.shown n c d q x u) = absurd (omega (arith, ap kind_of (sym x ∙ y)))

pub drawn_where_there_is_a_plan : DrawnWhereThereIsAPlan
drawn_where_there_is_a_plan o above e a is free = told a.0
  where
    PlanThere : Type 0
    PlanThere = (plan : List ℕ) × FullPlan (graded (grade_at above)) o.packages o.translators plan

    Either : Type 0
    Either =
        (((code : ℕ) × (e.answer.outcome ≡ Outcome.drawn code)) × PlanThere)
        ⊎ ((e.answer.outcome ≡ Outcome.short) × NoPlan (grade_at above) o.packages o.translators)

    told : Right o (standing o.packages above) e.line e.answer → Either
    told (Right.refused q x f t u) = absurd (free q x)
    told (Right.done n c k x t u) = absurd (both_ways (says_done e.line.call) (ap says_done is) c)
    told (Right.drawn n c d x u) =
        inl ((d, x), (take o.packages e.answer.plan, (drawn_lines_have_the_best_plan o above e d a x).1.best.full))
    told (Right.short n c x u) = inr (x, (short_lines_have_no_plan o above e a x).1.none)
    told (Right.shown n c d q x u) = absurd (omega (arith, ap ordinal (sym is ∙ c)))

pub shows_give_the_published_plan : ShowsGiveThePublishedPlan
shows_give_the_published_plan o above e a is free = told a.0
  where
    told :
        Right o (standing o.packages above) e.line e.answer
        → (d : Drawn) × (published_at o.packages above ≡ Some d) × (e.answer.outcome ≡ Outcome.shown d.lowest)
        × Showing o e.line e.answer d
    told (Right.refused q x f t u) = absurd (free q x)
    told (Right.done n c k x t u) = absurd (both_ways (says_done e.line.call) (ap says_done is) c)
    told (Right.drawn n c d x u) = absurd (omega (arith, ap ordinal (sym is ∙ c)))
    told (Right.short n c x u) = absurd (omega (arith, ap ordinal (sym is ∙ c)))
    told (Right.shown n c d q x u) = (d, q, x, u)

pub other_calls_are_done : OtherCallsAreDone
other_calls_are_done o above e a is free = told a.0
  where
    told :
        Right o (standing o.packages above) e.line e.answer
        → (e.answer.outcome ≡ Outcome.done) × (e.answer.slip ≡ None) × Untouched e.line e.answer
    told (Right.refused q x f t u) = absurd (free q x)
    told (Right.done n c k x t u) = (x, t, u)
    told (Right.drawn n c d x u) = absurd (both_ways (says_done e.line.call) (ap says_done c) is)
    told (Right.short n c x u) = absurd (both_ways (says_done e.line.call) (ap says_done c) is)
    told (Right.shown n c d q x u) = absurd (both_ways (says_done e.line.call) (ap says_done c) is)

-- both drawn
same_drawn :
    (o q : Opening) (above upper : List Event) (e f : Event) (code other : ℕ) → SameForm o q → Page o (e ∷ above)
    → Page q (f ∷ upper) → ((i j : ℕ) → grade_at above i j ≡ grade_at upper i j) → e.answer.outcome ≡ Outcome.drawn code
    → f.answer.outcome ≡ Outcome.drawn other
    → (take o.packages e.answer.plan ≡ take q.packages f.answer.plan) × (code ≡ other)
same_drawn o q above upper e f code other form a b same x y =
    let u = (drawn_lines_have_the_best_plan o above e code a x).1.best in
    let v = (drawn_lines_have_the_best_plan q upper f other b y).1.best in
    let plan = take q.packages f.answer.plan in
    let g : grade_at above ≡ grade_at upper = λ k i j. same i j k in
    let w1 : BestPlan o.above (grade_at upper) q.packages q.translators plan other =
    subst (λ (z : ℕ → ℕ → Bool). BestPlan z (grade_at upper) q.packages q.translators plan other) (sym form.above) v in
    let w2 : BestPlan o.above (grade_at above) q.packages q.translators plan other =
    subst (λ (z : ℕ → ℕ → Option ℕ). BestPlan o.above z q.packages q.translators plan other) (sym g) w1 in
    let w3 : BestPlan o.above (grade_at above) o.packages q.translators plan other =
    subst (λ (z : ℕ). BestPlan o.above (grade_at above) z q.translators plan other) (sym form.packages) w2 in
    let w4 : BestPlan o.above (grade_at above) o.packages o.translators plan other =
    subst (λ (z : ℕ). BestPlan o.above (grade_at above) o.packages z plan other) (sym form.translators) w3 in
    let valid : AllValid o.valid (grade_at above) =
    λ i j c z. ((standing_grades_are_of_the_kind o above a.1).codes i j c z).0 in
    one_best o.valid o.above (lawful o above a.1).order (grade_at above) valid o.packages o.translators
    (take o.packages e.answer.plan) plan code other u w4

-- a full plan on one sheet is one on the other
same_full :
    (o q : Opening) (g h : ℕ → ℕ → Option ℕ) (plan : List ℕ) → SameForm o q → ((i j : ℕ) → g i j ≡ h i j)
    → FullPlan (graded g) o.packages o.translators plan → FullPlan (graded h) q.packages q.translators plan
same_full o q g h plan form same w =
    subst (λ (z : ℕ). FullPlan (graded h) q.packages z plan) form.translators
    (subst (λ (z : ℕ). FullPlan (graded h) z o.translators plan) form.packages
    (subst (λ (z : ℕ → ℕ → Option ℕ). FullPlan (graded z) o.packages o.translators plan) (λ k i j. same i j k) w))

turned : (o q : Opening) → SameForm o q → SameForm q o
turned o q f =
    record {
      number = sym f.number;
      valid = sym f.valid;
      above = sym f.above;
      packages = sym f.packages;
      translators = sym f.translators;
    }

pub same_grades_same_plan : SameGradesSamePlan
same_grades_same_plan o q above upper e f form a b same ce cf fe ff =
    both (drawn_where_there_is_a_plan o above e a ce fe) (drawn_where_there_is_a_plan q upper f b cf ff)
  where
    DrawnThere : Opening → List Event → Event → Type 0
    DrawnThere v h x =
        (((code : ℕ) × (x.answer.outcome ≡ Outcome.drawn code))
        × ((plan : List ℕ) × FullPlan (graded (grade_at h)) v.packages v.translators plan))
        ⊎ ((x.answer.outcome ≡ Outcome.short) × ((plan : List ℕ) → FullPlan (graded (grade_at h)) v.packages v.translators plan → ⊥))

    AlikeDraws : Type 0
    AlikeDraws =
        (e.answer.outcome ≡ f.answer.outcome)
        × ((code : ℕ) → e.answer.outcome ≡ Outcome.drawn code
        → take o.packages e.answer.plan ≡ take q.packages f.answer.plan)

    both : DrawnThere o above e → DrawnThere q upper f → AlikeDraws
    both (inl ((c, x), w)) (inl ((d, y), z)) =
        let r = same_drawn o q above upper e f c d form a b same x y in
        (x ∙ ap Outcome.drawn r.1 ∙ sym y, λ code k. r.0)
    both (inl ((c, x), w)) (inr (y, none)) =
        absurd (none w.0 (same_full o q (grade_at above) (grade_at upper) w.0 form same w.1))
    both (inr (x, none)) (inl ((d, y), z)) =
        absurd (none z.0 (same_full q o (grade_at upper) (grade_at above) z.0 (turned o q form) (λ i j. sym (same i j)) z.1))
    both (inr (x, none)) (inr (y, nil)) = (x ∙ sym y, λ code k. absurd (omega (arith, ap kind_of (sym x ∙ k))))
