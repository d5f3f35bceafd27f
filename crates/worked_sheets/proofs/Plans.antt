-- Tests of plans: full, lowest grade, first, and best among all plans.
use Rattle.std.proofs.Common.{◌≡◌, ℕ, ◌+◌, ◌<◌, Bool, true, false, not, ◌&&◌, ◌||◌, eqb, leb, ◌⊎◌, List, length, get_or, Some, None, Option, sym, refl, ap, ◌∙◌, subst, inl, inr, ⊎_elim, arith}
use Rattle.augmenting.proofs.Counts.{any_from, from_any}
use Rattle.augmenting.specs.Counting.{any}
use Rattle.bottleneck.specs.Grades.{graded, passes}
use Rattle.matching.proofs.Rules.{agree}
use Rattle.matching.specs.Plans.{BestPlan, FirstBefore, FullPlan, LowestGrade, NoPlan}
use Rattle.std.proofs.lemmas.List.{ext_get_or}
use Rattle.std.proofs.lemmas.Bool.{and_from, and_parts, both_ways, cases_eq, eq-eqb, eqb-true, le-leb, leb-true, ne_eqb, not_from_false, not-true, or_cases, or_left, or_right}
use Rattle.worked_sheets.proofs.Ranges.{all_below, below_all, below?, implied, implies?, plans_all, plans?}
use Rattle.worked_sheets.specs.Right.{TheBest}

-- full plans
module _ (C : ℕ → ℕ → Bool) (p t : ℕ) (plan : List ℕ) where
  abbrev right_at? : ℕ → Bool
  right_at? k = (leb 1 (get_or plan k 0) && leb (get_or plan k 0) t) && C (k + 1) (get_or plan k 0)

  abbrev apart_at? : ℕ → ℕ → Bool
  apart_at? k l = eqb k l || not (eqb (get_or plan k 0) (get_or plan l 0))

  unfoldable pub full? : Bool
  full? = eqb (length plan) p && (below? right_at? p && below? (λ k. below? (apart_at? k) p) p)

  pub full_from : full? ≡ true → FullPlan C p t plan
  unfolding full?
  full_from e =
      record {
        long = eqb-true (length plan) p a.0;
        within = λ k l.
            let y = and_parts (leb 1 (get_or plan k 0)) (leb (get_or plan k 0) t) (at k l).0 in
            (leb-true 1 (get_or plan k 0) y.0, leb-true (get_or plan k 0) t y.1);
        paired = λ k l. (at k l).1;
        apart = λ k l h g q.
            ⊎_elim
            (λ r. eqb-true k l r)
            (λ r. absurd (both_ways (eqb (get_or plan k 0) (get_or plan l 0)) (not-true (eqb (get_or plan k 0) (get_or plan l 0)) r) (eq-eqb (get_or plan k 0) (get_or plan l 0) q)))
            (or_cases (eqb k l) (not (eqb (get_or plan k 0) (get_or plan l 0))) (below_all (apart_at? k) p (below_all (λ i. below? (apart_at? i) p) p b.1 k h) l g));
      }
    where
      a : (eqb (length plan) p ≡ true) × ((below? right_at? p && below? (λ k. below? (apart_at? k) p) p) ≡ true)
      a = and_parts (eqb (length plan) p) (below? right_at? p && below? (λ k. below? (apart_at? k) p) p) e

      b : (below? right_at? p ≡ true) × (below? (λ k. below? (apart_at? k) p) p ≡ true)
      b = and_parts (below? right_at? p) (below? (λ k. below? (apart_at? k) p) p) a.1

      at : (k : ℕ) → k < p → ((leb 1 (get_or plan k 0) && leb (get_or plan k 0) t) ≡ true) × (C (k + 1) (get_or plan k 0) ≡ true)
      at k l = and_parts (leb 1 (get_or plan k 0) && leb (get_or plan k 0) t) (C (k + 1) (get_or plan k 0)) (below_all right_at? p b.0 k l)

  pub from_full : FullPlan C p t plan → full? ≡ true
  unfolding full?
  from_full f =
      and_from (eqb (length plan) p) (below? right_at? p && below? (λ k. below? (apart_at? k) p) p)
      (eq-eqb (length plan) p f.long)
      (and_from (below? right_at? p) (below? (λ k. below? (apart_at? k) p) p)
      (all_below right_at? p (λ k l.
      let w = f.within k l in
      and_from (leb 1 (get_or plan k 0) && leb (get_or plan k 0) t) (C (k + 1) (get_or plan k 0))
      (and_from (leb 1 (get_or plan k 0)) (leb (get_or plan k 0) t) (le-leb 1 (get_or plan k 0) w.0) (le-leb (get_or plan k 0) t w.1))
      (f.paired k l)))
      (all_below (λ k. below? (apart_at? k) p) p (λ k h. all_below (apart_at? k) p (λ l g. two k l h g))))
    where
      two : (k l : ℕ) → k < p → l < p → apart_at? k l ≡ true
      two k l h g =
          ⊎_elim
          (λ q. or_left (eqb k l) (not (eqb (get_or plan k 0) (get_or plan l 0))) (eq-eqb k l q))
          (λ d.
          or_right (eqb k l) (not (eqb (get_or plan k 0) (get_or plan l 0)))
          (not_from_false (eqb (get_or plan k 0) (get_or plan l 0)) (ne_eqb (get_or plan k 0) (get_or plan l 0) (λ q. d (f.apart k l h g q)))))
          (cases_eq k l)

-- a grade passes a test, or there is none
abbrev pub passes_if : (ℕ → Bool) → Option ℕ → Bool
passes_if f None = true
passes_if f (Some code) = f code

is_code : (g : Option ℕ) (code : ℕ) → passes (λ c. eqb c code) g ≡ true → g ≡ Some code
is_code None code e = absurd (both_ways false refl e)
is_code (Some c) code e = ap Some (eqb-true c code e)

all_codes : (f : ℕ → Bool) (g : Option ℕ) → ((code : ℕ) → g ≡ Some code → f code ≡ true) → passes_if f g ≡ true
all_codes f None h = refl
all_codes f (Some c) h = h c refl

module _ (above : ℕ → ℕ → Bool) (G : ℕ → ℕ → Option ℕ) where
  -- lowest grades
  module _ (plan : List ℕ) (lowest : ℕ) where
    abbrev held? : ℕ → Bool
    held? k = passes (λ c. eqb c lowest) (G (k + 1) (get_or plan k 0))

    abbrev not_below? : ℕ → Bool
    not_below? k = passes_if (λ c. not (above lowest c)) (G (k + 1) (get_or plan k 0))

    unfoldable pub lowest? : Bool
    lowest? = any held? (length plan) && below? not_below? (length plan)

    pub lowest_from : lowest? ≡ true → LowestGrade above G plan lowest
    unfolding lowest?
    lowest_from e =
        let a = and_parts (any held? (length plan)) (below? not_below? (length plan)) e in
        let h = from_any held? (length plan) a.0 in
        record {
          held = (h.0, h.1, is_code (G (h.0 + 1) (get_or plan h.0 0)) lowest h.2);
          none_below = λ k code l q.
              not-true (above lowest code) (sym (ap (passes_if (λ c. not (above lowest c))) q) ∙ below_all not_below? (length plan) a.1 k l);
        }

    pub from_lowest : LowestGrade above G plan lowest → lowest? ≡ true
    unfolding lowest?
    from_lowest g =
        let h = g.held in
        and_from (any held? (length plan)) (below? not_below? (length plan))
        (any_from held? (length plan) h.0 h.1 (ap (passes (λ c. eqb c lowest)) h.2 ∙ eq-eqb lowest lowest refl))
        (all_below not_below? (length plan) (λ k l.
        all_codes (λ c. not (above lowest c)) (G (k + 1) (get_or plan k 0))
        (λ code q. not_from_false (above lowest code) (g.none_below k code l q))))

  -- another plan with a lowest grade that is lower, or the same where this plan is the first
  module _ (plan : List ℕ) (lowest : ℕ) (other : List ℕ) where
    abbrev first_at? : ℕ → Bool
    first_at? k = implies? (below? (λ l. eqb (get_or other l 0) (get_or plan l 0)) k) (leb (get_or plan k 0) (get_or other k 0))

    unfoldable pub first? : Bool
    first? = below? first_at? (length plan)

    pub first_from : first? ≡ true → FirstBefore plan other
    unfolding first?
    first_from e k l h =
        leb-true (get_or plan k 0) (get_or other k 0)
        (implied (below? (λ i. eqb (get_or other i 0) (get_or plan i 0)) k) (leb (get_or plan k 0) (get_or other k 0))
        (below_all first_at? (length plan) e k l)
        (all_below (λ i. eqb (get_or other i 0) (get_or plan i 0)) k (λ i g. eq-eqb (get_or other i 0) (get_or plan i 0) (h i g))))

    unfoldable pub lower? : ℕ → Bool
    lower? code = (eqb code lowest && first?) || (above lowest code && not (above code lowest))

    abbrev beaten_at? : ℕ → Bool
    beaten_at? k = passes_if (λ code. implies? (lowest? other code) (lower? code)) (G (k + 1) (get_or other k 0))

    unfoldable pub beaten? : Bool
    beaten? = below? beaten_at? (length other)

    abbrev pub Beaten : ℕ → Type 0
    Beaten code = ((code ≡ lowest) × FirstBefore plan other) ⊎ ((above lowest code ≡ true) × (above code lowest ≡ false))

    pub beaten_from : beaten? ≡ true → (code : ℕ) → LowestGrade above G other code → Beaten code
    unfolding beaten? lower?
    beaten_from e code g =
        let h = g.held in
        let a : implies? (lowest? other code) (lower? code) ≡ true =
        sym (ap (passes_if (λ c. implies? (lowest? other c) (lower? c))) h.2) ∙ below_all beaten_at? (length other) e h.0 h.1 in
        let b : lower? code ≡ true = implied (lowest? other code) (lower? code) a (from_lowest other code g) in
        ⊎_elim
        (λ q. let y = and_parts (eqb code lowest) first? q in inl (eqb-true code lowest y.0, first_from y.1))
        (λ q. let y = and_parts (above lowest code) (not (above code lowest)) q in inr (y.0, not-true (above code lowest) y.1))
        (or_cases (eqb code lowest && first?) (above lowest code && not (above code lowest)) b)

  -- the best plan
  module _ (p t : ℕ) where
    abbrev rival? : List ℕ → ℕ → List ℕ → Bool
    rival? plan lowest other = implies? (full? (graded G) p t other) (beaten? plan lowest other)

    unfoldable pub best? : List ℕ → ℕ → Bool
    best? plan lowest = full? (graded G) p t plan && (lowest? plan lowest && plans? (rival? plan lowest) p t)

    rivals :
        (plan : List ℕ) (lowest : ℕ) → plans? (rival? plan lowest) p t ≡ true → (other : List ℕ) (code : ℕ)
        → FullPlan (graded G) p t other → LowestGrade above G other code → Beaten plan lowest other code
    rivals plan lowest e other code f g =
        beaten_from plan lowest other
        (implied (full? (graded G) p t other) (beaten? plan lowest other)
        (plans_all (rival? plan lowest) p t e other f.long f.within) (from_full (graded G) p t other f))
        code g

    pub best_from : (plan : List ℕ) (lowest : ℕ) → best? plan lowest ≡ true → TheBest above G p t plan lowest
    unfolding best?
    best_from plan lowest e = record { best = best; only = only }
      where
        a : (full? (graded G) p t plan ≡ true) × ((lowest? plan lowest && plans? (rival? plan lowest) p t) ≡ true)
        a = and_parts (full? (graded G) p t plan) (lowest? plan lowest && plans? (rival? plan lowest) p t) e

        b : (lowest? plan lowest ≡ true) × (plans? (rival? plan lowest) p t ≡ true)
        b = and_parts (lowest? plan lowest) (plans? (rival? plan lowest) p t) a.1

        beats :
            (other : List ℕ) (code : ℕ) → FullPlan (graded G) p t other → LowestGrade above G other code
            → Beaten plan lowest other code
        beats = rivals plan lowest b.1

        best : BestPlan above G p t plan lowest
        best =
            record {
              full = full_from (graded G) p t plan a.0;
              lowest_grade = lowest_from plan lowest b.0;
              bottleneck = λ other code f g. ⊎_elim (λ y. inl y.0) (λ y. inr y.0) (beats other code f g);
              first = λ other f g.
                  ⊎_elim (λ y. y.1) (λ y. absurd (both_ways (above lowest lowest) y.1 y.0)) (beats other lowest f g);
            }

        same : (other : List ℕ) (code : ℕ) → BestPlan above G p t other code → code ≡ lowest → FirstBefore plan other → other ≡ plan
        same other code o q f =
            let l : length other ≡ length plan = o.full.long ∙ sym best.full.long in
            let g : FirstBefore other plan =
            o.first plan best.full (subst (λ (x : ℕ). LowestGrade above G plan x) (sym q) best.lowest_grade) in
            ext_get_or 0 other plan l (agree other plan l g f (length other) (omega arith))

        only : (other : List ℕ) (code : ℕ) → BestPlan above G p t other code → (other ≡ plan) × (code ≡ lowest)
        only other code o =
            ⊎_elim
            (λ y. (same other code o y.0 y.1, y.0))
            (λ y.
            ⊎_elim
            (λ q. absurd (both_ways (above lowest code) (ap (λ x. above x code) q ∙ ap (above code) (sym q) ∙ y.1) y.0))
            (λ q. absurd (both_ways (above code lowest) y.1 q))
            (o.bottleneck plan lowest best.full best.lowest_grade))
            (beats other code o.full o.lowest_grade)

  -- no plan
  module _ (p t : ℕ) where
    unfoldable pub none? : Bool
    none? = plans? (λ plan. not (full? (graded G) p t plan)) p t

    pub none_from : none? ≡ true → NoPlan G p t
    unfolding none?
    none_from e plan f =
        both_ways (full? (graded G) p t plan)
        (not-true (full? (graded G) p t plan) (plans_all (λ x. not (full? (graded G) p t x)) p t e plan f.long f.within))
        (from_full (graded G) p t plan f)
