-- What lines leave in their buffers.
use Rattle.std.proofs.Common.{◌≡◌, ℕ, ◌+◌, ◌-◌, ◌<◌, ◌≤◌, true, false, List, length, get_or, take, drop, sym, ap, ◌∙◌, inl, inr, ⊎_elim, arith}
use Rattle.bottleneck.proofs.Lowering.{some_graded}
use Rattle.bottleneck.proofs.Ranks.{compared}
use Rattle.bottleneck.specs.Grades.{AllValid}
use Rattle.matching.specs.Plans.{BestPlan}
use Rattle.page_facts.proofs.Ways.{kind_of}
use Rattle.page_facts.specs.Buffers.{DrawnLinesInWords, LaterPlacesNeverChange, SameFrom, ShortLinesInWords, WritesLittle}
use Rattle.pages.proofs.Kept.{standing_grades_are_of_the_kind}
use Rattle.pages.proofs.Lengths.{published_long}
use Rattle.pages.proofs.Off.{lawful}
use Rattle.pages.proofs.Told.{drawn_lines_have_the_best_plan, short_lines_have_no_plan}
use Rattle.pages.specs.Answers.{Drawing, Page, Right}
use Rattle.pages.specs.Lines.{Opening, Event, Outcome}
use Rattle.pages.specs.Reasons.{NoReason, Reason, writes_plan}
use Rattle.pages.specs.Standing.{grade_at, standing}
use Rattle.refusals.specs.declared.refusal.Refusal.TheVariants as refusal
use Rattle.std.proofs.lemmas.List.{get_or-drop, get_or-take, length-drop, length-take}
use Rattle.std.proofs.lemmas.Bool.{both_ways, cases_lt}

same : (p : ℕ) (x y : List ℕ) → y ≡ x → SameFrom p x y
same p x y e = record { long = ap length e; rest = λ k l. ap (λ (z : List ℕ). get_or z k 0) e }

from_drop : (p : ℕ) (x y : List ℕ) → length y ≡ length x → drop p y ≡ drop p x → SameFrom p x y
from_drop p x y l e =
    record {
      long = l;
      rest = λ k h.
          let q : p + (k - p) ≡ k = omega arith in
          ap (λ (n : ℕ). get_or y n 0) (sym q) ∙ sym (get_or-drop p y (k - p) 0) ∙ ap (λ (z : List ℕ). get_or z (k - p) 0) e
          ∙ get_or-drop p x (k - p) 0 ∙ ap (λ (n : ℕ). get_or x n 0) q;
    }

-- both have p places
long_both : (p : ℕ) (x y : List ℕ) → p ≤ length x → length (take p y) ≡ p → drop p y ≡ drop p x → length y ≡ length x
long_both p x y h t e =
    let a = length-drop p x in
    let b = length-drop p y in
    let c = ap length e in
    let d = length-take p y in
    omega (arith, a, b, c, d, h, t)

module _ (o : Opening) (above : List Event) (e : Event) where
  room : NoReason o (standing o.packages above) e.line → writes_plan e.line.call ≡ true → o.packages ≤ length e.line.plan
  room n w =
      ⊎_elim (λ l. absurd (n refusal.Space (Reason.plan_buffer_short w l))) (λ l. l) (cases_lt (length e.line.plan) o.packages)

  by_way :
      Page o above → Right o (standing o.packages above) e.line e.answer
      → SameFrom o.packages e.line.plan e.answer.plan × SameFrom o.packages e.line.set e.answer.set
  by_way a (Right.refused r x f t u) =
      (same o.packages e.line.plan e.answer.plan u.plan, same o.packages e.line.set e.answer.set u.set)
  by_way a (Right.done n c k x t u) =
      (same o.packages e.line.plan e.answer.plan u.plan, same o.packages e.line.set e.answer.set u.set)
  by_way a (Right.drawn n c code x u) = (
    from_drop o.packages e.line.plan e.answer.plan
        (long_both o.packages e.line.plan e.answer.plan (room n (ap writes_plan c)) u.best.full.long u.plan_rest) u.plan_rest,
    from_drop o.packages e.line.set e.answer.set u.marks.long u.marks.rest,
  )
  by_way a (Right.short n c x u) = (
    same o.packages e.line.plan e.answer.plan u.plan,
    from_drop o.packages e.line.set e.answer.set u.marks.long u.marks.rest,
  )
  by_way a (Right.shown n c d q x u) = (
    from_drop o.packages e.line.plan e.answer.plan
        (long_both o.packages e.line.plan e.answer.plan (room n (ap writes_plan c)) (ap length u.plan ∙ published_long o above a d q) u.plan_rest) u.plan_rest,
    same o.packages e.line.set e.answer.set u.set,
  )

pub later_places_never_change : LaterPlacesNeverChange
later_places_never_change o above e page = by_way o above e page.1 page.0

module _ (o : Opening) (above : List Event) (e : Event) where
  by_refused :
      (r : _) → Right o (standing o.packages above) e.line e.answer → e.answer.outcome ≡ Outcome.refused r
      → (e.answer.plan ≡ e.line.plan) × (e.answer.set ≡ e.line.set)
  by_refused r (Right.refused q x f t u) y = (u.plan, u.set)
  by_refused r (Right.done n c k x t u) y = (u.plan, u.set)
  by_refused r (Right.drawn n c code x u) y = absurd (omega (arith, ap kind_of (sym x ∙ y)))
  by_refused r (Right.short n c x u) y = absurd (omega (arith, ap kind_of (sym x ∙ y)))
  by_refused r (Right.shown n c d q x u) y = absurd (omega (arith, ap kind_of (sym x ∙ y)))

  by_done :
      Right o (standing o.packages above) e.line e.answer → e.answer.outcome ≡ Outcome.done
      → (e.answer.plan ≡ e.line.plan) × (e.answer.set ≡ e.line.set)
  by_done (Right.refused q x f t u) y = (u.plan, u.set)
  by_done (Right.done n c k x t u) y = (u.plan, u.set)
  by_done (Right.drawn n c code x u) y = absurd (omega (arith, ap kind_of (sym x ∙ y)))
  by_done (Right.short n c x u) y = absurd (omega (arith, ap kind_of (sym x ∙ y)))
  by_done (Right.shown n c d q x u) y = absurd (omega (arith, ap kind_of (sym x ∙ y)))

  by_short : Right o (standing o.packages above) e.line e.answer → e.answer.outcome ≡ Outcome.short → e.answer.plan ≡ e.line.plan
  by_short (Right.refused q x f t u) y = u.plan
  by_short (Right.done n c k x t u) y = u.plan
  by_short (Right.drawn n c code x u) y = absurd (omega (arith, ap kind_of (sym x ∙ y)))
  by_short (Right.short n c x u) y = u.plan
  by_short (Right.shown n c d q x u) y = absurd (omega (arith, ap kind_of (sym x ∙ y)))

  by_shown :
      (code : ℕ) → Right o (standing o.packages above) e.line e.answer → e.answer.outcome ≡ Outcome.shown code
      → e.answer.set ≡ e.line.set
  by_shown code (Right.refused q x f t u) y = u.set
  by_shown code (Right.done n c k x t u) y = u.set
  by_shown code (Right.drawn n c d x u) y = absurd (omega (arith, ap kind_of (sym x ∙ y)))
  by_shown code (Right.short n c x u) y = absurd (omega (arith, ap kind_of (sym x ∙ y)))
  by_shown code (Right.shown n c d q x u) y = u.set

pub writes_little : WritesLittle
writes_little =
    record {
      refused = λ o above e r page y. by_refused o above e r page.0 y;
      done = λ o above e page y. by_done o above e page.0 y;
      short = λ o above e page y. by_short o above e page.0 y;
      shown = λ o above e code page y. by_shown o above e code page.0 y;
    }

pub drawn_lines_in_words : DrawnLinesInWords
drawn_lines_in_words o above e code page y =
    record {
      numbers = λ k l. let w = best.full.within k l in let q = at k l in (omega (arith, w.0, q), omega (arith, w.1, q));
      apart = λ k l h g z.
          let n = best.full.apart k l (omega arith) g (at k (omega arith) ∙ z ∙ sym (at l g)) in
          omega (arith, n, h);
      graded_so = λ k l.
          let w = some_graded (grade_at above (k + 1) (get_or first k 0)) (best.full.paired k l) in
          let n : o.above code w.0 ≡ false = best.lowest_grade.none_below k w.0 (let z = best.full.long in omega (arith, z, l)) w.1 in (
            w.0,
            ap (grade_at above (k + 1)) (sym (at k l)) ∙ w.1,
            ⊎_elim
                (λ q. absurd (both_ways (o.above code w.0) n q))
                (λ r. ⊎_elim (λ q. inr q) (λ q. inl (sym q)) r)
                (compared o.valid o.above (lawful o above page.1).order code w.0 right (all (k + 1) (get_or first k 0) w.0 w.1)),
          );
      lowest =
          let h = best.lowest_grade.held in
          let z = best.full.long in
          let l : h.0 < o.packages = omega (arith, z, h.1) in
          (h.0, l, ap (grade_at above (h.0 + 1)) (sym (at h.0 l)) ∙ h.2);
      bytes = told.marks.exact;
      tight = told.tight;
    }
  where
    first : List ℕ
    first = take o.packages e.answer.plan

    told : Drawing o (grade_at above) e.line e.answer code
    told = (drawn_lines_have_the_best_plan o above e code page y).1

    best : BestPlan o.above (grade_at above) o.packages o.translators (take o.packages e.answer.plan) code
    best = told.best

    at : (k : ℕ) → k < o.packages → get_or (take o.packages e.answer.plan) k 0 ≡ get_or e.answer.plan k 0
    at k l = get_or-take o.packages e.answer.plan k 0 l

    all : AllValid o.valid (grade_at above)
    all i j c q = ((standing_grades_are_of_the_kind o above page.1).codes i j c q).0

    right : o.valid code ≡ true
    right = let h = best.lowest_grade.held in all (h.0 + 1) (get_or (take o.packages e.answer.plan) h.0 0) code h.2

pub short_lines_in_words : ShortLinesInWords
short_lines_in_words o above e page y =
    let w = (short_lines_have_no_plan o above e page y).1 in
    (w.marks.exact, w.short)
