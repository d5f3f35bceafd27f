-- What stands right after a line.
use Rattle.std.proofs.Common.{◌≡◌, ℕ, List, ◌∷◌, is_some as option_is_some, Some, None, Option, refl, ap, ◌∙◌, ⊎_elim}
use Rattle.books.proofs.Standing.{changed_other, changed_same}
use Rattle.file_format.specs.FileOf.{grade_in}
use Rattle.page_facts.proofs.Ways.{Done, done_way, is_some, load_finds_none}
use Rattle.page_facts.specs.Grades.{GradedPairsStand, GradesNothing, LoadedGradesStand, OtherLinesLeaveTheGrades, RegradedPairsStand, StruckPairsAreFree}
use Rattle.pages.specs.Lines.{Event, Call, Outcome}
use Rattle.pages.specs.Reasons.{Reason}
use Rattle.pages.specs.Standing.{first_of, grade_at, grade_by, regraded, standing}
use Rattle.refusals.specs.declared.refusal.Refusal.TheVariants as refusal
use Rattle.std.proofs.lemmas.Bool.{cases_Bool}

pub at_done :
    (above : List Event) (e : Event) (c : Call) → e.line.call ≡ c → e.answer.outcome ≡ Outcome.done
    → (i j : ℕ) → grade_at (e ∷ above) i j ≡ regraded c i j (grade_at above i j)
at_done above e c q x i j =
    ap (λ (u : Outcome). grade_by u e.line.call i j (grade_at above i j)) x
    ∙ ap (λ (d : Call). regraded d i j (grade_at above i j)) q

pub graded_pairs_stand : GradedPairsStand
graded_pairs_stand above e a b code q x = (
  at_done above e (Call.grade a b code) q x a b ∙ changed_same (grade_at above) a b (Some code),
  λ i j n. at_done above e (Call.grade a b code) q x i j ∙ changed_other (grade_at above) a b (Some code) i j n,
)

struck_none : (above : List Event) (e : Event) (a b : ℕ) → e.line.call ≡ Call.strike a b → e.answer.outcome ≡ Outcome.done
    → grade_at (e ∷ above) a b ≡ None
struck_none above e a b q x = at_done above e (Call.strike a b) q x a b ∙ changed_same (grade_at above) a b None

pub struck_pairs_are_free : StruckPairsAreFree
struck_pairs_are_free o above e a b page q x = (
  stood,
  struck_none above e a b q x,
  λ i j n. at_done above e (Call.strike a b) q x i j ∙ changed_other (grade_at above) a b None i j n,
)
  where
    way : Done o (standing o.packages above) e.line
    way = done_way o (standing o.packages above) e.line e.answer page.0 x

    stood : (code : ℕ) × (grade_at above a b ≡ Some code)
    stood =
        is_some (grade_at above a b)
        (⊎_elim (λ h. h) (λ h. absurd (way.free refusal.NothingThere (Reason.no_grade_to_take a b q h))) (cases_Bool (option_is_some (grade_at above a b))))

itself : (x : Option ℕ) → first_of x None ≡ x
itself None = refl
itself (Some c) = refl

pub loaded_grades_stand : LoadedGradesStand
loaded_grades_stand o above e file page q x i j =
    let way = done_way o (standing o.packages above) e.line e.answer page.0 x in
    at_done above e (Call.load file) q x i j
    ∙ ap (first_of (grade_in file i j)) (load_finds_none o (standing o.packages above) e.line file way.free q i j)
    ∙ itself (grade_in file i j)

-- whatever the outcome of a call that grades nothing
keeps : (u : Outcome) (c : Call) (i j : ℕ) (old : Option ℕ) → regraded c i j old ≡ old → grade_by u c i j old ≡ old
keeps Outcome.done c i j old h = h
keeps (Outcome.drawn code) c i j old h = refl
keeps Outcome.short c i j old h = refl
keeps (Outcome.shown code) c i j old h = refl
keeps (Outcome.refused r) c i j old h = refl

by_call :
    (above : List Event) (e : Event) (c : Call) (i j : ℕ) → e.line.call ≡ c → regraded c i j (grade_at above i j) ≡ grade_at above i j
    → grade_at (e ∷ above) i j ≡ grade_at above i j
by_call above e c i j q h =
    ap (λ (d : Call). grade_by e.answer.outcome d i j (grade_at above i j)) q ∙ keeps e.answer.outcome c i j (grade_at above i j) h

pub other_lines_leave_the_grades : OtherLinesLeaveTheGrades
other_lines_leave_the_grades above e (GradesNothing.refused r x) i j =
    ap (λ (u : Outcome). grade_by u e.line.call i j (grade_at above i j)) x
other_lines_leave_the_grades above e (GradesNothing.draw q) i j = by_call above e Call.draw i j q refl
other_lines_leave_the_grades above e (GradesNothing.publish tag q) i j = by_call above e (Call.publish tag) i j q refl
other_lines_leave_the_grades above e (GradesNothing.withdraw tag q) i j = by_call above e (Call.withdraw tag) i j q refl
other_lines_leave_the_grades above e (GradesNothing.show q) i j = by_call above e Call.show i j q refl

pub regraded_pairs_stand : RegradedPairsStand
regraded_pairs_stand above e f a b code q x r y =
    (struck_none above e a b q x, (graded_pairs_stand (e ∷ above) f a b code r y).0)
