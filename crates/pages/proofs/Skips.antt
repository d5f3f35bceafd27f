-- A refused line leaves all that stands as it was.
use Rattle.std.proofs.Common.{◌≡◌, ℕ, List, [], ◌∷◌, ◌++◌, Option, ap, ◌∙◌, subst}
use Rattle.pages.specs.Answers.{Right, Page}
use Rattle.pages.specs.Lines.{Opening, Event, Outcome}
use Rattle.pages.specs.Standing.{Standing, Drawn, grade_by, grade_at, out_by, out_at, published_by, published_at, standing}
use Rattle.refusals.specs.declared.refusal.Refusal.{Refusal}

module _ (e : Event) (r : Refusal) (is : e.answer.outcome ≡ Outcome.refused r) (above : List Event) where
  grade_skip : (below : List Event) (i j : ℕ) → grade_at (below ++ e ∷ above) i j ≡ grade_at (below ++ above) i j
  grade_skip [] i j = ap (λ (u : Outcome). grade_by u e.line.call i j (grade_at above i j)) is
  grade_skip (f ∷ below) i j =
      ap (λ (old : Option ℕ). grade_by f.answer.outcome f.line.call i j old) (grade_skip below i j)

  out_skip : (p : ℕ) (below : List Event) → out_at p (below ++ e ∷ above) ≡ out_at p (below ++ above)
  out_skip p [] = ap (λ (u : Outcome). out_by p u e.line.call e.answer.plan (out_at p above)) is
  out_skip p (f ∷ below) =
      ap (λ (old : Option Drawn). out_by p f.answer.outcome f.line.call f.answer.plan old) (out_skip p below)

  published_skip : (p : ℕ) (below : List Event) → published_at p (below ++ e ∷ above) ≡ published_at p (below ++ above)
  published_skip p [] =
      ap (λ (u : Outcome). published_by u e.line.call (out_at p above) (published_at p above)) is
  published_skip p (f ∷ below) =
      ap (λ (out : Option Drawn). published_by f.answer.outcome f.line.call out (published_at p (below ++ e ∷ above))) (out_skip p below)
      ∙ ap (λ (old : Option Drawn). published_by f.answer.outcome f.line.call (out_at p (below ++ above)) old) (published_skip p below)

  pub standing_skip : (p : ℕ) (below : List Event) → standing p (below ++ e ∷ above) ≡ standing p (below ++ above)
  standing_skip p below = λ k. record {
    grade = λ i j. grade_skip below i j k;
    out = out_skip p below k;
    published = published_skip p below k;
  }

  pub page_skip : (o : Opening) (below : List Event) → Page o (below ++ e ∷ above) → Page o (below ++ above)
  page_skip o [] q = q.1
  page_skip o (f ∷ below) q = (
    subst (λ (s : Standing). Right o s f.line f.answer) (standing_skip o.packages below) q.0,
    page_skip o below q.1,
  )
