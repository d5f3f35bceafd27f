-- A history grows by a line that is run.
use Rattle.std.proofs.Common.{◌≡◌, ℕ, List, ◌∷◌, refl, ap, ◌∙◌, subst}
use Rattle.pages.specs.Answers.{Right, Runs, Ran}
use Rattle.pages.specs.Lines.{Opening, Line, Answer, Event}
use Rattle.pages.specs.Standing.{Standing, next, standing}

next_standing :
    (p : ℕ) (h : List Event) (l : Line) (a : Answer)
    → next p (standing p h) l a ≡ standing p (record { line = l; answer = a } ∷ h)
next_standing p h l a = refl

pub ran_more :
    (o q : Opening) (h : List Event) (s : Standing) (l : Line) (a : Answer) (r : Opening) (t : Standing)
    → Ran o h q s → Runs q s l a r t → Ran o (record { line = l; answer = a } ∷ h) r t
ran_more o q h s l a r t x y =
    let e : q ≡ o = x.opened in
    let f : s ≡ standing o.packages h = x.stands in
    record {
      page = (
        subst (λ (z : Opening). Right z (standing o.packages h) l a) e
            (subst (λ (z : Standing). Right q z l a) f y.right),
        x.page,
      );
      opened = y.opened ∙ e;
      stands =
          y.left ∙ ap (λ (z : Opening). next z.packages s l a) e ∙ ap (λ (z : Standing). next o.packages z l a) f
          ∙ next_standing o.packages h l a;
    }
