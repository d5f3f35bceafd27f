-- Refusals in the words of a page, what a line leaves, and what a history leads to.
use Rattle.std.proofs.Common.{◌≡◌, ℕ, ◌<◌, ◌≤◌, List, Option, sym, refl, ap, ◌∙◌, arith}
use Rattle.pages.proofs.Clear.{Clear, is_first}
use Rattle.pages.proofs.Lengths.{published_long}
use Rattle.pages.specs.Answers.{Right}
use Rattle.pages.specs.Lines.{Opening, Line, Answer, Event, Outcome}
use Rattle.pages.specs.Reasons.{Reason, slip_of}
use Rattle.pages.specs.Standing.{Standing, next}
use Rattle.refusals.specs.Refusals.{number_of}
use Rattle.refusals.specs.declared.refusal.Refusal.{Refusal}
use Rattle.sheet.specs.Sheets.{Stood, LedTo, RanLine, Fits}
use Rattle.sheet.specs.Told.{told}

-- what is asked of a reason with a number below n, at one that has none
pub never : {m n : ℕ} {P : Type 0} → n ≤ m → m < n → P
never h l = absurd (omega (arith, h, l))

-- a line is refused for a reason, and none comes before it
pub kept_off :
    (o : Opening) (s : Standing) (l : Line) (r : Refusal) (slip : Option ℕ) → Reason o s l r → Clear o s l (number_of r)
    → slip ≡ slip_of l.call → Right o s l (told (Outcome.refused r) slip l.plan l.set)
kept_off o s l r slip why clear e =
    Right.refused r refl (is_first o s l r why clear) e (record { plan = refl; set = refl })

-- a sheet is what a line leaves, by way of another that is
pub ran_to :
    (x y z : Stood) (l : Line) (a : Answer) → Right x.opening x.standing l a → y ≡ z → z.opening ≡ x.opening
    → z.standing ≡ next x.opening.packages x.standing l a → RanLine x y l a
ran_to x y z l a right e opened left =
    record {
      right = right;
      opened = ap (λ (w : Stood). w.opening) e ∙ opened;
      left = ap (λ (w : Stood). w.standing) e ∙ left;
    }

-- a published plan fits the sheet that a history led to
pub led_fits : (o : Opening) (h : List Event) (x : Stood) → LedTo o h x → Fits x
led_fits o h x r d e =
    published_long o h r.page d (sym (ap (λ (z : Standing). z.published) r.stands) ∙ e)
    ∙ sym (ap (λ (z : Opening). z.packages) r.opened)
