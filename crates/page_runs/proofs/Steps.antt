-- One command run on the sheet leaves a sheet on which the history has grown by it.
use Rattle.std.proofs.Common.{◌≡◌, ℕ, Bool, true, false, not, ◌&&◌, List, ◌∷◌, ◌++◌, is_some, length, take, arith, IfOk, Some, None, Option, Result, sym, refl, ap, ◌∙◌, subst}
use Rattle.grades.specs.declared.points.Points.{Points}
use Rattle.page_runs.proofs.Carry.{Held, carried, closing}
use Rattle.page_runs.specs.Asks.{opening_with, asks, line_for, told_as, event}
use Rattle.page_runs.specs.Live.{opening_at, standing_at, tag_in, Live, NoCall, Closed}
use Rattle.page_runs.specs.Output.{Tells}
use Rattle.page_runs.specs.Slips.{slip_for, Gives}
use Rattle.page_text.specs.Commands.{Said}
use Rattle.page_text.specs.Replies.{Told, line_of}
use Rattle.pages.proofs.Calls.{never_some}
use Rattle.pages.specs.Answers.{Page, Ran}
use Rattle.pages.specs.Lines.{Opening, Line, Answer, Event, Call, Outcome}
use Rattle.pages.specs.Reasons.{slip_of}
use Rattle.pages.specs.Standing.{Drawn, first_of, out_at}
use Rattle.sheet.specs.declared.sheet.Sheet.{Sheet}
use Rattle.sheet.specs.declared.slip.Slip.{Slip}
use Rattle.std.proofs.lemmas.List.{take_all}
use Rattle.table_book.specs.declared.table_book.TableBook.{TableBook}

some_tags : (s : Option Slip) → is_some (tag_in s) ≡ is_some s
some_tags None = refl
some_tags (Some s) = refl

lacks_none :
    (given held kept : Option ℕ) (out : Option Drawn) → Gives given held kept → held ≡ slip_for out
    → (is_some given && not (is_some out)) ≡ false
lacks_none None held kept out g e = refl
lacks_none (Some tag) held kept None g e = absurd (never_some tag (sym e ∙ g.0))
lacks_none (Some tag) held kept (Some d) g e = refl

module _ (p t : ℕ) (h : List Event) (s after : Sheet TableBook Points) (held kept : Option Slip) (l : Line) (a : Answer)
    (live : Live p t h s held) (gives : Gives (slip_of l.call) (tag_in held) (tag_in kept))
    (ran : (o : Opening) (h : List Event) → Ran o h (opening_at s) (standing_at s) → Ran o (event l a ∷ h) (opening_at after) (standing_at after))
  where
    whole : Ran (opening_with p t) (event l a ∷ h) (opening_at after) (standing_at after)
    whole = ran (opening_with p t) h live.ran

    holds : Held (tag_in kept) a.slip (out_at p (event l a ∷ h))
    holds = carried p t h l a (tag_in held) (tag_in kept) whole.page gives live.slip

    -- what is kept and what is handed out are not both a slip
    pub once : (handed : Option Slip) → a.slip ≡ tag_in handed → (is_some kept && is_some handed) ≡ false
    once handed e =
        (λ i. sym (some_tags kept) i && (sym (some_tags handed) ∙ ap is_some (sym e)) i) ∙ holds.once

    pub lives : (now : Option Slip) → tag_in now ≡ first_of (tag_in kept) a.slip → Live p t (event l a ∷ h) after now
    lives now e = record { ran = whole; slip = e ∙ holds.is_out }

    pub tells :
        (c : Said) → line_for c ≡ Some l → Tells (opening_with p t) h c (told_as p a.outcome a.plan) (event l a ∷ h)
    tells c e =
        Tells.called l a e (lacks_none (slip_of l.call) (tag_in held) (tag_in kept) (out_at p h) gives live.slip) whole.page
        refl refl

-- a command that needs a slip while none is held
pub lacks :
    (p t : ℕ) (h : List Event) (s : Sheet TableBook Points) (held : Option Slip) (c : Said) (l : Line) → Live p t h s held
    → held ≡ None → line_for c ≡ Some l → is_some (slip_of l.call) ≡ true
    → Tells (opening_with p t) h c Told.no_slip h
lacks p t h s held c l live none e w =
    Tells.no_slip l e (both_hold (is_some (slip_of l.call)) (out_at p h) w (sym live.slip ∙ ap tag_in none)) refl refl
  where
    both_hold : (b : Bool) (out : Option Drawn) → b ≡ true → slip_for out ≡ None → (b && not (is_some out)) ≡ true
    both_hold true None q r = refl
    both_hold true (Some d) q r = absurd (never_some 1 (sym r))
    both_hold false out q r = q

-- a command that is not called leaves all as it was
pub not_called :
    (p t : ℕ) (h : List Event) (s : Sheet TableBook Points) (held kept : Option Slip) (c : Said) (told : Told) → Live p t h s held
    → NoCall c held told kept → Live p t h s kept × Tells (opening_with p t) h c told h
not_called p t h s held kept c told live (NoCall.bad_line a b d) =
    (subst (Live p t h s) (sym d) live, Tells.bad_line a b refl)
not_called p t h s held kept c told live (NoCall.no_slip l a b d e f) = (
  subst (Live p t h s) (e ∙ sym f) live,
  subst (λ (x : Told). Tells (opening_with p t) h c x h) (sym d) (lacks p t h s held c l live e a b),
)

some_out : (out : Option Drawn) (tag : ℕ) → slip_for out ≡ Some tag → is_some out ≡ true
some_out None tag e = absurd (never_some tag e)
some_out (Some d) tag e = refl

own_tag : (out : Option Drawn) (tag : ℕ) → slip_for out ≡ Some tag → tag ≡ 1
own_tag None tag e = absurd (never_some tag e)
own_tag (Some d) tag e = cc

pub told_at :
    {E : Type 0} (r : Result (Unit {0}) E) (before after : List ℕ) (x y : Told) → x ≡ y
    → IfOk r (λ (_ : Unit {0}). after ≡ before ++ line_of x) → IfOk r (λ (_ : Unit {0}). after ≡ before ++ line_of y)
told_at {E} r before after x y e m = subst (λ (z : Told). IfOk r (λ (_ : Unit {0}). after ≡ before ++ line_of z)) e m

-- what is told of the first p places of a plan buffer alone
pub told_cut : (p : ℕ) (o : Outcome) (plan : List ℕ) → told_as (length (take p plan)) o (take p plan) ≡ told_as p o plan
told_cut p Outcome.done plan = refl
told_cut p (Outcome.drawn code) plan = ap (Told.drawn code) (take_all (length (take p plan)) (take p plan) (omega arith))
told_cut p Outcome.short plan = refl
told_cut p (Outcome.shown code) plan = ap (Told.shown code) (take_all (length (take p plan)) (take p plan) (omega arith))
told_cut p (Outcome.refused r) plan = refl

-- the withdraw at the end
module _ (p t : ℕ) (h : List Event) (s after : Sheet TableBook Points) (held : Option Slip) (slip : Slip) (l : Line) (a : Answer)
    (live : Live p t h s held) (is : held ≡ Some slip) (asked : l ≡ asks 3 (Call.withdraw slip.tag))
    (ran : (o : Opening) (h : List Event) → Ran o h (opening_at s) (standing_at s) → Ran o (event l a ∷ h) (opening_at after) (standing_at after))
  where
    tagged : slip_for (out_at p h) ≡ Some slip.tag
    tagged = sym live.slip ∙ ap tag_in is

    page : Page (opening_with p t) (event (asks 3 (Call.withdraw 1)) a ∷ h)
    page =
        subst (λ (z : Line). Page (opening_with p t) (event z a ∷ h))
        (asked ∙ ap (λ (n : ℕ). asks 3 (Call.withdraw n)) (own_tag (out_at p h) slip.tag tagged))
        (ran (opening_with p t) h live.ran).page

    pub spent : (handed : Slip) → a.slip ≡ Some handed.tag → ⊥
    spent handed e = never_some handed.tag (sym none ∙ e)
      where
        none : a.slip ≡ None
        none = (closing p t h a page (some_out (out_at p h) slip.tag tagged)).1

    pub closed : Closed p t h true
    closed =
        let out = some_out (out_at p h) slip.tag tagged in
        (out, (a, page, (closing p t h a page out).0))
