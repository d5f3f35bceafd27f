-- What an outcome tells of the way in which a line was answered.
use Rattle.std.proofs.Common.{◌≡◌, ℕ, true, false, List, [], ◌∷◌, ◌++◌, is_some as option_is_some, Some, None, Option, sym, refl, ap, ◌∙◌, arith}
use Rattle.pages.proofs.Calls.{never_some}
use Rattle.pages.specs.Answers.{Right, Page, Given}
use Rattle.pages.specs.Lines.{Opening, Line, Answer, Event, Call, Outcome}
use Rattle.pages.specs.Reasons.{Reason, NoReason}
use Rattle.pages.specs.Standing.{Standing}
use Rattle.refusals.specs.declared.refusal.Refusal.TheVariants as refusal
use Rattle.std.proofs.lemmas.Bool.{both_ways}

abbrev pub kind_of : Outcome → ℕ
kind_of Outcome.done = 0
kind_of (Outcome.drawn code) = 1
kind_of Outcome.short = 2
kind_of (Outcome.shown code) = 3
kind_of (Outcome.refused r) = 4

pub is_none : {X : Type 0} (x : Option X) → option_is_some x ≡ false → x ≡ None
is_none None e = refl
is_none (Some y) e = absurd (both_ways true e refl)

pub is_some : {X : Type 0} (x : Option X) → option_is_some x ≡ true → (y : X) × (x ≡ Some y)
is_some None e = absurd (both_ways false refl e)
is_some (Some y) e = (y, refl)

pub record Done (o : Opening) (s : Standing) (l : Line) : Type 0 where
  pub free : NoReason o s l
  pub given : Given l.call

pub done_way : (o : Opening) (s : Standing) (l : Line) (a : Answer) → Right o s l a → a.outcome ≡ Outcome.done → Done o s l
done_way o s l a (Right.refused r x f t u) y = absurd (omega (arith, ap kind_of (sym x ∙ y)))
done_way o s l a (Right.done n c k x t u) y = record { free = n; given = k }
done_way o s l a (Right.drawn n c code x u) y = absurd (omega (arith, ap kind_of (sym x ∙ y)))
done_way o s l a (Right.short n c x u) y = absurd (omega (arith, ap kind_of (sym x ∙ y)))
done_way o s l a (Right.shown n c d q x u) y = absurd (omega (arith, ap kind_of (sym x ∙ y)))

-- the lines above a line of a page are a page
pub page_tail : (o : Opening) (below above : List Event) → Page o (below ++ above) → Page o above
page_tail o [] above a = a
page_tail o (e ∷ below) above a = page_tail o below above a.1

-- a sheet that a load finds free has no grade
pub load_finds_none :
    (o : Opening) (s : Standing) (l : Line) (file : List ℕ) → NoReason o s l → l.call ≡ Call.load file → (i j : ℕ) → s.grade i j ≡ None
load_finds_none o s l file n is i j = go (s.grade i j) refl
  where
    go : (x : Option ℕ) → s.grade i j ≡ x → s.grade i j ≡ None
    go None e = e
    go (Some c) e = absurd (n refusal.NotEmpty (Reason.sheet_has_a_grade file is (λ w. never_some c (sym (w i j) ∙ e))))
