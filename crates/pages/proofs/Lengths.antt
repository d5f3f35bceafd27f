-- Every plan that is out or published on a page has a translator for each package.
use Rattle.std.proofs.Common.{◌≡◌, ℕ, List, [], ◌∷◌, length, take, Some, Option, sym, ap, ◌∙◌}
use Rattle.pages.proofs.Calls.{never_some, same_some}
use Rattle.pages.specs.Answers.{Right, Page}
use Rattle.pages.specs.Lines.{Opening, Event, Call, Outcome}
use Rattle.pages.specs.Standing.{Drawn, out_by, out_by_done, out_at, published_by, published_by_done, published_at, standing}

abbrev Long : ℕ → Option Drawn → Type 0
Long p out = (d : Drawn) → out ≡ Some d → length d.plan ≡ p

long_done : (p : ℕ) (c : Call) (out : Option Drawn) → Long p out → Long p (out_by_done c out)
long_done p (Call.grade a b code) out h = h
long_done p (Call.strike a b) out h = h
long_done p (Call.load file) out h = h
long_done p Call.draw out h = h
long_done p (Call.publish tag) out h = λ d e. absurd (never_some d e)
long_done p (Call.withdraw tag) out h = λ d e. absurd (never_some d e)
long_done p Call.show out h = h

out_long : (o : Opening) (h : List Event) → Page o h → Long o.packages (out_at o.packages h)
out_long o [] a = λ d e. absurd (never_some d e)
out_long o (e ∷ above) a = by_way a.0 (out_long o above a.1)
  where
    p : ℕ
    p = o.packages

    at : Outcome → Option Drawn
    at u = out_by p u e.line.call e.answer.plan (out_at p above)

    moved : (u : Outcome) → e.answer.outcome ≡ u → Long p (at u) → Long p (out_at p (e ∷ above))
    moved u x h d y = h d (sym (ap at x) ∙ y)

    by_way : Right o (standing p above) e.line e.answer → Long p (out_at p above) → Long p (out_at p (e ∷ above))
    by_way (Right.refused r x f t u) h = moved (Outcome.refused r) x h
    by_way (Right.done n c k x t u) h = moved Outcome.done x (long_done p e.line.call (out_at p above) h)
    by_way (Right.drawn n c code x u) h =
        moved (Outcome.drawn code) x
        (λ d y. sym (ap (λ (z : Drawn). length z.plan) (same_some (record { plan = take p e.answer.plan; lowest = code }) d y)) ∙ u.best.full.long)
    by_way (Right.short n c x u) h = moved Outcome.short x h
    by_way (Right.shown n c d q x u) h = moved (Outcome.shown d.lowest) x h

long_published : (p : ℕ) (c : Call) (out old : Option Drawn) → Long p out → Long p old → Long p (published_by_done c out old)
long_published p (Call.grade a b code) out old g h = h
long_published p (Call.strike a b) out old g h = h
long_published p (Call.load file) out old g h = h
long_published p Call.draw out old g h = h
long_published p (Call.publish tag) out old g h = g
long_published p (Call.withdraw tag) out old g h = h
long_published p Call.show out old g h = h

by_outcome :
    (p : ℕ) (u : Outcome) (c : Call) (out old : Option Drawn) → Long p out → Long p old → Long p (published_by u c out old)
by_outcome p Outcome.done c out old g h = long_published p c out old g h
by_outcome p (Outcome.drawn code) c out old g h = h
by_outcome p Outcome.short c out old g h = h
by_outcome p (Outcome.shown code) c out old g h = h
by_outcome p (Outcome.refused r) c out old g h = h

pub published_long : (o : Opening) (h : List Event) → Page o h → Long o.packages (published_at o.packages h)
published_long o [] a = λ d e. absurd (never_some d e)
published_long o (e ∷ above) a =
    by_outcome o.packages e.answer.outcome e.line.call (out_at o.packages above) (published_at o.packages above)
    (out_long o above a.1) (published_long o above a.1)
