-- What holds over every page: how draws, publishes, withdraws and slips are counted, and that a
-- refused line can be taken off without altering another answer.
use Rattle.std.specs.Prelude.{◌≡◌, ℕ, ◌+◌, if◌then◌else◌, List, [], ◌∷◌, ◌++◌, map, length, drop, is_some}
use Rattle.pages.specs.Answers.{Page}
use Rattle.pages.specs.Lines.{Opening, Line, Answer, Event, Call, Outcome}
use Rattle.pages.specs.Standing.{out_at}
use Rattle.refusals.specs.declared.refusal.Refusal.{Refusal}

abbrev pub one_if_drawn : Outcome → ℕ
one_if_drawn Outcome.done = 0
one_if_drawn (Outcome.drawn code) = 1
one_if_drawn Outcome.short = 0
one_if_drawn (Outcome.shown code) = 0
one_if_drawn (Outcome.refused r) = 0

abbrev pub one_if_done : Outcome → ℕ
one_if_done Outcome.done = 1
one_if_done (Outcome.drawn code) = 0
one_if_done Outcome.short = 0
one_if_done (Outcome.shown code) = 0
one_if_done (Outcome.refused r) = 0

abbrev pub one_if_publish : Call → ℕ → ℕ
one_if_publish (Call.grade a b code) n = 0
one_if_publish (Call.strike a b) n = 0
one_if_publish (Call.load file) n = 0
one_if_publish Call.draw n = 0
one_if_publish (Call.publish tag) n = n
one_if_publish (Call.withdraw tag) n = 0
one_if_publish Call.show n = 0

abbrev pub one_if_withdraw : Call → ℕ → ℕ
one_if_withdraw (Call.grade a b code) n = 0
one_if_withdraw (Call.strike a b) n = 0
one_if_withdraw (Call.load file) n = 0
one_if_withdraw Call.draw n = 0
one_if_withdraw (Call.publish tag) n = 0
one_if_withdraw (Call.withdraw tag) n = n
one_if_withdraw Call.show n = 0

-- draws answered drawn, accepted publishes and accepted withdraws
abbrev pub draws : List Event → ℕ
draws [] = 0
draws (e ∷ above) = one_if_drawn e.answer.outcome + draws above

abbrev pub publishes : List Event → ℕ
publishes [] = 0
publishes (e ∷ above) = one_if_publish e.line.call (one_if_done e.answer.outcome) + publishes above

abbrev pub withdraws : List Event → ℕ
withdraws [] = 0
withdraws (e ∷ above) = one_if_withdraw e.line.call (one_if_done e.answer.outcome) + withdraws above

abbrev pub slips_out : ℕ → List Event → ℕ
slips_out p h = if is_some (out_at p h) then 1 else 0

-- at every line, since the lines above a line of a page are a page
abbrev pub EverySlipIsCounted : Type 0
EverySlipIsCounted =
    (o : Opening) (h : List Event) → Page o h → draws h ≡ publishes h + withdraws h + slips_out o.packages h

-- the choice of a set, the first p bytes after an accepted draw, is left out
abbrev pub SetsAlike : ℕ → Outcome → List ℕ → List ℕ → Type 0
SetsAlike p Outcome.done x y = x ≡ y
SetsAlike p (Outcome.drawn code) x y = (length x ≡ length y) × (drop p x ≡ drop p y)
SetsAlike p Outcome.short x y = (length x ≡ length y) × (drop p x ≡ drop p y)
SetsAlike p (Outcome.shown code) x y = x ≡ y
SetsAlike p (Outcome.refused r) x y = x ≡ y

-- the same number, fault, drawn or short, codes, slip's tag, and all that the buffers hold
pub record Alike (p : ℕ) (a b : Answer) : Type 0 where
  pub outcome : a.outcome ≡ b.outcome
  pub slip : a.slip ≡ b.slip
  pub plan : a.plan ≡ b.plan
  pub set : SetsAlike p a.outcome a.set b.set

abbrev pub AllAlike : ℕ → List Event → List Event → Type 0
AllAlike p [] [] = Unit {0}
AllAlike p [] (f ∷ k) = ⊥
AllAlike p (e ∷ h) [] = ⊥
AllAlike p (e ∷ h) (f ∷ k) = Alike p e.answer f.answer × AllAlike p h k

abbrev pub lines : List Event → List Line
lines h = map (λ e. e.line) h

-- two pages of one opening with the same lines are answered alike, whatever their books
abbrev pub SameLinesSameAnswers : Type 0
SameLinesSameAnswers =
    (o : Opening) (h k : List Event) → Page o h → Page o k → lines h ≡ lines k → AllAlike o.packages h k

-- others is any page of the same opening that has the same lines but for the refused one
abbrev pub RefusedLinesComeOff : Type 0
RefusedLinesComeOff =
    (o : Opening) (below above others : List Event) (e : Event) (r : Refusal) → Page o (below ++ e ∷ above)
    → e.answer.outcome ≡ Outcome.refused r → Page o others → lines others ≡ lines (below ++ above)
    → AllAlike o.packages others (below ++ above)
