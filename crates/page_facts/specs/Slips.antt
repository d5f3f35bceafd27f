-- What the definitions say of slips and of the published plan.
use Rattle.std.specs.Prelude.{◌≡◌, ℕ, ◌⊎◌, List, ◌∷◌, ◌++◌, take, Some, None, ◌≢◌}
use Rattle.page_facts.specs.Lists.{Each}
use Rattle.pages.specs.Answers.{Page}
use Rattle.pages.specs.Lines.{Opening, Event, Call, Outcome}
use Rattle.pages.specs.Reasons.{slip_of}
use Rattle.pages.specs.Standing.{Drawn, out_at, published_at}
use Rattle.refusals.specs.declared.refusal.Refusal.{Refusal}

-- right after a draw answered drawn, its plan and code are out
abbrev pub DrawnPlansAreOut : Type 0
DrawnPlansAreOut =
    (p : ℕ) (above : List Event) (e : Event) (code : ℕ) → e.answer.outcome ≡ Outcome.drawn code
    → out_at p (e ∷ above) ≡ Some (record { plan = take p e.answer.plan; lowest = code })

-- an accepted publish or withdraw
pub record Spends (e : Event) : Type 0 where
  pub tag : ℕ
  pub call : (e.line.call ≡ Call.publish tag) ⊎ (e.line.call ≡ Call.withdraw tag)
  pub outcome : e.answer.outcome ≡ Outcome.done

-- it is given the slip of the sheet's tag, a plan was out, and none is right after it
abbrev pub SpentSlipsAreGone : Type 0
SpentSlipsAreGone =
    (o : Opening) (above : List Event) (e : Event) → Page o (e ∷ above) → (s : Spends e)
    → (s.tag ≡ o.tag) × ((d : Drawn) × (out_at o.packages above ≡ Some d)) × (out_at o.packages (e ∷ above) ≡ None)

-- a short draw hands out no slip, and none is out after it
abbrev pub ShortDrawsHandOutNone : Type 0
ShortDrawsHandOutNone =
    (o : Opening) (above : List Event) (e : Event) → Page o (e ∷ above) → e.answer.outcome ≡ Outcome.short
    → (e.answer.slip ≡ None) × (out_at o.packages (e ∷ above) ≡ None)

-- a slip comes from a draw answered drawn, with the sheet's tag, or is one that a refused line was given
abbrev pub SlipsComeFromDraws : Type 0
SlipsComeFromDraws =
    (o : Opening) (above : List Event) (e : Event) (tag : ℕ) → Page o (e ∷ above) → e.answer.slip ≡ Some tag
    → (((code : ℕ) × (e.answer.outcome ≡ Outcome.drawn code)) × (tag ≡ o.tag))
    ⊎ (((r : Refusal) × (e.answer.outcome ≡ Outcome.refused r)) × (slip_of e.line.call ≡ Some tag))

-- no line but a draw answered drawn and one that spends a slip changes what is out
abbrev pub OtherLinesLeaveTheSlip : Type 0
OtherLinesLeaveTheSlip =
    (p : ℕ) (above : List Event) (e : Event) → ((code : ℕ) → e.answer.outcome ≢ Outcome.drawn code) → (Spends e → ⊥)
    → out_at p (e ∷ above) ≡ out_at p above

-- an accepted publish
pub record Publishes (e : Event) : Type 0 where
  pub tag : ℕ
  pub call : e.line.call ≡ Call.publish tag
  pub outcome : e.answer.outcome ≡ Outcome.done

-- no line but an accepted publish changes what is published
abbrev pub OtherLinesLeaveThePublished : Type 0
OtherLinesLeaveThePublished =
    (p : ℕ) (above : List Event) (e : Event) → (Publishes e → ⊥) → published_at p (e ∷ above) ≡ published_at p above

-- What an accepted show gives is what the draw wrote into its first p places, with the code that it
-- answered: a draw, no slip spent, an accepted publish, no further publish, and then the show.
abbrev pub ShownAsDrawn : Type 0
ShownAsDrawn =
    (o : Opening) (above between later : List Event) (d e s : Event) (code : ℕ)
    → Page o (s ∷ later ++ (e ∷ between ++ d ∷ above)) → d.answer.outcome ≡ Outcome.drawn code
    → Each (λ f. Spends f → ⊥) between → Publishes e → Each (λ f. Publishes f → ⊥) later
    → s.line.call ≡ Call.show → ((r : Refusal) → s.answer.outcome ≢ Outcome.refused r)
    → (s.answer.outcome ≡ Outcome.shown code) × (take o.packages s.answer.plan ≡ take o.packages d.answer.plan)

-- a line that neither hands out a slip nor spends one
pub record LeavesTheSlip (e : Event) : Type 0 where
  pub not_drawn : (code : ℕ) → e.answer.outcome ≢ Outcome.drawn code
  pub not_spent : Spends e → ⊥

-- the last line that handed out or spent a slip is a draw that was answered drawn with this plan
pub record OutSince (p : ℕ) (d : Drawn) (h : List Event) : Type 0 where
  pub below : List Event
  pub line : Event
  pub above : List Event
  pub is : h ≡ below ++ line ∷ above
  pub drawn : line.answer.outcome ≡ Outcome.drawn d.lowest
  pub plan : take p line.answer.plan ≡ d.plan
  pub quiet : Each LeavesTheSlip below

-- the last accepted publish spent the slip of this plan
pub record PublishedSince (p : ℕ) (d : Drawn) (h : List Event) : Type 0 where
  pub below : List Event
  pub line : Event
  pub above : List Event
  pub is : h ≡ below ++ line ∷ above
  pub publishes : Publishes line
  pub out : out_at p above ≡ Some d
  pub quiet : Each (λ e. Publishes e → ⊥) below

-- what is out and what is published, exactly, by whole histories
abbrev pub LastSlipDecides : Type 0
LastSlipDecides =
    (p : ℕ) (h : List Event) (d : Drawn)
    → (out_at p h ≡ Some d → OutSince p d h) × (OutSince p d h → out_at p h ≡ Some d)
    × (published_at p h ≡ Some d → PublishedSince p d h) × (PublishedSince p d h → published_at p h ≡ Some d)
