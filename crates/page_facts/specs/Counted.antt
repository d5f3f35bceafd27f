-- Which lines the counts of draws, publishes and withdraws count, and how a history grows.
use Rattle.std.specs.Prelude.{◌≡◌, ℕ, ◌+◌, List, [], ◌∷◌, ◌++◌, Some, None, ◌≢◌}
use Rattle.page_facts.specs.Slips.{Publishes}
use Rattle.pages.specs.Lines.{Event, Call, Outcome, run_on}
use Rattle.pages.specs.Promises.{draws, publishes, slips_out, withdraws}
use Rattle.pages.specs.Standing.{Drawn, out_at}

-- an accepted withdraw
pub record Withdraws (e : Event) : Type 0 where
  pub tag : ℕ
  pub call : e.line.call ≡ Call.withdraw tag
  pub outcome : e.answer.outcome ≡ Outcome.done

-- each count starts at 0 and rises by one with a line of its kind, and with no other
pub record SlipCounts : Type 0 where
  pub start : (draws [] ≡ 0) × (publishes [] ≡ 0) × (withdraws [] ≡ 0)
  pub drawn : (h : List Event) (e : Event) (code : ℕ) → e.answer.outcome ≡ Outcome.drawn code → draws (e ∷ h) ≡ draws h + 1
  pub not_drawn : (h : List Event) (e : Event) → ((code : ℕ) → e.answer.outcome ≢ Outcome.drawn code) → draws (e ∷ h) ≡ draws h
  pub published : (h : List Event) (e : Event) → Publishes e → publishes (e ∷ h) ≡ publishes h + 1
  pub not_published : (h : List Event) (e : Event) → (Publishes e → ⊥) → publishes (e ∷ h) ≡ publishes h
  pub withdrawn : (h : List Event) (e : Event) → Withdraws e → withdraws (e ∷ h) ≡ withdraws h + 1
  pub not_withdrawn : (h : List Event) (e : Event) → (Withdraws e → ⊥) → withdraws (e ∷ h) ≡ withdraws h
  pub out : (p : ℕ) (h : List Event) (d : Drawn) → out_at p h ≡ Some d → slips_out p h ≡ 1
  pub none_out : (p : ℕ) (h : List Event) → out_at p h ≡ None → slips_out p h ≡ 0

-- the line that ran last is the newest of the history
abbrev pub NewestLineFirst : Type 0
NewestLineFirst =
    (h es : List Event) (e : Event) → (run_on h [] ≡ h) × (run_on h (es ++ e ∷ []) ≡ e ∷ run_on h es)
