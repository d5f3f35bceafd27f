-- Lines and answers of the code as those of a page.
use Rattle.std.specs.Prelude.{ℕ, List}
use Rattle.pages.specs.Lines as page
use Rattle.std.specs.Borrow.{Bor}
use Rattle.sheet.specs.Told.{asked, told}
use Rattle.sheet.specs.declared.page.Answer.{Answer}
use Rattle.sheet.specs.declared.page.Call.{Call}
use Rattle.sheet.specs.declared.page.Call.TheVariants as call
use Rattle.sheet.specs.declared.page.Outcome.{Outcome}
use Rattle.sheet.specs.declared.page.Outcome.TheVariants as outcome
use Rattle.sheet.specs.declared.slip.Slip.{Slip}
use Rattle.std.specs.Option.{option_map}

-- by the tag that a slip has, and the bytes that a file has
abbrev pub asked_by : {S F : Type 0} → (S → ℕ) → (F → List ℕ) → Call S F → List ℕ → List ℕ → page.Line
asked_by tag bytes (call.Grade role pkg translator code) plan set = asked role (page.Call.grade pkg translator code) plan set
asked_by tag bytes (call.Strike role pkg translator) plan set = asked role (page.Call.strike pkg translator) plan set
asked_by tag bytes (call.Load role file) plan set = asked role (page.Call.load (bytes file)) plan set
asked_by tag bytes (call.Draw role) plan set = asked role page.Call.draw plan set
asked_by tag bytes (call.Publish role slip) plan set = asked role (page.Call.publish (tag slip)) plan set
asked_by tag bytes (call.Withdraw role slip) plan set = asked role (page.Call.withdraw (tag slip)) plan set
asked_by tag bytes (call.Show role) plan set = asked role page.Call.show plan set

abbrev pub asked_of : Call Slip (Bor (List ℕ)) → List ℕ → List ℕ → page.Line
asked_of line plan set = asked_by (λ s. s.tag) (λ f. f.now) line plan set

abbrev pub outcome_of : Outcome → page.Outcome
outcome_of outcome.Done = page.Outcome.done
outcome_of (outcome.Drawn code) = page.Outcome.drawn code
outcome_of outcome.Short = page.Outcome.short
outcome_of (outcome.Shown code) = page.Outcome.shown code
outcome_of (outcome.Refused r) = page.Outcome.refused r

abbrev pub told_of : Answer Slip → List ℕ → List ℕ → page.Answer
told_of a plan set = told (outcome_of a.outcome) (option_map (λ s. s.tag) a.slip) plan set

-- the line with the buffers that it was lent, and its answer with what they then hold
abbrev pub event_of : Call Slip (Bor (List ℕ)) → List ℕ → List ℕ → Answer Slip → List ℕ → List ℕ → page.Event
event_of l plan set a plan' set' = record { line = asked_of l plan set; answer = told_of a plan' set' }
