-- The entries of a page as lines and answers.
use Rattle.std.specs.Prelude.{ℕ, List, [], ◌∷◌, vec_items}
use Rattle.pages.specs.Lines as page
use Rattle.sheet.specs.Lines.{asked_by, outcome_of}
use Rattle.sheet.specs.Told.{told}
use Rattle.sheet.specs.declared.entries.Entry.{Entry}
use Rattle.sheet.specs.declared.page.Call.{Call}

-- a slip is asked for by its tag
abbrev pub asked_in : Call ℕ (Unit {0}) → List ℕ → List ℕ → List ℕ → page.Line
asked_in ask file plan set = asked_by (λ tag. tag) (λ _. file) ask plan set

-- an entry as it was given, and as it stands after it has run
abbrev pub event_in : Entry → Entry → page.Event
event_in before after =
    record {
      line = asked_in before.ask (vec_items before.file) (vec_items before.plan) (vec_items before.set);
      answer =
          told (outcome_of after.reply.outcome) after.reply.slip (vec_items after.plan) (vec_items after.set);
    }

-- all entries in their order
abbrev pub events_in : List Entry → List Entry → List page.Event
events_in [] after = []
events_in (x ∷ xs) [] = []
events_in (x ∷ xs) (y ∷ ys) = event_in x y ∷ events_in xs ys
