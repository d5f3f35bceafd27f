-- The calls of a sheet and their results as lines and answers of a page.
use Rattle.std.specs.Prelude.{ℕ, List, Some, None, Ok, Err, Option, Result}
use Rattle.pages.specs.Lines.{Line, Answer, Call, Outcome}
use Rattle.refusals.specs.declared.refusal.Refusal.{Refusal}
use Rattle.sheet.specs.declared.sheet.drawing.Draw.{Draw}
use Rattle.sheet.specs.declared.slip.Slip.{Slip}

abbrev pub asked : ℕ → Call → List ℕ → List ℕ → Line
asked role call plan set = record { role = role; call = call; plan = plan; set = set }

abbrev pub told : Outcome → Option ℕ → List ℕ → List ℕ → Answer
told outcome slip plan set = record { outcome = outcome; slip = slip; plan = plan; set = set }

abbrev pub told_done : Result (Unit {0}) Refusal → List ℕ → List ℕ → Answer
told_done (Ok u) plan set = told Outcome.done None plan set
told_done (Err r) plan set = told (Outcome.refused r) None plan set

-- a slip that is not spent is handed back
abbrev pub told_spent : Result (Unit {0}) (Refusal × Slip) → List ℕ → List ℕ → Answer
told_spent (Ok u) plan set = told Outcome.done None plan set
told_spent (Err back) plan set = told (Outcome.refused back.0) (Some back.1.tag) plan set

abbrev pub told_draw : Result (Option Draw) Refusal → List ℕ → List ℕ → Answer
told_draw (Ok (Some d)) plan set = told (Outcome.drawn d.lowest) (Some d.slip.tag) plan set
told_draw (Ok None) plan set = told Outcome.short None plan set
told_draw (Err r) plan set = told (Outcome.refused r) None plan set

abbrev pub told_show : Result ℕ Refusal → List ℕ → List ℕ → Answer
told_show (Ok lowest) plan set = told (Outcome.shown lowest) None plan set
told_show (Err r) plan set = told (Outcome.refused r) None plan set
