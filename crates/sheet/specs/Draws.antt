-- What a draw that was let in does, for the function behind the call.
use Rattle.std.specs.Prelude.{◌≡◌, ℕ, List, Some, None, Ok, Err, Option, Result}
use Rattle.matching.specs.Answers.{PlanWritten, ShortWritten, NoRoom}
use Rattle.pages.specs.Answers.{valid_only}
use Rattle.refusals.specs.declared.refusal.Refusal.{Refusal}
use Rattle.sheet.specs.Admission.{after}
use Rattle.sheet.specs.Sheets.{Stood}
use Rattle.sheet.specs.declared.sheet.admission.Next.{Next}
use Rattle.sheet.specs.declared.sheet.drawing.Draw.{Draw}

abbrev pub DrawsNow :
    Stood → Next → List ℕ → List ℕ → List ℕ → List ℕ → Result (Option Draw) Refusal → Stood → Type 0
DrawsNow x next plan set plan' set' (Ok (Some d)) y =
    (best : List ℕ)
    × PlanWritten x.opening.above (valid_only x.opening x.standing.grade) x.opening.packages x.opening.translators plan set plan' set' best d.lowest
    × (d.slip.tag ≡ x.opening.tag)
    × (y ≡ after x next (Some (record { plan = best; lowest = d.lowest })))
DrawsNow x next plan set plan' set' (Ok None) y =
    ShortWritten (valid_only x.opening x.standing.grade) x.opening.packages x.opening.translators plan set plan' set'
    × (y ≡ after x next None)
DrawsNow x next plan set plan' set' (Err r) y = NoRoom x.opening.packages plan set plan' set' r × (y ≡ x)
