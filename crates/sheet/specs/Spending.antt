-- What spending a slip answers, with the drawn plan as a page has it.
use Rattle.std.specs.Prelude.{Ok, Err, Option, Result}
use Rattle.matching.specs.declared.into.Planned.{Planned}
use Rattle.pages.specs.Standing as page
use Rattle.refusals.specs.declared.refusal.Refusal.{Refusal}
use Rattle.sheet.specs.Sheets.{drawn_of}
use Rattle.sheet.specs.declared.slip.Slip.{Slip}
use Rattle.std.specs.Option.{option_map}

abbrev pub handed : Result (Option Planned) (Refusal × Slip) → Result (Option page.Drawn) (Refusal × Slip)
handed (Ok drawn) = Ok (option_map drawn_of drawn)
handed (Err back) = Err back
