-- Which calls are let in, by the role and by whether a slip is out, and the state that they leave.
use Rattle.std.specs.Prelude.{ℕ, Some, None, Ok, Err, Option, Result, ◌==◌, if◌then◌else◌}
use Rattle.pages.specs.Reasons.{may}
use Rattle.pages.specs.Standing.{Drawn}
use Rattle.refusals.specs.declared.refusal.Refusal.{Refusal}
use Rattle.refusals.specs.declared.refusal.Refusal.TheVariants as refusal
use Rattle.sheet.specs.Roles.{number_of}
use Rattle.sheet.specs.Sheets.{Stood}
use Rattle.sheet.specs.Steps.{with_plans}
use Rattle.sheet.specs.declared.role.Role.{Role}
use Rattle.sheet.specs.declared.sheet.admission.Incoming.{Incoming}
use Rattle.sheet.specs.declared.sheet.admission.Incoming.TheVariants as incoming
use Rattle.sheet.specs.declared.sheet.admission.Next.{Next}
use Rattle.sheet.specs.declared.sheet.admission.Next.TheVariants as next

abbrev pub role_answer : Role → ℕ → Result (Unit {0}) Refusal
role_answer least role = if may (number_of least) role then Ok tt else Err refusal.Role

-- by the plan whose slip is out and the tag of the sheet
abbrev pub admission : Option Drawn → ℕ → Incoming → Result Next Refusal
admission None tag incoming.Edit = Ok next.Idle
admission None tag incoming.Draw = Ok next.SlipOutIfDrawn
admission None tag (incoming.Spend given) = Err refusal.WrongSlip
admission (Some d) tag incoming.Edit = Err refusal.SlipOut
admission (Some d) tag incoming.Draw = Err refusal.SlipOut
admission (Some d) tag (incoming.Spend given) = if given == tag then Ok next.Idle else Err refusal.WrongSlip

-- by the role first
abbrev pub gate : Role → ℕ → Option Drawn → ℕ → Incoming → Result Next Refusal
gate least role out tag call =
    if may (number_of least) role then admission out tag call else Err refusal.Role

-- the plan whose slip is out after an accepted call
abbrev pub settled : Next → Option Drawn → Option Drawn
settled next.Idle drawn = None
settled next.SlipOutIfDrawn drawn = drawn

-- the sheet as an accepted call leaves it, but for what the call does to grades and the published plan
abbrev pub after : Stood → Next → Option Drawn → Stood
after x next drawn = with_plans x (settled next drawn) x.standing.published
