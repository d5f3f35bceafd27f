-- One short page on which every call and every kind of outcome occurs.
use Rattle.std.specs.Prelude.{ℕ, List, [], ◌∷◌, Some, None, Option}
use Rattle.grades.specs.Points.{above_points, valid_points}
use Rattle.pages.specs.Answers.{Page}
use Rattle.pages.specs.Lines.{Opening, Event, Call, Outcome}
use Rattle.refusals.specs.declared.refusal.Refusal.TheVariants as refusal

-- points, one package, one translator, tag 7
abbrev pub small : Opening
small =
    record { packages = 1; translators = 1; limit = 64; number = 1; valid = valid_points; above = above_points; tag = 7 }

-- a line with buffers of two places each, 9, 9 and 5, 6, and its answer
abbrev pub event : ℕ → Call → Outcome → Option ℕ → List ℕ → List ℕ → Event
event role call outcome slip plan set =
    record {
      line = record { role = role; call = call; plan = 9 ∷ 9 ∷ []; set = 5 ∷ 6 ∷ [] };
      answer = record { outcome = outcome; slip = slip; plan = plan; set = set };
    }

-- a line that leaves its buffers
abbrev pub quiet : ℕ → Call → Outcome → Event
quiet role call outcome = event role call outcome None (9 ∷ 9 ∷ []) (5 ∷ 6 ∷ [])

-- a file without records
abbrev pub empty_file : List ℕ
empty_file = 1 ∷ 0 ∷ 1 ∷ 1 ∷ 1 ∷ 0 ∷ 0 ∷ []

abbrev pub page_1 : List Event
page_1 = quiet 3 (Call.load empty_file) Outcome.done ∷ []

abbrev pub page_2 : List Event
page_2 = quiet 1 (Call.grade 1 1 700) (Outcome.refused refusal.Role) ∷ page_1

abbrev pub page_3 : List Event
page_3 = quiet 2 (Call.grade 1 1 700) Outcome.done ∷ page_2

abbrev pub page_4 : List Event
page_4 = event 2 Call.draw (Outcome.drawn 700) (Some 7) (1 ∷ 9 ∷ []) (1 ∷ 6 ∷ []) ∷ page_3

abbrev pub page_5 : List Event
page_5 = quiet 2 (Call.grade 1 1 650) (Outcome.refused refusal.SlipOut) ∷ page_4

abbrev pub page_6 : List Event
page_6 = quiet 2 (Call.withdraw 7) Outcome.done ∷ page_5

abbrev pub page_7 : List Event
page_7 = event 3 Call.draw (Outcome.drawn 700) (Some 7) (1 ∷ 9 ∷ []) (1 ∷ 6 ∷ []) ∷ page_6

abbrev pub page_8 : List Event
page_8 = quiet 3 (Call.publish 7) Outcome.done ∷ page_7

abbrev pub page_9 : List Event
page_9 = event 1 Call.show (Outcome.shown 700) None (1 ∷ 9 ∷ []) (5 ∷ 6 ∷ []) ∷ page_8

abbrev pub page_10 : List Event
page_10 = quiet 3 (Call.strike 1 1) Outcome.done ∷ page_9

abbrev pub page_11 : List Event
page_11 = event 2 Call.draw Outcome.short None (9 ∷ 9 ∷ []) (1 ∷ 6 ∷ []) ∷ page_10

abbrev pub ThereIsAPage : Type 0
ThereIsAPage = Page small page_11
