-- What a command of the page program stands for on its sheet: points, the limit of the table book,
-- and tag 1. Every line is lent a plan buffer and a set buffer of its own, with room for every plan.
use Rattle.std.specs.Prelude.{ℕ, List, take, replicate, Some, None, Option}
use Rattle.grades.specs.Points.{valid_points, above_points}
use Rattle.page_text.specs.Commands.{Said}
use Rattle.page_text.specs.Replies.{Told}
use Rattle.pages.specs.Lines.{Opening, Line, Answer, Event, Call, Outcome}
use Rattle.refusals.specs.Refusals.{number_of}

abbrev pub opening_with : ℕ → ℕ → Opening
opening_with p t =
    record {
      packages = p;
      translators = t;
      limit = 3072;
      number = 1;
      valid = valid_points;
      above = above_points;
      tag = 1;
    }

abbrev pub asks : ℕ → Call → Line
asks role call = record { role = role; call = call; plan = replicate 48 0; set = replicate 48 0 }

-- The one call that a command stands for. A slip that is given is that of the program's own sheet.
abbrev pub line_for : Said → Option Line
line_for (Said.opens p t) = None
line_for (Said.grades role p t code) = Some (asks role (Call.grade p t code))
line_for (Said.strikes role p t) = Some (asks role (Call.strike p t))
line_for (Said.draws role) = Some (asks role Call.draw)
line_for (Said.publishes role) = Some (asks role (Call.publish 1))
line_for (Said.withdraws role) = Some (asks role (Call.withdraw 1))
line_for (Said.shows role) = Some (asks role Call.show)
line_for (Said.unknown word) = None

-- the sizes that a first line asks for
abbrev pub sizes_for : Said → Option (ℕ × ℕ)
sizes_for (Said.opens p t) = Some (p, t)
sizes_for (Said.grades role p t code) = None
sizes_for (Said.strikes role p t) = None
sizes_for (Said.draws role) = None
sizes_for (Said.publishes role) = None
sizes_for (Said.withdraws role) = None
sizes_for (Said.shows role) = None
sizes_for (Said.unknown word) = None

-- what is told of an outcome, with the first p places of the plan buffer; no set is told
abbrev pub told_as : ℕ → Outcome → List ℕ → Told
told_as p Outcome.done plan = Told.ok
told_as p (Outcome.drawn code) plan = Told.drawn code (take p plan)
told_as p Outcome.short plan = Told.short
told_as p (Outcome.shown code) plan = Told.shown code (take p plan)
told_as p (Outcome.refused r) plan = Told.refused (number_of r)

abbrev pub event : Line → Answer → Event
event l a = record { line = l; answer = a }
