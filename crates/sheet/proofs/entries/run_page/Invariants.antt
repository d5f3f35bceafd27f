use Rattle.pages.specs.Lines.{Opening, Event, run_on}
use Rattle.sheet.proofs.entries.run_page.Given as goal
use Rattle.sheet.specs.Entries.{events_in}
use Rattle.sheet.specs.Sheets.{LedTo, stood_of}
use Rattle.std.proofs.Common.{◌≡◌, List, take, drop}

-- the entries before this one have run, and the others are as they were
abbrev pub invariant-loop-entry : goal.invariant-loop-entry
invariant-loop-entry g l =
    ((o : Opening) (h : List Event)
    → LedTo o h (stood_of g.B.Book.LIMIT g.K.Kind.NUMBER g.K.Kind.valid g.K.Kind.above g.B.Reading.meaning l.initial.sheet)
    → LedTo o (run_on h (events_in (take l.entry-index l.initial.entry-items) (take l.entry-index l.entry-items)))
    (stood_of g.B.Book.LIMIT g.K.Kind.NUMBER g.K.Kind.valid g.K.Kind.above g.B.Reading.meaning l.sheet))
    × (drop l.entry-index l.entry-items ≡ drop l.entry-index l.initial.entry-items)
