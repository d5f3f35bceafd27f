-- The sheet of the page program after a history, with the slip that the program holds beside it.
use Rattle.std.specs.Prelude.{◌≡◌, ℕ, Bool, true, false, List, ◌∷◌, replicate, is_some, Ok, Err, Result, Some, None, Option}
use Rattle.grades.specs.Points.{valid_points, above_points}
use Rattle.grades.specs.declared.points.Points.{Points}
use Rattle.page_runs.specs.Asks.{opening_with, asks, line_for, event}
use Rattle.page_runs.specs.Slips.{slip_for, Gives}
use Rattle.page_text.specs.Commands.{Said}
use Rattle.page_text.specs.Replies.{Told, told_of}
use Rattle.page_text.specs.declared.reply.Reply.{Reply}
use Rattle.pages.specs.Answers.{Page, Ran}
use Rattle.pages.specs.Lines.{Opening, Line, Answer, Event, Call, Outcome}
use Rattle.pages.specs.Reasons.{slip_of}
use Rattle.pages.specs.Standing.{Standing, out_at}
use Rattle.sheet.specs.Lines.{asked_of}
use Rattle.sheet.specs.Sheets.{opening_of, standing_of}
use Rattle.sheet.specs.declared.page.Call as sheet
use Rattle.sheet.specs.declared.sheet.Sheet.{Sheet}
use Rattle.sheet.specs.declared.slip.Slip.{Slip}
use Rattle.std.specs.Borrow.{Bor}
use Rattle.std.specs.Option.{option_map}
use Rattle.table_book.specs.Table.{table_meaning}
use Rattle.table_book.specs.declared.table_book.TableBook.{TableBook}

abbrev pub opening_at : Sheet TableBook Points → Opening
opening_at s = opening_of 3072 1 valid_points above_points table_meaning s

abbrev pub standing_at : Sheet TableBook Points → Standing
standing_at s = standing_of table_meaning s

abbrev pub tag_in : Option Slip → Option ℕ
tag_in held = option_map (λ (s : Slip). s.tag) held

-- the sheet, opened with these sizes, has run these lines, and the slip that is out is held
pub record Live (p t : ℕ) (h : List Event) (s : Sheet TableBook Points) (held : Option Slip) : Type 0 where
  pub ran : Ran (opening_with p t) h (opening_at s) (standing_at s)
  pub slip : tag_in held ≡ slip_for (out_at p h)

-- a slip that is held bears tag 1
abbrev pub Own : Option Slip → Type 0
Own None = Unit {0}
Own (Some s) = s.tag ≡ 1

-- What is told of a command that is not called: it stands for no call, or its slip is not held.
pub data NoCall (c : Said) (held : Option Slip) (t : Told) (kept : Option Slip) : Type 0 where
  bad_line : line_for c ≡ None → t ≡ Told.bad_line → kept ≡ held → NoCall c held t kept
  no_slip :
      (l : Line) → line_for c ≡ Some l → is_some (slip_of l.call) ≡ true → t ≡ Told.no_slip → held ≡ None → kept ≡ None
      → NoCall c held t kept

-- What a command comes to: the one call that it stands for, or no call.
abbrev pub Puts : Said → Option Slip → Result (sheet.Call Slip (Bor (List ℕ))) Reply → Option Slip → Type 0
Puts c held (Ok line) kept =
    (line_for c ≡ Some (asked_of line (replicate 48 0) (replicate 48 0)))
    × Gives (slip_of (asked_of line (replicate 48 0) (replicate 48 0)).call) (tag_in held) (tag_in kept)
Puts c held (Err reply) kept = NoCall c held (told_of reply) kept

-- whether a slip was out at the end, and then its withdraw was accepted
abbrev pub Closed : ℕ → ℕ → List Event → Bool → Type 0
Closed p t h true =
    (is_some (out_at p h) ≡ true)
    × ((a : Answer) × Page (opening_with p t) (event (asks 3 (Call.withdraw 1)) a ∷ h) × (a.outcome ≡ Outcome.done))
Closed p t h false = is_some (out_at p h) ≡ false
