use Rattle.worked_sheets.proofs.Sheets.{every_sheet}
use Rattle.worked_sheets.proofs.worked_sheets_hold.Goals as goal

pub returns : goal.returns
returns c = every_sheet
