use Rattle.pages.specs.Lines.{Call}
use Rattle.sheet.proofs.Spends.{not_spent, withdrawn, withdrawing}
use Rattle.sheet.proofs.sheet.Sheet.withdraw.Goals as goal
use Rattle.sheet.specs.Sheets.{drawn_of}
use Rattle.sheet.specs.declared.role.Role.TheVariants.{Editor}
use Rattle.std.proofs.Common.{refl}
use Rattle.std.proofs.lemmas.Result.{err_from_is_err_and}
use Rattle.std.specs.Option.{option_map}

pub returns : goal.returns
returns g c plan set =
    withdrawn _ _ c.args.role c.args.slip plan set (option_map drawn_of c.in_ok-spend_slip.field-0)
    c.in_ok-spend_slip.ensures.answer c.in_ok-spend_slip.ensures.after

pub returns-in_err-spend_slip : goal.returns-in_err-spend_slip
returns-in_err-spend_slip g c plan set =
    let p = err_from_is_err_and c.from_residual.result c.from_residual.ensures.1 in
    rw (p.1, p.2)
    (not_spent _ _ c.args.role c.args.slip plan set (Call.withdraw c.args.slip.tag) (withdrawing c.args.slip.tag) Editor refl
    c.in_err-spend_slip.field-0.0 c.in_err-spend_slip.ensures.answer c.in_err-spend_slip.ensures.after)
