use Rattle.pages.specs.Lines.{Call}
use Rattle.sheet.proofs.Spends.{not_spent, published, publishing}
use Rattle.sheet.proofs.sheet.Sheet.publish.Goals as goal
use Rattle.sheet.specs.Sheets.{drawn_of}
use Rattle.sheet.specs.declared.role.Role.TheVariants.{Manager}
use Rattle.std.proofs.Common.{refl}
use Rattle.std.proofs.lemmas.Result.{err_from_is_err_and}
use Rattle.std.specs.Option.{option_map}

pub returns : goal.returns
returns g c plan set =
    published _ _ c.args.role c.args.slip plan set (option_map drawn_of c.in_ok-self.field-0) c.in_ok-self.ensures.answer
    c.in_ok-self.ensures.after

pub returns-in_err-self : goal.returns-in_err-self
returns-in_err-self g c plan set =
    let p = err_from_is_err_and c.from_residual.result c.from_residual.ensures.1 in
    rw (p.1, p.2)
    (not_spent _ _ c.args.role c.args.slip plan set (Call.publish c.args.slip.tag) (publishing c.args.slip.tag) Manager refl
    c.in_err-self.field-0.0 c.in_err-self.ensures.answer c.in_err-self.ensures.after)
