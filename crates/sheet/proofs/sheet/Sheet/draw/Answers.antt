use Rattle.sheet.proofs.Drawing.{draw_runs, draw_refused}
use Rattle.sheet.proofs.sheet.Sheet.draw.Goals as goal
use Rattle.std.proofs.lemmas.Result.{err_from_is_err_and}

pub returns : goal.returns
returns g c =
    draw_runs _ c.args.role c.args.plan.now c.args.set.now c.in_ok-next.next c.draw_now.new.plan c.draw_now.new.set _
    c.in_ok-next.ensures c.draw_now.result c.draw_now.ensures

pub returns-in_err-next : goal.returns-in_err-next
returns-in_err-next g c =
    let p = err_from_is_err_and c.from_residual.result c.from_residual.ensures.1 in
    rw (p.1, p.2) (draw_refused _ c.args.role c.args.plan.now c.args.set.now c.in_err-next.field-0.0 c.in_err-next.ensures)
