use Rattle.sheet.proofs.Loading.{load_runs, load_refused}
use Rattle.sheet.proofs.sheet.Sheet.load.Goals as goal
use Rattle.std.proofs.lemmas.Result.{err_from_is_err_and}

pub returns : goal.returns
returns g c plan set =
    load_runs _ c.args.role c.args.file.now plan set _ c.in_ok-may_load.ensures c.load_now.result c.load_now.ensures

pub returns-in_err-may_load : goal.returns-in_err-may_load
returns-in_err-may_load g c plan set =
    let p = err_from_is_err_and c.from_residual.result c.from_residual.ensures.1 in
    rw (p.1, p.2) (load_refused _ c.args.role c.args.file.now plan set c.in_err-may_load.field-0.0 c.in_err-may_load.ensures)
