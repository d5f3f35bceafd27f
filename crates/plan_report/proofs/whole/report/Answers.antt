use Rattle.plan_report.proofs.Agreeing.{reports_agree}
use Rattle.plan_report.proofs.Telling.{fault_told}
use Rattle.plan_report.proofs.whole.report.Goals as goal

pub returns-in-Ok : goal.returns-in-Ok
returns-in-Ok c = record { told = c.report_right.ensures; agree = reports_agree }

pub returns-in-Err : goal.returns-in-Err
returns-in-Err c =
    record {
      told = fault_told c.args.file.now c.in-Err.fault c.in-Err.ensures c.fault_line.result c.fault_line.ensures;
      agree = reports_agree;
    }
