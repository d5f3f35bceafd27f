use Rattle.file_format.specs.FileOf.{grade_in}
use Rattle.plan_report.proofs.office.draw_by_head.Goals as goal
use Rattle.plan_report.specs.Offices.{Settled}
use Rattle.plan_report.specs.Reports.{above_in}
use Rattle.grades.specs.Names.{kind_number}
use Rattle.grades.specs.declared.kind_name.KindName.{KindName}
use Rattle.std.proofs.Common.{sym, subst}

pub returns-in-Points : goal.returns-in-Points
returns-in-Points c =
    subst
    (λ (k : KindName). Settled (above_in (kind_number k)) (grade_in c.args.file.now) c.args.head.sizes.packages c.args.head.sizes.translators c.draw_file.new.plan c.draw_file.new.set c.draw_file.result)
    (sym c.in-Points.is) c.draw_file.ensures

pub returns-in-Ratings : goal.returns-in-Ratings
returns-in-Ratings c =
    subst
    (λ (k : KindName). Settled (above_in (kind_number k)) (grade_in c.args.file.now) c.args.head.sizes.packages c.args.head.sizes.translators c.draw_file-in-Ratings.new.plan c.draw_file-in-Ratings.new.set c.draw_file-in-Ratings.result)
    (sym c.in-Ratings.is) c.draw_file-in-Ratings.ensures
