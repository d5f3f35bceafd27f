use Rattle.std.proofs.Common.{ℕ, ap, ◌∙◌}
use Rattle.file_format.specs.FileOf.{grade_in}
use Rattle.file_format.specs.Layout.{count_in}
use Rattle.plan_report.proofs.Telling.{own_right, held, counted}
use Rattle.plan_report.proofs.whole.report_right.Goals as goal
use Rattle.plan_report.specs.Reports.{Report}
use Rattle.plan_report.specs.Texts.{head_line}
use Rattle.grades.specs.Names.{kind_number}

pub tell_draw-requires : goal.tell_draw-requires
tell_draw-requires c =
    let h = c.in-Ok.head in
    let file = c.args.file.now in
    let right = own_right h file c.in-Ok.ensures.2 c.requires.right in
    record {
      right = right;
      grades = c.grades_in-grades.ensures ∙ ap grade_in c.requires.same;
      begun =
          c.in_ok-text.ensures
          ∙ ap (λ (n : ℕ). head_line (kind_number h.kind) h.sizes.packages h.sizes.translators n)
          (c.count.ensures ∙ c.args.checked.now.counted ∙ ap count_in c.requires.same ∙ counted h file (λ k. (c.type_inv.file k).fits) right);
    }

pub returns : goal.returns
returns c =
    let h = c.in-Ok.head in
    let file = c.args.file.now in
    let right = own_right h file c.in-Ok.ensures.2 c.requires.right in
    Report.told (kind_number h.kind) h.sizes.packages h.sizes.translators (grade_in file)
    (held h file (λ k. (c.type_inv.file k).fits) right) c.in_ok-tell_draw.ensures
