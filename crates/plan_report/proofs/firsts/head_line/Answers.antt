use Rattle.file_format.specs.Words.{sheet_line}
use Rattle.plan_report.proofs.Growing.{if_ok}
use Rattle.plan_report.proofs.firsts.head_line.Goals as goal
use Rattle.plan_report.specs.Texts.{ended}
use Rattle.std.proofs.Common.{◌≡◌, string_bytes, ap, ◌∙◌, append_assoc}

pub returns : goal.returns
returns c =
    if_ok c.format.result _ _
    (λ text h.
    let line : string_bytes text ≡ ended (sheet_line c.into.result c.args.count) =
    simp append_assoc (simp append_assoc at h) in
    line ∙ ap (λ s. ended (sheet_line s c.args.count)) c.into.ensures)
    c.format.ensures.ok
