use Rattle.matching.specs.Answers.{member}
use Rattle.plan_report.proofs.Growing.{if_ok, two_parts}
use Rattle.plan_report.proofs.lines.write_short.Goals as goal
use Rattle.plan_report.specs.Texts.{no_plan_line, set_line, short_words}
use Rattle.std.proofs.Common.{length, string_bytes}

pub returns : goal.returns
returns c =
    if_ok c.write_set.result _ _
    (λ _ h.
    two_parts (string_bytes c.args.out.now) no_plan_line
    (set_line short_words (member c.args.set.now) (length c.args.set.now)) (string_bytes c.writeln.new.self)
    (string_bytes c.write_set.new.out) c.in_ok-writeln.ensures.bytes h)
    c.write_set.ensures
