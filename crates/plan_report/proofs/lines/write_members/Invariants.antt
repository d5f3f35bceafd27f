use Rattle.matching.specs.Answers.{member}
use Rattle.plan_report.proofs.lines.write_members.Given as goal
use Rattle.plan_report.specs.Texts.{members}
use Rattle.std.proofs.Common.{◌≡◌, ◌++◌, string_bytes}

abbrev pub invariant-loop-place : goal.invariant-loop-place
invariant-loop-place l =
    string_bytes l.out ≡ string_bytes l.initial.out ++ members (member l.set) l.place
