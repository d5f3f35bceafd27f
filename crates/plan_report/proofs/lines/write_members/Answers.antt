use Rattle.matching.specs.Answers.{member}
use Rattle.plan_report.proofs.Growing.{members_none, members_more}
use Rattle.plan_report.proofs.lines.write_members.Goals as goal
use Rattle.std.proofs.Common.{string_bytes}

pub loop-place-init : goal.loop-place-init
loop-place-init c = members_none (member c.args.set.now) (string_bytes c.args.out.now)

pub loop-place-preserved : goal.loop-place-preserved
loop-place-preserved c =
    members_more (member c.args.set.now) (string_bytes c.args.out.now) (string_bytes c.loop-place.out)
    (string_bytes c.write_member.new.out) c.loop-place.place c.loop-place.invariant c.in_ok-write_member.ensures
