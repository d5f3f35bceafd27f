use Rattle.page_runs.proofs.Steps.{closed}
use Rattle.page_runs.proofs.calling.close.Goals as goal
use Rattle.sheet.specs.Lines.{asked_of, told_of}
use Rattle.std.proofs.Common.{replicate}

pub returns : goal.returns
returns c p t h live =
    closed p t h c.args.sheet.now c.call-slip.new.self c.args.held c.in-Some.slip
    (asked_of c.last_line.result (replicate 48 0) (replicate 48 0))
    (told_of c.call-slip.result c.call-slip.new.plan c.call-slip.new.set) live c.in-Some.is
    (c.last_line.ensures (replicate 48 0) (replicate 48 0)) c.call-slip.ensures.ran
