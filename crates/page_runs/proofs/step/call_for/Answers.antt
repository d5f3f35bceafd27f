use Rattle.page_runs.proofs.step.call_for.Goals as goal
use Rattle.page_runs.specs.Asks.{asks, line_for}
use Rattle.page_runs.specs.Live.{NoCall}
use Rattle.page_text.specs.Commands.{said_of}
use Rattle.page_text.specs.declared.command.Command.{Command}
use Rattle.pages.specs.Lines.{Call}
use Rattle.std.proofs.Common.{refl, ap}

pub returns-in-Publish-None : goal.returns-in-Publish-None
returns-in-Publish-None c =
    NoCall.no_slip (asks c.in-Publish-None.role-0 (Call.publish 1))
    (ap (λ (x : Command). line_for (said_of x)) c.in-Publish-None.is-0) refl refl c.in-Publish-None.is-1 refl

pub returns-in-Withdraw-None : goal.returns-in-Withdraw-None
returns-in-Withdraw-None c =
    NoCall.no_slip (asks c.in-Withdraw-None.role-0 (Call.withdraw 1))
    (ap (λ (x : Command). line_for (said_of x)) c.in-Withdraw-None.is-0) refl refl c.in-Withdraw-None.is-1 refl
