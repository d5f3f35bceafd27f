use Rattle.page_text.proofs.reply.text.write_plan.Given as goal
use Rattle.page_text.specs.Replies.{spaced}
use Rattle.std.specs.List.{flat_map}
use Rattle.std.specs.Fmt.{IsPlainFormatter, HasWritten}
use Rattle.std.proofs.Common.{take}

abbrev pub invariant-loop-translator : goal.invariant-loop-translator
invariant-loop-translator g l =
    IsPlainFormatter l.initial.f → HasWritten g.W.Write.write_str_gives l.initial.f (flat_map spaced (take l.translator-index l.plan)) l.f
