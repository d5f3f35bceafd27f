use Rattle.std.proofs.Common.{string_bytes}
use Rattle.page_runs.proofs.Whole.{made_ok, goes_on, ends_withdrawn, ends_idle}
use Rattle.page_runs.proofs.run.run_lines.Goals as goal
use Rattle.page_runs.specs.Asks.{opening_with}
use Rattle.page_text.specs.Commands.{said_of}
use Rattle.plain_text.specs.Lines.{left_of}

pub loop-line-preserved : goal.loop-line-preserved
loop-line-preserved c =
    let i = c.loop-line.invariant in
    let w = c.answer_command-kept.ensures i.0 i.1 in (
      w.1,
      w.2,
      goes_on (opening_with c.args.sizes.packages c.args.sizes.translators) i.0 w.1 (left_of c.loop-line.line-iterator)
          (left_of c.next.new.self) (left_of c.args.lines) c.in-Some.line.now (said_of c.parse.result)
          (string_bytes c.loop-line.out) (string_bytes c.answer_command-kept.new.out) (string_bytes c.args.out.now) w.0
          i.2 c.in-Some.ensures.steps c.parse.ensures w.3
          (made_ok c.answer_command-kept.result.1 c.in_default.field-0 _ c.in_default.is w.4),
    )

pub returns-in_ok-tell : goal.returns-in_ok-tell
returns-in_ok-tell c =
    let i = c.loop-line.invariant in
    ends_withdrawn c.args.sizes.packages c.args.sizes.translators i.0 (left_of c.loop-line.line-iterator)
    (left_of c.args.lines) (string_bytes c.loop-line.out) (string_bytes c.tell.new.out)
    (string_bytes c.args.out.now) i.2 c.in-None.ensures.steps.0
    (c.if-close.ensures c.args.sizes.packages c.args.sizes.translators i.0 i.1)
    c.in_ok-tell.ensures

pub returns-else-close : goal.returns-else-close
returns-else-close c =
    let i = c.loop-line.invariant in
    ends_idle c.args.sizes.packages c.args.sizes.translators i.0 (left_of c.loop-line.line-iterator)
    (left_of c.args.lines) (string_bytes c.loop-line.out) (string_bytes c.args.out.now) i.2
    c.in-None.ensures.steps.0 (c.if-close.ensures c.args.sizes.packages c.args.sizes.translators i.0 i.1)
