use Rattle.std.proofs.Common.{ℕ, List, ◌++◌, string_bytes, sym, ap, ◌∙◌, append_assoc, arith}
use Rattle.page_runs.proofs.Whole.{made_map, opening_refused, opening_follows}
use Rattle.page_runs.proofs.run.write_output.Goals as goal
use Rattle.page_text.specs.Commands.{said_of}
use Rattle.page_text.specs.Replies.{Told, line_of}
use Rattle.plain_text.specs.Lines.{left_of}
use Rattle.refusals.specs.Refusals.{number_of}

pub returns-in-Err : goal.returns-in-Err
returns-in-Err c =
    made_map c.tell-in-Err.result _ _
    (λ u e. (
      line_of (Told.refused (number_of c.in-Err.refusal)),
      e,
      opening_refused c.args.input.now c.in-Some.first.now (left_of c.next.new.self) c.in-Open.packages
          c.in-Open.translators (said_of c.parse.result) (omega arith) (sym c.new-lines.ensures ∙ c.in-Some.ensures.steps)
          c.parse.ensures (ap said_of c.in-Open.is) c.in-Err.refusal c.in-Err.ensures,
    ))
    c.tell-in-Err.ensures

pub returns-in_ok-tell-in-Ok : goal.returns-in_ok-tell-in-Ok
returns-in_ok-tell-in-Ok c =
    made_map c.run_lines.result _ _
    (λ u w. (
      line_of Told.ok ++ w.0,
      w.1 ∙ ap (λ (x : List ℕ). x ++ w.0) c.in_ok-tell-in-Ok.ensures
          ∙ append_assoc (string_bytes c.args.out.now) (line_of Told.ok) w.0,
      opening_follows c.args.input.now c.in-Some.first.now (left_of c.next.new.self) c.in-Open.packages
          c.in-Open.translators (said_of c.parse.result) (omega arith) (sym c.new-lines.ensures ∙ c.in-Some.ensures.steps)
          c.parse.ensures (ap said_of c.in-Open.is) c.in-Ok.sizes.packages c.in-Ok.sizes.translators w.0
          c.in-Ok.ensures w.2,
    ))
    c.run_lines.ensures
