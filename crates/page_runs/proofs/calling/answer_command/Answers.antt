use Rattle.std.proofs.Common.{ℕ, ◌∷◌, replicate, refl, ap, ◌∙◌, subst}
use Rattle.page_runs.proofs.Steps.{once, lives, tells, not_called, told_at, told_cut}
use Rattle.page_runs.proofs.calling.answer_command.Goals as goal
use Rattle.page_runs.specs.Asks.{told_as, event}
use Rattle.page_runs.specs.Live.{Puts}
use Rattle.page_text.specs.Commands.{said_of}
use Rattle.page_text.specs.Replies as reply
use Rattle.sheet.specs.Lines.{asked_of, told_of}

pub joined-requires : goal.joined-requires
joined-requires c =
    let w = subst (λ x. Puts (said_of c.args.command) c.args.held x c.call_for.result.1) c.in-Ok-default.is-0 c.call_for.ensures in
    once c.args.sizes.packages c.args.sizes.translators c.requires.0 c.args.sheet.now c.call-outcome.new.self
    c.args.held c.call_for.result.1 (asked_of c.in-Ok-default.line (replicate 48 0) (replicate 48 0))
    (told_of c.call-outcome.result c.call-outcome.new.plan c.call-outcome.new.set)
    c.requires.1 w.1 c.call-outcome.ensures.ran c.call-outcome.result.slip refl

pub returns-in-Err-default : goal.returns-in-Err-default
returns-in-Err-default c h live =
    let w = subst (λ x. Puts (said_of c.args.command) c.args.held x c.call_for.result.1) c.in-Err-default.is-0 c.call_for.ensures in
    let n = not_called c.args.sizes.packages c.args.sizes.translators h c.args.sheet.now c.args.held c.call_for.result.1
    (said_of c.args.command) (reply.told_of c.in-Err-default.reply) live w in
    (reply.told_of c.in-Err-default.reply, h, n.0, n.1, c.tell.ensures)

pub returns-in-Ok-default : goal.returns-in-Ok-default
returns-in-Ok-default c h live =
    let p = c.args.sizes.packages in
    let t = c.args.sizes.translators in
    let s = c.args.sheet.now in
    let after = c.call-outcome.new.self in
    let l = asked_of c.in-Ok-default.line (replicate 48 0) (replicate 48 0) in
    let a = told_of c.call-outcome.result c.call-outcome.new.plan c.call-outcome.new.set in
    let w = subst (λ x. Puts (said_of c.args.command) c.args.held x c.call_for.result.1) c.in-Ok-default.is-0 c.call_for.ensures in (
      told_as p a.outcome a.plan,
      event l a ∷ h,
      lives p t h s after c.args.held c.call_for.result.1 l a live w.1 c.call-outcome.ensures.ran c.joined.result
          c.joined.ensures,
      tells p t h s after c.args.held c.call_for.result.1 l a live w.1 c.call-outcome.ensures.ran
          (said_of c.args.command) w.0,
      told_at _ _ _ _ _
          (c.reply_of.ensures ∙ told_cut c.from-packages.result a.outcome a.plan
          ∙ ap (λ (n : ℕ). told_as n a.outcome a.plan) (c.from-packages.ensures ∙ c.packages.ensures))
          c.tell-told.ensures,
    )
