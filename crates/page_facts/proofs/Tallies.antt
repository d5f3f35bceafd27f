-- What the counts count.
use Rattle.std.proofs.Common.{◌≡◌, ℕ, cond, List, [], ◌∷◌, ◌++◌, is_some, Option, refl, ap, ◌∙◌, arith}
use Rattle.page_facts.specs.Counted.{NewestLineFirst, SlipCounts, Withdraws}
use Rattle.page_facts.specs.Slips.{Publishes}
use Rattle.pages.specs.Lines.{Event, Call, Outcome, run_on}
use Rattle.pages.specs.Promises.{one_if_done, one_if_drawn, one_if_publish, one_if_withdraw}
use Rattle.pages.specs.Standing.{Drawn}

-- a line that adds nothing, by outcome and call
no_draw : (e : Event) (u : Outcome) → e.answer.outcome ≡ u → ((code : ℕ) → e.answer.outcome ≡ Outcome.drawn code → ⊥) → one_if_drawn u ≡ 0
no_draw e Outcome.done x n = refl
no_draw e (Outcome.drawn code) x n = absurd (n code x)
no_draw e Outcome.short x n = refl
no_draw e (Outcome.shown code) x n = refl
no_draw e (Outcome.refused r) x n = refl

none_published : (c : Call) → one_if_publish c 0 ≡ 0
none_published (Call.grade a b code) = refl
none_published (Call.strike a b) = refl
none_published (Call.load file) = refl
none_published Call.draw = refl
none_published (Call.publish tag) = refl
none_published (Call.withdraw tag) = refl
none_published Call.show = refl

none_withdrawn : (c : Call) → one_if_withdraw c 0 ≡ 0
none_withdrawn (Call.grade a b code) = refl
none_withdrawn (Call.strike a b) = refl
none_withdrawn (Call.load file) = refl
none_withdrawn Call.draw = refl
none_withdrawn (Call.publish tag) = refl
none_withdrawn (Call.withdraw tag) = refl
none_withdrawn Call.show = refl

published_done : (e : Event) (c : Call) → e.line.call ≡ c → e.answer.outcome ≡ Outcome.done → (Publishes e → ⊥) → one_if_publish c 1 ≡ 0
published_done e (Call.grade a b code) q x n = refl
published_done e (Call.strike a b) q x n = refl
published_done e (Call.load file) q x n = refl
published_done e Call.draw q x n = refl
published_done e (Call.publish tag) q x n = absurd (n (record { tag = tag; call = q; outcome = x }))
published_done e (Call.withdraw tag) q x n = refl
published_done e Call.show q x n = refl

withdrawn_done : (e : Event) (c : Call) → e.line.call ≡ c → e.answer.outcome ≡ Outcome.done → (Withdraws e → ⊥) → one_if_withdraw c 1 ≡ 0
withdrawn_done e (Call.grade a b code) q x n = refl
withdrawn_done e (Call.strike a b) q x n = refl
withdrawn_done e (Call.load file) q x n = refl
withdrawn_done e Call.draw q x n = refl
withdrawn_done e (Call.publish tag) q x n = refl
withdrawn_done e (Call.withdraw tag) q x n = absurd (n (record { tag = tag; call = q; outcome = x }))
withdrawn_done e Call.show q x n = refl

no_publish : (e : Event) (u : Outcome) → e.answer.outcome ≡ u → (Publishes e → ⊥) → one_if_publish e.line.call (one_if_done u) ≡ 0
no_publish e Outcome.done x n = published_done e e.line.call refl x n
no_publish e (Outcome.drawn code) x n = none_published e.line.call
no_publish e Outcome.short x n = none_published e.line.call
no_publish e (Outcome.shown code) x n = none_published e.line.call
no_publish e (Outcome.refused r) x n = none_published e.line.call

no_withdraw : (e : Event) (u : Outcome) → e.answer.outcome ≡ u → (Withdraws e → ⊥) → one_if_withdraw e.line.call (one_if_done u) ≡ 0
no_withdraw e Outcome.done x n = withdrawn_done e e.line.call refl x n
no_withdraw e (Outcome.drawn code) x n = none_withdrawn e.line.call
no_withdraw e Outcome.short x n = none_withdrawn e.line.call
no_withdraw e (Outcome.shown code) x n = none_withdrawn e.line.call
no_withdraw e (Outcome.refused r) x n = none_withdrawn e.line.call

pub slip_counts : SlipCounts
slip_counts =
    record {
      start = (refl, refl, refl);
      drawn = λ h e code x. let a : one_if_drawn e.answer.outcome ≡ 1 = ap one_if_drawn x in omega (arith, a);
      not_drawn = λ h e n. let a = no_draw e e.answer.outcome refl n in omega (arith, a);
      published = λ h e w.
          let a : one_if_publish e.line.call (one_if_done e.answer.outcome) ≡ 1 =
          ap (λ (c : Call). one_if_publish c (one_if_done e.answer.outcome)) w.call ∙ ap one_if_done w.outcome in
          omega (arith, a);
      not_published = λ h e n. let a = no_publish e e.answer.outcome refl n in omega (arith, a);
      withdrawn = λ h e w.
          let a : one_if_withdraw e.line.call (one_if_done e.answer.outcome) ≡ 1 =
          ap (λ (c : Call). one_if_withdraw c (one_if_done e.answer.outcome)) w.call ∙ ap one_if_done w.outcome in
          omega (arith, a);
      not_withdrawn = λ h e n. let a = no_withdraw e e.answer.outcome refl n in omega (arith, a);
      out = λ p h d e. ap (λ (x : Option Drawn). cond (is_some x) 1 0) e;
      none_out = λ p h e. ap (λ (x : Option Drawn). cond (is_some x) 1 0) e;
    }

newest : (h es : List Event) (e : Event) → run_on h (es ++ e ∷ []) ≡ e ∷ run_on h es
newest h [] e = refl
newest h (f ∷ es) e = newest (f ∷ h) es e

pub newest_line_first : NewestLineFirst
newest_line_first h es e = (refl, newest h es e)
