-- Slips that are handed out and spent, and what is published.
use Rattle.std.proofs.Common.{◌≡◌, ℕ, true, ◌⊎◌, List, [], ◌∷◌, ◌++◌, take, is_some as option_is_some, Some, None, Option, sym, refl, ap, ◌∙◌, inl, inr, ⊎_elim, arith}
use Rattle.page_facts.proofs.Ways.{Done, done_way, is_none, is_some, kind_of, page_tail}
use Rattle.page_facts.specs.Lists.{Each}
use Rattle.page_facts.specs.Slips.{DrawnPlansAreOut, OtherLinesLeaveThePublished, OtherLinesLeaveTheSlip, Publishes, ShortDrawsHandOutNone, ShownAsDrawn, SlipsComeFromDraws, Spends, SpentSlipsAreGone}
use Rattle.pages.proofs.Calls.{never_some, same_some}
use Rattle.pages.proofs.Told.{shows_give_the_published_plan}
use Rattle.pages.specs.Answers.{Page, Right}
use Rattle.pages.specs.Lines.{Opening, Event, Call, Outcome}
use Rattle.pages.specs.Reasons.{Reason, slip_of, wants_idle}
use Rattle.pages.specs.Standing.{Drawn, out_at, out_by, out_by_done, published_at, published_by, published_by_done, standing}
use Rattle.refusals.specs.declared.refusal.Refusal.{Refusal}
use Rattle.refusals.specs.declared.refusal.Refusal.TheVariants as refusal
use Rattle.std.proofs.lemmas.Bool.{cases_Bool, cases_eq}

pub drawn_plans_are_out : DrawnPlansAreOut
drawn_plans_are_out p above e code x = ap (λ (u : Outcome). out_by p u e.line.call e.answer.plan (out_at p above)) x

pub spent_slips_are_gone : SpentSlipsAreGone
spent_slips_are_gone o above e page s = (own, is_some (out_at o.packages above) held, ⊎_elim (gone (Call.publish s.tag) refl) (gone (Call.withdraw s.tag) refl) s.call)
  where
    way : Done o (standing o.packages above) e.line
    way = done_way o (standing o.packages above) e.line e.answer page.0 s.outcome

    given : slip_of e.line.call ≡ Some s.tag
    given = ⊎_elim (λ q. ap slip_of q) (λ q. ap slip_of q) s.call

    held : option_is_some (out_at o.packages above) ≡ true
    held =
        ⊎_elim (λ h. h) (λ h. absurd (way.free refusal.WrongSlip (Reason.no_slip_is_out s.tag given h)))
        (cases_Bool (option_is_some (out_at o.packages above)))

    own : s.tag ≡ o.tag
    own = ⊎_elim (λ h. h) (λ h. absurd (way.free refusal.WrongSlip (Reason.slip_of_another_tag s.tag given h))) (cases_eq s.tag o.tag)

    gone : (c : Call) → out_by_done c (out_at o.packages above) ≡ None → e.line.call ≡ c → out_at o.packages (e ∷ above) ≡ None
    gone c h q =
        ap (λ (u : Outcome). out_by o.packages u e.line.call e.answer.plan (out_at o.packages above)) s.outcome
        ∙ ap (λ (d : Call). out_by_done d (out_at o.packages above)) q
        ∙ h

pub short_draws_hand_out_none : ShortDrawsHandOutNone
short_draws_hand_out_none o above e page y = told page.0
  where
    told :
        Right o (standing o.packages above) e.line e.answer
        → (e.answer.slip ≡ None) × (out_at o.packages (e ∷ above) ≡ None)
    told (Right.refused r x f t u) = absurd (omega (arith, ap kind_of (sym x ∙ y)))
    told (Right.done n c k x t u) = absurd (omega (arith, ap kind_of (sym x ∙ y)))
    told (Right.drawn n c code x u) = absurd (omega (arith, ap kind_of (sym x ∙ y)))
    told (Right.short n c x u) = (
      u.slip,
      ap (λ (v : Outcome). out_by o.packages v e.line.call e.answer.plan (out_at o.packages above)) x
          ∙ is_none (out_at o.packages above)
          (⊎_elim (λ h. absurd (n refusal.SlipOut (Reason.slip_is_out (ap wants_idle c) h))) (λ h. h) (cases_Bool (option_is_some (out_at o.packages above)))),
    )
    told (Right.shown n c d q x u) = absurd (omega (arith, ap kind_of (sym x ∙ y)))

pub slips_come_from_draws : SlipsComeFromDraws
slips_come_from_draws o above e tag page y = told page.0
  where
    told :
        Right o (standing o.packages above) e.line e.answer
        → (((code : ℕ) × (e.answer.outcome ≡ Outcome.drawn code)) × (tag ≡ o.tag))
        ⊎ (((r : Refusal) × (e.answer.outcome ≡ Outcome.refused r)) × (slip_of e.line.call ≡ Some tag))
    told (Right.refused r x f t u) = inr ((r, x), sym t ∙ y)
    told (Right.done n c k x t u) = absurd (never_some tag (sym t ∙ y))
    told (Right.drawn n c code x u) = inl ((code, x), same_some tag o.tag (sym y ∙ u.slip))
    told (Right.short n c x u) = absurd (never_some tag (sym u.slip ∙ y))
    told (Right.shown n c d q x u) = absurd (never_some tag (sym u.slip ∙ y))

-- by outcome and call
slip_stays :
    (p : ℕ) (e : Event) (u : Outcome) (c : Call) (plan : List ℕ) (old : Option Drawn) → e.answer.outcome ≡ u → e.line.call ≡ c
    → ((code : ℕ) → e.answer.outcome ≡ Outcome.drawn code → ⊥) → (Spends e → ⊥) → out_by p u c plan old ≡ old
slip_stays p e Outcome.done (Call.grade a b code) plan old x q n m = refl
slip_stays p e Outcome.done (Call.strike a b) plan old x q n m = refl
slip_stays p e Outcome.done (Call.load file) plan old x q n m = refl
slip_stays p e Outcome.done Call.draw plan old x q n m = refl
slip_stays p e Outcome.done (Call.publish tag) plan old x q n m = absurd (m (record { tag = tag; call = inl q; outcome = x }))
slip_stays p e Outcome.done (Call.withdraw tag) plan old x q n m = absurd (m (record { tag = tag; call = inr q; outcome = x }))
slip_stays p e Outcome.done Call.show plan old x q n m = refl
slip_stays p e (Outcome.drawn code) c plan old x q n m = absurd (n code x)
slip_stays p e Outcome.short c plan old x q n m = refl
slip_stays p e (Outcome.shown code) c plan old x q n m = refl
slip_stays p e (Outcome.refused r) c plan old x q n m = refl

pub other_lines_leave_the_slip : OtherLinesLeaveTheSlip
other_lines_leave_the_slip p above e n m =
    slip_stays p e e.answer.outcome e.line.call e.answer.plan (out_at p above) refl refl n m

published_stays :
    (e : Event) (u : Outcome) (c : Call) (out old : Option Drawn) → e.answer.outcome ≡ u → e.line.call ≡ c → (Publishes e → ⊥)
    → published_by u c out old ≡ old
published_stays e Outcome.done (Call.grade a b code) out old x q m = refl
published_stays e Outcome.done (Call.strike a b) out old x q m = refl
published_stays e Outcome.done (Call.load file) out old x q m = refl
published_stays e Outcome.done Call.draw out old x q m = refl
published_stays e Outcome.done (Call.publish tag) out old x q m = absurd (m (record { tag = tag; call = q; outcome = x }))
published_stays e Outcome.done (Call.withdraw tag) out old x q m = refl
published_stays e Outcome.done Call.show out old x q m = refl
published_stays e (Outcome.drawn code) c out old x q m = refl
published_stays e Outcome.short c out old x q m = refl
published_stays e (Outcome.shown code) c out old x q m = refl
published_stays e (Outcome.refused r) c out old x q m = refl

pub other_lines_leave_the_published : OtherLinesLeaveThePublished
other_lines_leave_the_published p above e m =
    published_stays e e.answer.outcome e.line.call (out_at p above) (published_at p above) refl refl m

-- while a plan is out, no draw is answered drawn
never_drawn :
    (o : Opening) (above : List Event) (e : Event) (d : Drawn) → Page o (e ∷ above) → out_at o.packages above ≡ Some d
    → (code : ℕ) → e.answer.outcome ≡ Outcome.drawn code → ⊥
never_drawn o above e d page w code y = told page.0
  where
    told : Right o (standing o.packages above) e.line e.answer → ⊥
    told (Right.refused r x f t u) = omega (arith, ap kind_of (sym x ∙ y))
    told (Right.done n c k x t u) = omega (arith, ap kind_of (sym x ∙ y))
    told (Right.drawn n c other x u) = n refusal.SlipOut (Reason.slip_is_out (ap wants_idle c) (ap option_is_some w))
    told (Right.short n c x u) = omega (arith, ap kind_of (sym x ∙ y))
    told (Right.shown n c g q x u) = omega (arith, ap kind_of (sym x ∙ y))

module _ (o : Opening) (above : List Event) (d : Event) (code : ℕ) (drawn : d.answer.outcome ≡ Outcome.drawn code) where
  still_out :
      (between : List Event) → Page o (between ++ d ∷ above) → Each (λ f. Spends f → ⊥) between
      → out_at o.packages (between ++ d ∷ above) ≡ Some (record { plan = take o.packages d.answer.plan; lowest = code })
  still_out [] page s = drawn_plans_are_out o.packages above d code drawn
  still_out (f ∷ between) page s =
      let ih = still_out between page.1 s.1 in
      other_lines_leave_the_slip o.packages (between ++ d ∷ above) f
      (never_drawn o (between ++ d ∷ above) f (record { plan = take o.packages d.answer.plan; lowest = code }) page ih) s.0
      ∙ ih

  now_published :
      (between : List Event) (e : Event) → Page o (e ∷ between ++ d ∷ above) → Each (λ f. Spends f → ⊥) between → Publishes e
      → published_at o.packages (e ∷ between ++ d ∷ above) ≡ Some (record { plan = take o.packages d.answer.plan; lowest = code })
  now_published between e page s w =
      let p : ℕ = o.packages in
      let rest : List Event = between ++ d ∷ above in
      ap (λ (u : Outcome). published_by u e.line.call (out_at p rest) (published_at p rest)) w.outcome
      ∙ ap (λ (c : Call). published_by_done c (out_at p rest) (published_at p rest)) w.call
      ∙ still_out between page.1 s

still_published :
    (p : ℕ) (later rest : List Event) → Each (λ f. Publishes f → ⊥) later → published_at p (later ++ rest) ≡ published_at p rest
still_published p [] rest s = refl
still_published p (f ∷ later) rest s = other_lines_leave_the_published p (later ++ rest) f s.0 ∙ still_published p later rest s.1

pub shown_as_drawn : ShownAsDrawn
shown_as_drawn o above between later d e s code page drawn kept pub' last is free =
    let rest : List Event = e ∷ between ++ d ∷ above in
    let w = shows_give_the_published_plan o (later ++ rest) s page is free in
    let q = still_published o.packages later rest last ∙ now_published o above d code drawn between e (page_tail o later rest page.1) kept pub' in
    let same : w.0 ≡ record { plan = take o.packages d.answer.plan; lowest = code } =
    same_some w.0 (record { plan = take o.packages d.answer.plan; lowest = code }) (sym w.1 ∙ q) in
    (w.2 ∙ ap (λ (z : Drawn). Outcome.shown z.lowest) same, w.3.plan ∙ ap (λ (z : Drawn). z.plan) same)
