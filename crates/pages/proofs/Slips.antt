-- Draws, publishes, withdraws and slips, counted line by line.
use Rattle.std.proofs.Common.{◌≡◌, ℕ, ◌+◌, true, false, cond, List, [], ◌∷◌, is_some, Some, Option, sym, refl, ap, subst, ⊎_elim, arith}
use Rattle.pages.specs.Answers.{Right}
use Rattle.pages.specs.Lines.{Opening, Line, Answer, Call, Outcome}
use Rattle.pages.specs.Promises.{EverySlipIsCounted, one_if_drawn, one_if_done, one_if_publish, one_if_withdraw}
use Rattle.pages.specs.Reasons.{Reason, NoReason, wants_idle, slip_of}
use Rattle.pages.specs.Standing.{Standing, Drawn, out_by, standing}
use Rattle.refusals.specs.declared.refusal.Refusal.TheVariants as refusal
use Rattle.std.proofs.lemmas.Bool.{cases_Bool}

abbrev out_count : Option Drawn → ℕ
out_count out = cond (is_some out) 1 0

-- what one line adds to either side
abbrev Balanced : ℕ → Outcome → Call → List ℕ → Option Drawn → Type 0
Balanced p u c plan out =
    one_if_drawn u + out_count out ≡ one_if_publish c (one_if_done u) + one_if_withdraw c (one_if_done u) + out_count (out_by p u c plan out)

idle : (o : Opening) (s : Standing) (l : Line) → NoReason o s l → wants_idle l.call ≡ true → is_some s.out ≡ false
idle o s l n w =
    ⊎_elim (λ e. absurd (n refusal.SlipOut (Reason.slip_is_out w e))) (λ e. e) (cases_Bool (is_some s.out))

held : (o : Opening) (s : Standing) (l : Line) (tag : ℕ) → NoReason o s l → slip_of l.call ≡ Some tag → is_some s.out ≡ true
held o s l tag n w =
    ⊎_elim (λ e. e) (λ e. absurd (n refusal.WrongSlip (Reason.no_slip_is_out tag w e))) (cases_Bool (is_some s.out))

by_call :
    (o : Opening) (s : Standing) (l : Line) (c : Call) (plan : List ℕ) → NoReason o s l → l.call ≡ c
    → Balanced o.packages Outcome.done c plan s.out
by_call o s l (Call.grade a b code) plan n e = omega arith
by_call o s l (Call.strike a b) plan n e = omega arith
by_call o s l (Call.load file) plan n e = omega arith
by_call o s l Call.draw plan n e = omega arith
by_call o s l (Call.publish tag) plan n e = rw (held o s l tag n (ap slip_of e)) refl
by_call o s l (Call.withdraw tag) plan n e = rw (held o s l tag n (ap slip_of e)) refl
by_call o s l Call.show plan n e = omega arith

no_publish : (c : Call) → one_if_publish c 0 ≡ 0
no_publish (Call.grade a b code) = refl
no_publish (Call.strike a b) = refl
no_publish (Call.load file) = refl
no_publish Call.draw = refl
no_publish (Call.publish tag) = refl
no_publish (Call.withdraw tag) = refl
no_publish Call.show = refl

no_withdraw : (c : Call) → one_if_withdraw c 0 ≡ 0
no_withdraw (Call.grade a b code) = refl
no_withdraw (Call.strike a b) = refl
no_withdraw (Call.load file) = refl
no_withdraw Call.draw = refl
no_withdraw (Call.publish tag) = refl
no_withdraw (Call.withdraw tag) = refl
no_withdraw Call.show = refl

-- a line that spends no slip and draws none
quiet : (c : Call) (n : ℕ) → 0 + n ≡ one_if_publish c 0 + one_if_withdraw c 0 + n
quiet c n = omega (arith, no_publish c, no_withdraw c)

balanced :
    (o : Opening) (s : Standing) (l : Line) (a : Answer) → Right o s l a
    → Balanced o.packages a.outcome l.call a.plan s.out
balanced o s l a (Right.refused r x f t u) =
    subst (λ (v : Outcome). Balanced o.packages v l.call a.plan s.out) (sym x) (quiet l.call (out_count s.out))
balanced o s l a (Right.done n c z x t u) =
    subst (λ (v : Outcome). Balanced o.packages v l.call a.plan s.out) (sym x) (by_call o s l l.call a.plan n refl)
balanced o s l a (Right.drawn n c code x u) =
    subst (λ (v : Outcome). Balanced o.packages v l.call a.plan s.out) (sym x)
    (rw (idle o s l n (ap wants_idle c)) (omega (arith, no_publish l.call, no_withdraw l.call)))
balanced o s l a (Right.short n c x u) =
    subst (λ (v : Outcome). Balanced o.packages v l.call a.plan s.out) (sym x) (quiet l.call (out_count s.out))
balanced o s l a (Right.shown n c d e x u) =
    subst (λ (v : Outcome). Balanced o.packages v l.call a.plan s.out) (sym x) (quiet l.call (out_count s.out))

pub every_slip_is_counted : EverySlipIsCounted
every_slip_is_counted o [] q = refl
every_slip_is_counted o (e ∷ above) q =
    omega (arith, balanced o (standing o.packages above) e.line e.answer q.0, every_slip_is_counted o above q.1)
