-- Lines that no reason holds against.
use Rattle.std.proofs.Common.{List, ◌∷◌, is_some, refl, ap, ⊎_elim, arith}
use Rattle.file_format.proofs.Once.{right_or_one_fault}
use Rattle.page_facts.proofs.Order.{cleared, grade_below, right_of, strike_below}
use Rattle.page_facts.specs.Accepted.{Accepted, GoodDraws, GoodGrades, GoodLoads, GoodShows, GoodSlips, GoodStrikes}
use Rattle.pages.proofs.Clear.{Clear, all_clear}
use Rattle.pages.proofs.Clears.{draw_clear, load_clear, show_clear, spend_clear}
use Rattle.pages.proofs.Told.{refused_for_the_first_reason}
use Rattle.pages.specs.Answers.{Page}
use Rattle.pages.specs.Lines.{Opening, Event, Call}
use Rattle.pages.specs.Reasons.{file_expected}
use Rattle.pages.specs.Standing.{grade_at, standing as stands}
use Rattle.std.proofs.lemmas.Bool.{both_ways}

accepted : (o : Opening) (above : List Event) (e : Event) → Page o (e ∷ above) → Clear o (stands o.packages above) e.line 12 → Accepted e
accepted o above e page c r x =
    all_clear o (stands o.packages above) e.line c r ((refused_for_the_first_reason o above e r page).0 x).0.holds

pub good_grades : GoodGrades
good_grades o above e a b code i q within good room =
    accepted o above e i.line.page
    (grade_below o above e a b code 12 i q (λ _. within) (λ _. good)
    (λ _ none full.
    ⊎_elim
    (λ w. both_ways (is_some (grade_at above a b)) none (ap is_some w.1))
    (λ l. omega (arith, l, full))
    room))

pub good_strikes : GoodStrikes
good_strikes o above e a b code i q within some =
    accepted o above e i.line.page (strike_below o above e a b 12 i q (λ _. within) (λ _. ap is_some some))

pub good_loads : GoodLoads
good_loads o above e file i q none right few =
    accepted o above e i.line.page
    (cleared o above e (Call.load file) 12 q
    (load_clear o (stands o.packages above) e.line.role e.line.plan e.line.set 12 file
    (λ _. right_of o above e (Call.load file) i.line q) (λ _. ap is_some i.idle) (λ _. none)
    (λ _ f bad. (right_or_one_fault (file_expected o) file).1 right f bad) (λ _. few)))

pub good_draws : GoodDraws
good_draws o above e i q plan set =
    accepted o above e i.line.page
    (cleared o above e Call.draw 12 q
    (draw_clear o (stands o.packages above) e.line.role e.line.plan e.line.set 12
    (λ _. right_of o above e Call.draw i.line q) (λ _. ap is_some i.idle) (λ _. plan) (λ _. set)))

pub good_slips : GoodSlips
good_slips o above e d i out h =
    ⊎_elim
    (λ q.
    accepted o above e i.page
    (cleared o above e (Call.publish o.tag) 12 q
    (spend_clear o (stands o.packages above) e.line.role e.line.plan e.line.set 12 (Call.publish o.tag) o.tag refl refl refl refl
    (omega arith) (omega arith) (λ _. right_of o above e (Call.publish o.tag) i q) (λ _. (ap is_some out, refl)))))
    (λ q.
    accepted o above e i.page
    (cleared o above e (Call.withdraw o.tag) 12 q
    (spend_clear o (stands o.packages above) e.line.role e.line.plan e.line.set 12 (Call.withdraw o.tag) o.tag refl refl refl refl
    (omega arith) (omega arith) (λ _. right_of o above e (Call.withdraw o.tag) i q) (λ _. (ap is_some out, refl)))))
    h

pub good_shows : GoodShows
good_shows o above e d i q some plan =
    accepted o above e i.page
    (cleared o above e Call.show 12 q
    (show_clear o (stands o.packages above) e.line.role e.line.plan e.line.set 12
    (λ _. right_of o above e Call.show i q) (λ _. ap is_some some) (λ _. plan)))
