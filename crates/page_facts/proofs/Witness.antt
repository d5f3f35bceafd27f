-- The short page, line by line.
use Rattle.std.proofs.Common.{◌≡◌, ℕ, zero, suc, ◌<◌, true, List, [], ◌∷◌, get_or, Some, None, refl, ap, subst, inr, arith}
use Rattle.books.proofs.Standing.{standing_le}
use Rattle.books.specs.Meaning.{in_row, standing as standing-grades}
use Rattle.file_format.proofs.Once.{right_or_one_fault}
use Rattle.file_format.proofs.RoundTrip.{file_is_right}
use Rattle.file_format.specs.FileOf.{file_of, grades_bytes, row_bytes}
use Rattle.file_format.specs.Laws.{Bytes}
use Rattle.file_format.specs.Rules as rules
use Rattle.grades.specs.Points.{above_points, valid_points}
use Rattle.matching.proofs.Buffers.{counted_valid}
use Rattle.matching.specs.Answers.{member}
use Rattle.page_facts.proofs.Points.{points_in_order}
use Rattle.page_facts.proofs.Rights.{first_of_all}
use Rattle.page_facts.specs.Witness.{ThereIsAPage, empty_file, page_1, page_2, page_3, page_4, page_5, page_6, page_7, page_8, page_9, page_10, small}
use Rattle.pages.proofs.Calls.{never_some}
use Rattle.pages.proofs.Clear.{Clear, all_clear, is_first}
use Rattle.pages.proofs.Clears.{draw_clear, grade_clear, load_clear, show_clear, spend_clear, strike_clear}
use Rattle.pages.specs.Answers.{Given, Right, says_done, valid_only}
use Rattle.pages.specs.Lines.{Answer, Call, Event, Line, Outcome}
use Rattle.pages.specs.Reasons.{Reason, file_expected}
use Rattle.pages.specs.Standing.{grade_at, standing}
use Rattle.plan_facts.proofs.Single.{last_translator_counts, ungraded_package_is_short}
use Rattle.refusals.specs.declared.refusal.Refusal.TheVariants as refusal

abbrev line : ℕ → Call → Line
line role call = record { role = role; call = call; plan = 9 ∷ 9 ∷ []; set = 5 ∷ 6 ∷ [] }

abbrev same : Outcome → Answer
same u = record { outcome = u; slip = None; plan = 9 ∷ 9 ∷ []; set = 5 ∷ 6 ∷ [] }

done_line :
    (h : List Event) (role : ℕ) (call : Call) → Clear small (standing 1 h) (line role call) 12 → says_done call ≡ true → Given call
    → Right small (standing 1 h) (line role call) (same Outcome.done)
done_line h role call c d g =
    Right.done (all_clear small (standing 1 h) (line role call) c) d g refl refl (record { plan = refl; set = refl })

-- the file without records is right
the_file : file_of 1 1 1 (λ i j. None) ≡ empty_file
unfolding standing-grades in_row grades_bytes row_bytes
the_file = refl

file_right : rules.Right (file_expected small) empty_file
file_right =
    subst (rules.Right (file_expected small)) the_file
    (file_is_right 1 valid_points 1 1 (λ i j. None)
    (record {
      sizes = (omega arith, omega arith, omega arith, omega arith);
      outside = λ i j h. refl;
      codes = λ i j code e. absurd (never_some code e);
    })).0

file_bytes : Bytes empty_file
file_bytes zero = omega arith
file_bytes (suc zero) = omega arith
file_bytes (suc (suc zero)) = omega arith
file_bytes (suc (suc (suc zero))) = omega arith
file_bytes (suc (suc (suc (suc zero)))) = omega arith
file_bytes (suc (suc (suc (suc (suc zero))))) = omega arith
file_bytes (suc (suc (suc (suc (suc (suc zero)))))) = omega arith
file_bytes (suc (suc (suc (suc (suc (suc (suc k))))))) = omega arith

loaded : Right small (standing 1 []) (line 3 (Call.load empty_file)) (same Outcome.done)
loaded =
    done_line [] 3 (Call.load empty_file)
    (load_clear small (standing 1 []) 3 (9 ∷ 9 ∷ []) (5 ∷ 6 ∷ []) 12 empty_file (λ _. refl) (λ _. refl) (λ _ i j. refl)
    (λ _ f bad. (right_or_one_fault (file_expected small) empty_file).1 file_right f bad) (λ _. omega arith))
    refl file_bytes

-- a reader's grade line
reader : Right small (standing 1 page_1) (line 1 (Call.grade 1 1 700)) (same (Outcome.refused refusal.Role))
reader =
    Right.refused refusal.Role refl
    (is_first small (standing 1 page_1) (line 1 (Call.grade 1 1 700)) refusal.Role (Reason.lacks_the_right refl)
    (first_of_all small (standing 1 page_1) (line 1 (Call.grade 1 1 700))))
    refl (record { plan = refl; set = refl })

graded : Right small (standing 1 page_2) (line 2 (Call.grade 1 1 700)) (same Outcome.done)
graded =
    done_line page_2 2 (Call.grade 1 1 700)
    (grade_clear small (standing 1 page_2) 2 (9 ∷ 9 ∷ []) (5 ∷ 6 ∷ []) 12 1 1 700 (λ _. refl) (λ _. refl) (λ _. refl) (λ _. refl)
    (λ _ _ full. let few = standing_le (grade_at page_2) 1 1 in omega (arith, few, full)))
    refl tt

-- the one grade is drawn, with the set of the one package
only_place : (P : ℕ → Type 0) → P 0 → (k : ℕ) → k < 1 → P k
only_place P h zero l = h
only_place P h (suc k) l = absurd (omega arith)

marked : (k : ℕ) → k < 1 → get_or {A = ℕ} (1 ∷ 6 ∷ []) k 0 ≡ 1
marked = only_place (λ k. get_or {A = ℕ} (1 ∷ 6 ∷ []) k 0 ≡ 1) refl

drawn_line :
    (h : List Event) (role : ℕ) → Clear small (standing 1 h) (line role Call.draw) 12 → valid_only small (grade_at h) 1 1 ≡ Some 700
    → Right small (standing 1 h) (line role Call.draw)
    (record { outcome = Outcome.drawn 700; slip = Some 7; plan = 1 ∷ 9 ∷ []; set = 1 ∷ 6 ∷ [] })
drawn_line h role c e =
    let w =
    last_translator_counts valid_points above_points points_in_order (valid_only small (grade_at h))
    (λ k j code q. counted_valid valid_points (grade_at h k j) code q) 1 700 (omega arith) e (λ j l m. absurd (omega arith)) in
    Right.drawn (all_clear small (standing 1 h) (line role Call.draw) c) refl 700 refl
    (record {
      best = w.0;
      plan_rest = refl;
      tight = w.2 (member (1 ∷ 6 ∷ [])) refl;
      marks = record { exact = λ k l. inr (marked k l); rest = refl; long = refl };
      slip = refl;
    })

first_draw : Right small (standing 1 page_3) (line 2 Call.draw) (record { outcome = Outcome.drawn 700; slip = Some 7; plan = 1 ∷ 9 ∷ []; set = 1 ∷ 6 ∷ [] })
first_draw =
    drawn_line page_3 2
    (draw_clear small (standing 1 page_3) 2 (9 ∷ 9 ∷ []) (5 ∷ 6 ∷ []) 12 (λ _. refl) (λ _. refl) (λ _. omega arith) (λ _. omega arith)) refl

kept_off : Right small (standing 1 page_4) (line 2 (Call.grade 1 1 650)) (same (Outcome.refused refusal.SlipOut))
kept_off =
    Right.refused refusal.SlipOut refl
    (is_first small (standing 1 page_4) (line 2 (Call.grade 1 1 650)) refusal.SlipOut (Reason.slip_is_out refl refl)
    (grade_clear small (standing 1 page_4) 2 (9 ∷ 9 ∷ []) (5 ∷ 6 ∷ []) 3 1 1 650 (λ _. refl) (λ b. absurd (omega arith)) (λ b. absurd (omega arith))
    (λ b. absurd (omega arith)) (λ b. absurd (omega arith))))
    refl (record { plan = refl; set = refl })

withdrawn : Right small (standing 1 page_5) (line 2 (Call.withdraw 7)) (same Outcome.done)
withdrawn =
    done_line page_5 2 (Call.withdraw 7)
    (spend_clear small (standing 1 page_5) 2 (9 ∷ 9 ∷ []) (5 ∷ 6 ∷ []) 12 (Call.withdraw 7) 7 refl refl refl refl (omega arith) (omega arith)
    (λ _. refl) (λ _. (refl, refl)))
    refl tt

second_draw : Right small (standing 1 page_6) (line 3 Call.draw) (record { outcome = Outcome.drawn 700; slip = Some 7; plan = 1 ∷ 9 ∷ []; set = 1 ∷ 6 ∷ [] })
second_draw =
    drawn_line page_6 3
    (draw_clear small (standing 1 page_6) 3 (9 ∷ 9 ∷ []) (5 ∷ 6 ∷ []) 12 (λ _. refl) (λ _. refl) (λ _. omega arith) (λ _. omega arith)) refl

published : Right small (standing 1 page_7) (line 3 (Call.publish 7)) (same Outcome.done)
published =
    done_line page_7 3 (Call.publish 7)
    (spend_clear small (standing 1 page_7) 3 (9 ∷ 9 ∷ []) (5 ∷ 6 ∷ []) 12 (Call.publish 7) 7 refl refl refl refl (omega arith) (omega arith)
    (λ _. refl) (λ _. (refl, refl)))
    refl tt

shown : Right small (standing 1 page_8) (line 1 Call.show) (record { outcome = Outcome.shown 700; slip = None; plan = 1 ∷ 9 ∷ []; set = 5 ∷ 6 ∷ [] })
shown =
    Right.shown
    (all_clear small (standing 1 page_8) (line 1 Call.show)
    (show_clear small (standing 1 page_8) 1 (9 ∷ 9 ∷ []) (5 ∷ 6 ∷ []) 12 (λ _. refl) (λ _. refl) (λ _. omega arith)))
    refl (record { plan = 1 ∷ []; lowest = 700 }) refl refl
    (record { plan = refl; plan_rest = refl; set = refl; slip = refl })

struck : Right small (standing 1 page_9) (line 3 (Call.strike 1 1)) (same Outcome.done)
struck =
    done_line page_9 3 (Call.strike 1 1)
    (strike_clear small (standing 1 page_9) 3 (9 ∷ 9 ∷ []) (5 ∷ 6 ∷ []) 12 1 1 (λ _. refl) (λ _. refl) (λ _. refl) (λ _. refl))
    refl tt

short : Right small (standing 1 page_10) (line 2 Call.draw) (record { outcome = Outcome.short; slip = None; plan = 9 ∷ 9 ∷ []; set = 1 ∷ 6 ∷ [] })
short =
    let w =
    ungraded_package_is_short (valid_only small (grade_at page_10)) 1
    (λ j l h. ap (valid_only small (grade_at page_10) 1) (let q : j ≡ 1 = omega (arith, l, h) in q)) in
    Right.short
    (all_clear small (standing 1 page_10) (line 2 Call.draw)
    (draw_clear small (standing 1 page_10) 2 (9 ∷ 9 ∷ []) (5 ∷ 6 ∷ []) 12 (λ _. refl) (λ _. refl) (λ _. omega arith) (λ _. omega arith)))
    refl refl
    (record {
      none = w.0;
      short = w.1 (member (1 ∷ 6 ∷ [])) refl;
      marks = record { exact = λ k l. inr (marked k l); rest = refl; long = refl };
      plan = refl;
      slip = refl;
    })

pub there_is_a_page : ThereIsAPage
there_is_a_page = (
  short,
  (
    struck,
    (
      shown,
      (
        published,
        (
          second_draw,
          (
            withdrawn,
            (
              kept_off,
              (
                first_draw,
                (
                  graded,
                  (
                    reader,
                    (
                      loaded,
                      record {
                        sizes = (omega arith, omega arith, omega arith, omega arith);
                        limited = (omega arith, omega arith);
                        numbered = (omega arith, omega arith);
                        order = points_in_order;
                      },
                    ),
                  ),
                ),
              ),
            ),
          ),
        ),
      ),
    ),
  ),
)
