-- A saved file brings its grades back, and a load takes only what a save writes.
use Rattle.std.proofs.Common.{◌≡◌, ℕ, ◌+◌, ◌≤◌, Bool, true, false, List, [], ◌∷◌, get_or, take, is_some, Some, None, Option, sym, refl, ap, ◌∙◌, subst, arith}
use Rattle.bottleneck.specs.Grades.{counted}
use Rattle.file_format.proofs.Encoded.{file_count}
use Rattle.file_format.proofs.Once.{right_or_one_fault}
use Rattle.file_format.proofs.RoundTrip.{file_is_right, right_is_the_file}
use Rattle.file_format.specs.FileOf.{Graded, grade_in, file_of}
use Rattle.file_format.specs.Layout.{count_in}
use Rattle.file_format.specs.Rules as rules
use Rattle.matching.specs.Plans.{BestPlan}
use Rattle.pages.proofs.Calls.{ordinal, never_some, same_file}
use Rattle.pages.proofs.Kept.{standing_grades_are_of_the_kind, file_right}
use Rattle.pages.proofs.Off.{lawful}
use Rattle.pages.specs.Answers.{Right, Lawful, Page, Given, says_done, valid_only}
use Rattle.pages.specs.Files.{file_at, SameForm, SavedGradesComeBack, LoadedFilesAreSavedOnes}
use Rattle.pages.specs.Lines.{Opening, Line, Event, Call, Outcome}
use Rattle.pages.specs.Reasons.{Reason, NoReason, file_expected, pair_of, slip_of, wants_idle, writes_plan, least_role, may}
use Rattle.pages.specs.Standing.{Standing, first_of, regraded, grade_by, grade_at, out_by, out_by_done, out_at, standing as stands}
use Rattle.refusals.specs.declared.refusal.Refusal.TheVariants as refusal
use Rattle.std.proofs.lemmas.Bool.{both_ways}

none_from : (o : Option ℕ) → (is_some o ≡ true → ⊥) → o ≡ None
none_from None h = refl
none_from (Some c) h = absurd (h refl)

itself : (x : Option ℕ) → first_of x None ≡ x
itself None = refl
itself (Some c) = refl

-- what is asked of a load that no reason holds against
module _
    (q : Opening) (s : Standing) (l : Line) (file : List ℕ) (is : l.call ≡ Call.load file) (manager : l.role ≡ 3)
    (idle : is_some s.out ≡ true → ⊥) (empty : (i j : ℕ) → s.grade i j ≡ None)
    (right : rules.Right (file_expected q) file) (room : count_in file ≤ q.limit)
  where
    other : (c : Call) → l.call ≡ c → (ordinal c ≡ 2 → ⊥) → ⊥
    other c e n = n (sym (ap ordinal e) ∙ ap ordinal is)

    load_is_free : NoReason q s l
    load_is_free r (Reason.lacks_the_right w) =
        both_ways true (sym (ap (λ (n : ℕ). may 3 n) manager) ∙ sym (ap (λ (c : Call). may (least_role c) l.role) is) ∙ w) refl
    load_is_free r (Reason.slip_is_out w x) = idle x
    load_is_free r (Reason.no_slip_is_out tag w x) = never_some tag (sym (ap slip_of is) ∙ w)
    load_is_free r (Reason.slip_of_another_tag tag w x) = never_some tag (sym (ap slip_of is) ∙ w)
    load_is_free r (Reason.sheet_has_a_grade f w x) = x empty
    load_is_free r (Reason.outside_the_sizes a b w x) = never_some (a, b) (sym (ap pair_of is) ∙ w)
    load_is_free r (Reason.code_not_valid a b code w x) = other (Call.grade a b code) w (λ e. omega arith)
    load_is_free r (Reason.no_grade_to_take a b w x) = other (Call.strike a b) w (λ e. omega arith)
    load_is_free r (Reason.nothing_published w x) = other Call.show w (λ e. omega arith)
    load_is_free r (Reason.plan_buffer_short w x) = both_ways (writes_plan l.call) (ap writes_plan is) w
    load_is_free r (Reason.set_buffer_short w x) = other Call.draw w (λ e. omega arith)
    load_is_free r (Reason.faulty_file f fault w x) =
        (right_or_one_fault (file_expected q) file).1 right fault
        (subst (λ (z : List ℕ). rules.Faulty (file_expected q) z fault) (same_file f file (sym w ∙ is)) x)
    load_is_free r (Reason.new_pair_at_the_limit a b code w x y) = other (Call.grade a b code) w (λ e. omega arith)
    load_is_free r (Reason.more_records_than_the_limit f w x) =
        let e : count_in f ≡ count_in file = ap count_in (same_file f file (sym w ∙ is)) in
        omega (arith, e, x, room)

    load_done : (a : _) → Right q s l a → a.outcome ≡ Outcome.done
    load_done a (Right.refused r x f t u) = absurd (load_is_free r f.holds)
    load_done a (Right.done n c k x t u) = x
    load_done a (Right.drawn n c code x u) = absurd (other Call.draw c (λ e. omega arith))
    load_done a (Right.short n c x u) = absurd (other Call.draw c (λ e. omega arith))
    load_done a (Right.shown n c d e x u) = absurd (other Call.show c (λ e. omega arith))

-- a drawn plan names pairs with a grade, and no grade is changed while its slip is out
abbrev SomeGrade : (ℕ → ℕ → Option ℕ) → Type 0
SomeGrade g = (i : ℕ) × (j : ℕ) × (is_some (g i j) ≡ true)

counted_some : (valid : ℕ → Bool) (x : Option ℕ) → is_some (counted valid x) ≡ true → is_some x ≡ true
counted_some valid None h = h
counted_some valid (Some c) h = refl

first_pair :
    (o : Opening) → Lawful o → (g : ℕ → ℕ → Option ℕ) (plan : List ℕ) (code : ℕ)
    → BestPlan o.above (valid_only o g) o.packages o.translators plan code → SomeGrade g
first_pair o L g plan code b =
    (0 + 1, get_or plan 0 0, counted_some o.valid (g (0 + 1) (get_or plan 0 0)) (b.full.paired 0 (omega (arith, L.sizes.0))))

pub out_needs_a_grade :
    (o : Opening) (h : List Event) → Page o h → is_some (out_at o.packages h) ≡ true → SomeGrade (grade_at h)
out_needs_a_grade o [] a w = absurd (both_ways false refl w)
out_needs_a_grade o (e ∷ above) a w = by_way a.0 (out_needs_a_grade o above a.1)
  where
    s : Standing
    s = stands o.packages above

    l : Line
    l = e.line

    before : (u : Outcome) → e.answer.outcome ≡ u → is_some (out_by o.packages u l.call e.answer.plan s.out) ≡ true
    before u x = sym (ap (λ (v : Outcome). is_some (out_by o.packages v l.call e.answer.plan s.out)) x) ∙ w

    same : (u : Outcome) → e.answer.outcome ≡ u → ((i j : ℕ) (old : Option ℕ) → grade_by u l.call i j old ≡ old)
        → SomeGrade (grade_at above) → SomeGrade (grade_at (e ∷ above))
    same u x k (i, j, y) =
        (i, j, ap is_some (ap (λ (v : Outcome). grade_by v l.call i j (grade_at above i j)) x ∙ k i j (grade_at above i j)) ∙ y)

    busy : NoReason o s l → wants_idle l.call ≡ true → is_some s.out ≡ true → ⊥
    busy n i x = n refusal.SlipOut (Reason.slip_is_out i x)

    by_call : (c : Call) → l.call ≡ c → NoReason o s l → says_done c ≡ true → is_some (out_by_done c s.out) ≡ true → ⊥
    by_call (Call.grade x y code) q n d z = busy n (ap wants_idle q) z
    by_call (Call.strike x y) q n d z = busy n (ap wants_idle q) z
    by_call (Call.load file) q n d z = busy n (ap wants_idle q) z
    by_call Call.draw q n d z = both_ways false refl d
    by_call (Call.publish tag) q n d z = both_ways false refl z
    by_call (Call.withdraw tag) q n d z = both_ways false refl z
    by_call Call.show q n d z = both_ways false refl d

    by_way :
        Right o s l e.answer → (is_some s.out ≡ true → SomeGrade (grade_at above)) → SomeGrade (grade_at (e ∷ above))
    by_way (Right.refused r x f t u) ih = same (Outcome.refused r) x (λ i j old. refl) (ih (before (Outcome.refused r) x))
    by_way (Right.done n c k x t u) ih = absurd (by_call l.call refl n c (before Outcome.done x))
    by_way (Right.drawn n c code x u) ih =
        same (Outcome.drawn code) x (λ i j old. refl) (first_pair o (lawful o above a.1) s.grade (take o.packages e.answer.plan) code u.best)
    by_way (Right.short n c x u) ih = absurd (busy n (ap wants_idle c) (before Outcome.short x))
    by_way (Right.shown n c d q x u) ih = same (Outcome.shown d.lowest) x (λ i j old. refl) (ih (before (Outcome.shown d.lowest) x))

expected_same : (o q : Opening) → SameForm o q → file_expected o ≡ file_expected q
expected_same o q f = λ k. rules.just (f.number k) (f.valid k) (f.packages k) (f.translators k)

pub saved_grades_come_back : SavedGradesComeBack
saved_grades_come_back o q h above e f a b none few manager is = (done, back)
  where
    G : Graded o.valid o.packages o.translators (grade_at h)
    G = standing_grades_are_of_the_kind o h a

    file : List ℕ
    file = file_at o h

    s : Standing
    s = stands q.packages above

    right : rules.Right (file_expected q) file
    right =
        subst (λ (x : rules.Expected). rules.Right x file) (expected_same o q f)
        (file_is_right o.number o.valid o.packages o.translators (grade_at h) G).0

    room : count_in file ≤ q.limit
    room = omega (arith, file_count o.valid o.packages o.translators (grade_at h) G o.number, few)

    empty : (i j : ℕ) → is_some (grade_at above i j) ≡ true → ⊥
    empty i j x = both_ways (is_some (grade_at above i j)) (ap is_some (none i j)) x

    idle : is_some s.out ≡ true → ⊥
    idle x = let w = out_needs_a_grade q above b.1 x in empty w.0 w.1 w.2

    done : e.answer.outcome ≡ Outcome.done
    done = load_done q s e.line file is manager idle none right room e.answer b.0

    back : (i j : ℕ) → grade_at (e ∷ above) i j ≡ grade_at h i j
    back i j =
        ap (λ (u : Outcome). grade_by u e.line.call i j (grade_at above i j)) done
        ∙ ap (λ (c : Call). regraded c i j (grade_at above i j)) is
        ∙ ap (first_of (grade_in file i j)) (none i j)
        ∙ itself (grade_in file i j)
        ∙ (file_is_right o.number o.valid o.packages o.translators (grade_at h) G).1 i j

-- what an accepted load tells
pub loaded_files_are_saved_ones : LoadedFilesAreSavedOnes
loaded_files_are_saved_ones o above e file a is done = whole a.0
  where
    s : Standing
    s = stands o.packages above

    never : (u : Outcome) → e.answer.outcome ≡ u → Outcome.done ≡ u
    never u x = sym done ∙ x

    other : (c : Call) → e.line.call ≡ c → (ordinal c ≡ 2 → ⊥) → ⊥
    other c q n = n (sym (ap ordinal q) ∙ ap ordinal is)

    whole : Right o s e.line e.answer → file ≡ file_at o (e ∷ above)
    whole (Right.refused r x f t u) = absurd (let z : ◌≡◌ {A = ℕ} 0 1 = clash (never (Outcome.refused r) x) in omega arith)
      where
        clash : Outcome.done ≡ Outcome.refused r → ◌≡◌ {A = ℕ} 0 1
        clash q = cc
    whole (Right.done n c k x t u) =
        (right_is_the_file o.number o.valid o.packages o.translators file (lawful o above a.1).sizes
        (subst Given is k) (file_right o s e.line file n is)).1
        ∙ ap (file_of o.number o.packages o.translators) (λ m i j. same i j m)
      where
        none : (i j : ℕ) → grade_at above i j ≡ None
        none i j = none_from (grade_at above i j) (λ y. n refusal.NotEmpty (Reason.sheet_has_a_grade file is (λ w. both_ways (is_some (grade_at above i j)) (ap is_some (w i j)) y)))

        same : (i j : ℕ) → grade_in file i j ≡ grade_at (e ∷ above) i j
        same i j =
            sym (itself (grade_in file i j)) ∙ ap (first_of (grade_in file i j)) (sym (none i j))
            ∙ sym (ap (λ (c : Call). regraded c i j (grade_at above i j)) is)
            ∙ sym (ap (λ (v : Outcome). grade_by v e.line.call i j (grade_at above i j)) done)
    whole (Right.drawn n c code x u) = absurd (other Call.draw c (λ z. omega arith))
    whole (Right.short n c x u) = absurd (other Call.draw c (λ z. omega arith))
    whole (Right.shown n c d q x u) = absurd (other Call.show c (λ z. omega arith))
