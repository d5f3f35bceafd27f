-- A test of a sheet, which the checker computes for the whole list.
use Rattle.std.proofs.Common.{◌≡◌, ℕ, Bool, true, false, ◌&&◌, eqb, List, [], ◌∷◌, is_some, Some, None, Option, sym, refl, ap, ◌∙◌, ⊎_elim}
use Rattle.augmenting.specs.Counting.{any, count}
use Rattle.books.proofs.Inside.{lies}
use Rattle.books.specs.Limits.{Within, inside}
use Rattle.bottleneck.specs.Grades.{graded, graded_above}
use Rattle.std.proofs.lemmas.Bool.{and_parts, both_ways, cases_Bool, cond-false, cond-true, eqb-true, false≢true}
use Rattle.worked_sheets.proofs.Plans.{beaten?, best_from, best?, first?, full?, lower?, lowest?, none_from, none?}
use Rattle.worked_sheets.proofs.Ranges.{below?, every_each, every?, implies?, plans?, same?, sets?, some?}
use Rattle.worked_sheets.proofs.Sets.{exactly_from, exactly?, one_fewer?}
use Rattle.worked_sheets.specs.Right.{EverySheetGivesItsAnswer, Gives, Right, above_in, grade_in, valid_in}
use Rattle.worked_sheets.specs.Sheets.{Answer, Sheet, planned, sheets, short}

unfoldable pub gives? : (ℕ → ℕ → Bool) → (ℕ → ℕ → Option ℕ) → ℕ → ℕ → Answer → Bool
gives? above G p t (planned plan lowest tight) = best? above G p t plan lowest && exactly? (graded_above above G lowest) p t tight
gives? above G p t (short sets) = none? above G p t && exactly? (graded G) p t sets

gives_from : (above : ℕ → ℕ → Bool) (G : ℕ → ℕ → Option ℕ) (p t : ℕ) (a : Answer) → gives? above G p t a ≡ true → Gives above G p t a
unfolding gives?
gives_from above G p t (planned plan lowest tight) e =
    let y = and_parts (best? above G p t plan lowest) (exactly? (graded_above above G lowest) p t tight) e in
    (best_from above G p t plan lowest y.0, exactly_from (graded_above above G lowest) p t tight y.1)
gives_from above G p t (short sets) e =
    let y = and_parts (none? above G p t) (exactly? (graded G) p t sets) e in
    (none_from above G p t y.0, exactly_from (graded G) p t sets y.1)

-- what holds of every listed grade holds of the grade of any pair
code_of : Option ℕ → ℕ
code_of None = 0
code_of (Some code) = code

in_list :
    (f : ℕ → ℕ → ℕ → Bool) (gs : List (ℕ × ℕ × ℕ)) → every? (λ g. f g.0 g.1 g.2) gs ≡ true
    → (k j code : ℕ) → grade_in gs k j ≡ Some code → f k j code ≡ true
unfolding every? code_of
in_list f [] e k j code q = absurd (false≢true (ap is_some q))
in_list f (g ∷ gs) e k j code q = ⊎_elim here (there (in_list f gs a.1 k j code)) (cases_Bool (eqb k g.0 && eqb j g.1))
  where
    a : (f g.0 g.1 g.2 ≡ true) × (every? (λ x. f x.0 x.1 x.2) gs ≡ true)
    a = and_parts (f g.0 g.1 g.2) (every? (λ x. f x.0 x.1 x.2) gs) e

    here : (eqb k g.0 && eqb j g.1) ≡ true → f k j code ≡ true
    here h =
        let y = and_parts (eqb k g.0) (eqb j g.1) h in
        let c : g.2 ≡ code = ap code_of (sym (cond-true (eqb k g.0 && eqb j g.1) (Some g.2) (grade_in gs k j) h) ∙ q) in
        ap (λ x. f x j code) (eqb-true k g.0 y.0) ∙ ap (λ x. f g.0 x code) (eqb-true j g.1 y.1) ∙ ap (f g.0 g.1) (sym c) ∙ a.0

    there : (grade_in gs k j ≡ Some code → f k j code ≡ true) → (eqb k g.0 && eqb j g.1) ≡ false → f k j code ≡ true
    there ih h = ih (sym (cond-false (eqb k g.0 && eqb j g.1) (Some g.2) (grade_in gs k j) h) ∙ q)

no_code : (g : Option ℕ) → ((code : ℕ) → g ≡ Some code → ⊥) → g ≡ None
no_code None h = refl
no_code (Some code) h = absurd (h code refl)

-- a grade inside the sizes, and valid in the kind
abbrev grade? : Sheet → ℕ → ℕ → ℕ → Bool
grade? s k j code = inside s.packages s.translators k j && valid_in s.kind code

unfoldable pub right? : Sheet → Bool
right? s =
    inside 48 64 s.packages s.translators
    && (every? (λ g. grade? s g.0 g.1 g.2) s.grades
    && gives? (above_in s.kind) (grade_in s.grades) s.packages s.translators s.gives)

right_from : (s : Sheet) → right? s ≡ true → Right s
unfolding right?
right_from s e = record { sound = record { sizes = sizes; outside = outside }; valid = λ k j code q. (at k j code q).1; gives = gives_from (above_in s.kind) (grade_in s.grades) s.packages s.translators s.gives b.1 }
  where
    graded? : Bool
    graded? = every? (λ g. grade? s g.0 g.1 g.2) s.grades

    answered? : Bool
    answered? = gives? (above_in s.kind) (grade_in s.grades) s.packages s.translators s.gives

    a : (inside 48 64 s.packages s.translators ≡ true) × ((graded? && answered?) ≡ true)
    a = and_parts (inside 48 64 s.packages s.translators) (graded? && answered?) e

    b : (graded? ≡ true) × (answered? ≡ true)
    b = and_parts graded? answered? a.1

    sizes : Within s.packages s.translators
    sizes = let y = lies 48 64 s.packages s.translators a.0 in (y.row, y.row_most, y.column, y.column_most)

    at : (k j code : ℕ) → grade_in s.grades k j ≡ Some code → (inside s.packages s.translators k j ≡ true) × (valid_in s.kind code ≡ true)
    at k j code q = and_parts (inside s.packages s.translators k j) (valid_in s.kind code) (in_list (grade? s) s.grades b.0 k j code q)

    outside : (i j : ℕ) → inside s.packages s.translators i j ≡ false → grade_in s.grades i j ≡ None
    outside i j h = no_code (grade_in s.grades i j) (λ code q. both_ways (inside s.packages s.translators i j) h (at i j code q).0)

-- the test passes at every sheet of the list: computed
all_right : every? right? sheets ≡ true
unfolding right? gives? best? none? exactly? one_fewer? full? lowest? beaten? lower? first? implies? same? below? every? some? plans? sets? count any
all_right = refl

pub every_sheet : EverySheetGivesItsAnswer
every_sheet = every_each right? Right right_from sheets all_right
