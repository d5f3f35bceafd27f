-- The text of a report on a saved file, line by line. Every line is ended by byte 0A.
use Rattle.std.specs.Prelude.{ℕ, zero, suc, ◌/◌, ◌%◌, Bool, if◌then◌else◌, List, [], ◌∷◌, ◌++◌, Some, None, codes, decimal, Option, ◌==◌, slice_index}
use Rattle.books.specs.Meaning.{standing}
use Rattle.file_format.specs.Words.{sheet_line}
use Rattle.refusals.specs.Words.{fault_line}
use Rattle.refusals.specs.declared.fault.Fault.{Fault}

abbrev pub ended : List ℕ → List ℕ
ended text = text ++ (10 ∷ [])

-- A grade as a manager reads it: points by their number, and a rating by its class, its days of
-- practice and its code. Kind 1 is points.
abbrev pub grade_words : ℕ → ℕ → List ℕ
grade_words kind code =
    if kind == 1 then decimal code
    else codes "class " ++ (decimal (code % 256)
    ++ (codes ", " ++ (decimal (code / 256) ++ (codes " days (code " ++ (decimal code ++ codes ")")))))

-- a pair of a full plan has a grade; every pair that has the lowest is marked
abbrev pub told_grade : ℕ → ℕ → Option ℕ → List ℕ
told_grade kind lowest None = codes "no grade"
told_grade kind lowest (Some code) =
    if code == lowest then grade_words kind code ++ codes ", the lowest" else grade_words kind code

abbrev pub pair_line : ℕ → ℕ → ℕ → ℕ → Option ℕ → List ℕ
pair_line kind lowest pkg translator grade =
    codes "package " ++ (decimal pkg
    ++ (codes ": translator " ++ (decimal translator ++ (codes ", " ++ ended (told_grade kind lowest grade)))))

-- the pairs of packages 1 to n in a plan, by grades G
unfoldable pub table : ℕ → ℕ → (ℕ → ℕ → Option ℕ) → List ℕ → ℕ → List ℕ
table kind lowest G plan zero = []
table kind lowest G plan (suc n) =
    table kind lowest G plan n ++ pair_line kind lowest (suc n) (slice_index plan n) (G (suc n) (slice_index plan n))

-- the numbers of the members among packages 1 to n, each after a space; S says of place k whether
-- package k + 1 is a member
unfoldable pub members : (ℕ → Bool) → ℕ → List ℕ
members S zero = []
members S (suc n) = members S n ++ (if S n then codes " " ++ decimal (suc n) else [])

abbrev pub set_line : List ℕ → (ℕ → Bool) → ℕ → List ℕ
set_line words S n = ended (words ++ members S n)

-- kind, sizes and how many grades there are
abbrev pub head_line : ℕ → ℕ → ℕ → ℕ → List ℕ
head_line kind p t n = ended (sheet_line (record { kind = kind; packages = p; translators = t }) n)

abbrev pub lowest_line : ℕ → ℕ → List ℕ
lowest_line kind lowest = ended (codes "lowest grade: " ++ grade_words kind lowest)

abbrev pub no_plan_line : List ℕ
no_plan_line = ended (codes "no full plan")

-- the lines above the line of the set, with a plan and without one
abbrev pub plan_front : ℕ → ℕ → ℕ → (ℕ → ℕ → Option ℕ) → List ℕ → ℕ → List ℕ
plan_front kind p t G plan lowest =
    head_line kind p t (standing G p t) ++ (table kind lowest G plan p ++ lowest_line kind lowest)

abbrev pub short_front : ℕ → ℕ → ℕ → (ℕ → ℕ → Option ℕ) → List ℕ
short_front kind p t G = head_line kind p t (standing G p t) ++ no_plan_line

-- what the line of the set begins with: a tight set has to gain grades, a short set has too few
abbrev pub tight_words : List ℕ
tight_words = codes "packages to work on:"

abbrev pub short_words : List ℕ
short_words = codes "packages in each other's way:"

abbrev pub fault_text : Fault → List ℕ
fault_text f = ended (fault_line f)
