-- The rules of a saved file, part by part, and the one fault of a file that breaks one.
use Rattle.std.specs.Prelude.{◌≡◌, ℕ, ◌+◌, ◌-◌, ◌<◌, ◌≤◌, Bool, if◌then◌else◌, ◌&&◌, List, [], ◌∷◌, length, drop, Some, None, Ok, Err, Option, Result, ◌==◌, nat_le}
use Rattle.books.specs.Limits.{inside}
use Rattle.refusals.specs.Faults.{fault_at}
use Rattle.refusals.specs.declared.fault.Cause.{Cause}
use Rattle.refusals.specs.declared.fault.Cause.TheVariants as cause
use Rattle.refusals.specs.declared.fault.Fault.{Fault}
use Rattle.file_format.specs.Layout.{two_bytes, six_bytes, whole, sheet_in, count_in, start_of, after, last_of}
use Rattle.file_format.specs.declared.records.GradeRecord.{GradeRecord}

-- What a reader expects: which kind number and sizes the record of section 1 may have, and
-- which places and codes a grade record may have.
pub record Expected : Type 0 where
  pub kind : ℕ → Bool
  pub sizes : ℕ → ℕ → Bool
  pub packages : ℕ
  pub translators : ℕ
  pub valid : ℕ → Bool

-- one kind, with its valid codes, and one pair of sizes
abbrev pub just : ℕ → (ℕ → Bool) → ℕ → ℕ → Expected
just number valid p t =
    record {
      kind = λ k. (k == number);
      sizes = λ a b. (a == p) && (b == t);
      packages = p;
      translators = t;
      valid = valid;
    }

-- The parts of a file in the order in which they stand. Grade records are counted from 1.
pub data Part : Type 0 where
  first_count : Part
  sheet_record : Part
  second_count : Part
  grade_record : ℕ → Part
  the_end : Part

-- A rule is a cause and whether the file keeps it: the rules of each part, in their order.
abbrev pub first_count_rules : List ℕ → List (Cause × Bool)
first_count_rules bs = (cause.NotWhole, whole bs 0 2) ∷ (cause.Count, (two_bytes bs == 1)) ∷ []

abbrev pub sheet_rules : Expected → List ℕ → List (Cause × Bool)
sheet_rules e bs =
    (cause.NotWhole, whole bs 2 3) ∷ (cause.Kind, e.kind (sheet_in bs).kind)
    ∷ (cause.Sizes, e.sizes (sheet_in bs).packages (sheet_in bs).translators) ∷ []

abbrev pub second_count_rules : List ℕ → List (Cause × Bool)
second_count_rules bs = (cause.NotWhole, whole bs 5 2) ∷ (cause.Count, nat_le (count_in bs) 3072) ∷ []

-- of the record at an offset, after the record before it
abbrev pub grade_rules : Expected → List ℕ → ℕ → Option GradeRecord → List (Cause × Bool)
grade_rules e bs o last =
    (cause.NotWhole, whole bs o 6)
    ∷ (cause.Place, inside e.packages e.translators (six_bytes (drop o bs)).pkg (six_bytes (drop o bs)).translator)
    ∷ (cause.Code, e.valid (six_bytes (drop o bs)).code)
    ∷ (cause.NotAfter, after last (six_bytes (drop o bs))) ∷ []

-- nothing stands where a further record would begin
abbrev pub end_rules : List ℕ → List (Cause × Bool)
end_rules bs = (cause.LeftOver, nat_le (length bs) (start_of (count_in bs + 1))) ∷ []

abbrev pub rules : Expected → List ℕ → Part → List (Cause × Bool)
rules e bs first_count = first_count_rules bs
rules e bs sheet_record = sheet_rules e bs
rules e bs second_count = second_count_rules bs
rules e bs (grade_record r) = grade_rules e bs (start_of r) (last_of bs (r - 1))
rules e bs the_end = end_rules bs

-- the cause of the first rule that is broken, or none
abbrev pub first_broken : List (Cause × Bool) → Option Cause
first_broken [] = None
first_broken (rule ∷ others) = if rule.1 then first_broken others else Some rule.0

-- the section, the record (0 for a count) and the offset that a fault in a part tells
abbrev pub section_of : Part → ℕ
section_of first_count = 1
section_of sheet_record = 1
section_of second_count = 2
section_of (grade_record r) = 2
section_of the_end = 0

abbrev pub number_of : Part → ℕ
number_of first_count = 0
number_of sheet_record = 1
number_of second_count = 0
number_of (grade_record r) = r
number_of the_end = 0

abbrev pub offset_of : List ℕ → Part → ℕ
offset_of bs first_count = 0
offset_of bs sheet_record = 2
offset_of bs second_count = 5
offset_of bs (grade_record r) = start_of r
offset_of bs the_end = start_of (count_in bs + 1)

-- a file has as many grade records as its second count says
abbrev pub There : List ℕ → Part → Type 0
There bs first_count = Unit {0}
There bs sheet_record = Unit {0}
There bs second_count = Unit {0}
There bs (grade_record r) = (1 ≤ r) × (r ≤ count_in bs)
There bs the_end = Unit {0}

-- the place of a part among the parts
abbrev pub rank : List ℕ → Part → ℕ
rank bs first_count = 0
rank bs sheet_record = 1
rank bs second_count = 2
rank bs (grade_record r) = 2 + r
rank bs the_end = 3 + count_in bs

abbrev pub RightPart : Expected → List ℕ → Part → Type 0
RightPart e bs q = first_broken (rules e bs q) ≡ None

-- the first n grade records keep their rules
abbrev pub RecordsRight : Expected → List ℕ → ℕ → Type 0
RecordsRight e bs n = (r : ℕ) → 1 ≤ r → r ≤ n → RightPart e bs (grade_record r)

-- a file without fault: every part keeps all its rules
abbrev pub Right : Expected → List ℕ → Type 0
Right e bs = (q : Part) → There bs q → RightPart e bs q

-- The fault of a file: all parts before its place are right, and there the rule of its cause is the
-- first that is broken.
pub record Faulty (e : Expected) (bs : List ℕ) (f : Fault) : Type 0 where
  pub part : Part
  pub there : There bs part
  pub earlier : (q : Part) → There bs q → rank bs q < rank bs part → RightPart e bs q
  pub broken : Cause
  pub first : first_broken (rules e bs part) ≡ Some broken
  pub told : f ≡ fault_at broken (section_of part) (number_of part) (offset_of bs part)

-- what a reader of one part answers: what it read, or the fault
abbrev pub answer : {A : Type 0} → Option Cause → ℕ → ℕ → ℕ → A → Result A Fault
answer None s n o x = Ok x
answer (Some c) s n o x = Err (fault_at c s n o)
