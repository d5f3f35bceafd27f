-- The worked file of the rules: its grades, its bytes, and its damaged forms with their faults.
use Rattle.std.specs.Prelude.{◌≡◌, ℕ, List, [], ◌∷◌, ◌++◌, take, Some, None, Option, slice_set}
use Rattle.books.specs.Meaning.{changed}
use Rattle.file_format.specs.FileOf.{file_of, grade_in}
use Rattle.file_format.specs.Rules.{Expected, Faulty, Right, just}
use Rattle.grades.specs.Points.{valid_points}
use Rattle.refusals.specs.Faults.{cause_number}
use Rattle.refusals.specs.declared.fault.Fault.{Fault}

-- (1,1) = 700, (1,2) = 400, (2,1) = 650
abbrev pub example_grades : ℕ → ℕ → Option ℕ
example_grades = changed (changed (changed (λ i j. None) 1 1 (Some 700)) 1 2 (Some 400)) 2 1 (Some 650)

abbrev pub example_bytes : List ℕ
example_bytes =
    0x01 ∷ 0x00 ∷ 0x01 ∷ 0x02 ∷ 0x02 ∷ 0x03 ∷ 0x00
    ∷ 0x01 ∷ 0x01 ∷ 0xBC ∷ 0x02 ∷ 0x00 ∷ 0x00
    ∷ 0x01 ∷ 0x02 ∷ 0x90 ∷ 0x01 ∷ 0x00 ∷ 0x00
    ∷ 0x02 ∷ 0x01 ∷ 0x8A ∷ 0x02 ∷ 0x00 ∷ 0x00 ∷ []

-- points, two packages, two translators
abbrev pub example_sheet : Expected
example_sheet = just 1 valid_points 2 2

pub record Tells (cause section number offset : ℕ) (f : Fault) : Type 0 where
  pub cause_is : cause_number f.cause ≡ cause
  pub section_is : f.section ≡ section
  pub number_is : f.«record» ≡ number
  pub offset_is : f.offset ≡ offset

-- the bytes have a fault, and every fault of theirs tells these numbers
abbrev pub OneFault : List ℕ → ℕ → ℕ → ℕ → ℕ → Type 0
OneFault bs cause section number offset =
    ((f : Fault) × Faulty example_sheet bs f) × ((f : Fault) → Faulty example_sheet bs f → Tells cause section number offset f)

pub record WorkedFile : Type 0 where
  pub file : file_of 1 2 2 example_grades ≡ example_bytes
  pub right : Right example_sheet example_bytes
  pub grades : (i j : ℕ) → grade_in example_bytes i j ≡ example_grades i j
  -- without the last byte, with one byte more, and no bytes at all
  pub cut : OneFault (take 24 example_bytes) 1 2 3 19
  pub longer : (byte : ℕ) → OneFault (example_bytes ++ byte ∷ []) 8 0 0 25
  pub nothing : OneFault [] 1 1 0 0

-- one byte or two of the worked file changed: each other cause, where it is told, and which comes first
pub record DamagedFiles : Type 0 where
  pub two_sheets : OneFault (slice_set example_bytes 0 2) 2 1 0 0
  pub other_kind : OneFault (slice_set example_bytes 2 2) 3 1 1 2
  pub other_packages : OneFault (slice_set example_bytes 3 3) 4 1 1 2
  pub other_translators : OneFault (slice_set example_bytes 4 1) 4 1 1 2
  pub too_many : OneFault (slice_set example_bytes 6 13) 2 2 0 5
  -- 3,072 records are not too many, but the fourth is missing
  pub most : OneFault (slice_set (slice_set example_bytes 5 0) 6 12) 1 2 4 25
  pub outside : OneFault (slice_set example_bytes 7 3) 5 2 1 7
  pub translator_0 : OneFault (slice_set example_bytes 20 0) 5 2 3 19
  pub code_1724 : OneFault (slice_set example_bytes 10 6) 6 2 1 7
  -- the place before the code
  pub outside_with_a_bad_code : OneFault (slice_set (slice_set example_bytes 7 3) 10 6) 5 2 1 7
  -- the same place twice
  pub twice : OneFault (slice_set example_bytes 14 1) 7 2 2 13
  pub falling : OneFault (slice_set (slice_set example_bytes 7 2) 8 2) 7 2 2 13

-- Files whose bytes are all different: the kind, the packages, the translators, two bytes of count,
-- and for a record the package, the translator and the code from its lowest byte up.
pub record BytesInTheirPlaces : Type 0 where
  pub none : (number p t : ℕ) → file_of number p t (λ i j. None) ≡ 1 ∷ 0 ∷ number ∷ p ∷ t ∷ 0 ∷ 0 ∷ []
  pub one :
      file_of 9 6 8 (changed (λ i j. None) 5 7 (Some 0x04030211))
      ≡ 1 ∷ 0 ∷ 9 ∷ 6 ∷ 8 ∷ 1 ∷ 0 ∷ 5 ∷ 7 ∷ 0x11 ∷ 0x02 ∷ 0x03 ∷ 0x04 ∷ []
