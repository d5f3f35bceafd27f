-- The records of a file in words: the kind and the sizes, and a grade.
use Rattle.std.specs.Prelude.{ℕ, List, ◌++◌, codes, decimal, if◌then◌else◌, ◌==◌}
use Rattle.file_format.specs.declared.records.GradeRecord.{GradeRecord}
use Rattle.file_format.specs.declared.records.SheetRecord.{SheetRecord}

-- by the number of a kind: 1 is points, and else ratings
abbrev pub kind_word : ℕ → List ℕ
kind_word k = if k == 1 then codes "points" else codes "ratings"

abbrev pub sheet_words : SheetRecord → List ℕ
sheet_words s = kind_word s.kind ++ (codes ", packages " ++ (decimal s.packages ++ (codes ", translators " ++ decimal s.translators)))

-- the same with the number of grades
abbrev pub sheet_line : SheetRecord → ℕ → List ℕ
sheet_line s n =
    kind_word s.kind ++ (codes ", packages " ++ (decimal s.packages
    ++ (codes ", translators " ++ (decimal s.translators ++ (codes ", grades " ++ decimal n)))))

abbrev pub grade_line : GradeRecord → List ℕ
grade_line r =
    codes "package " ++ (decimal r.pkg ++ (codes ", translator " ++ (decimal r.translator ++ (codes ": " ++ decimal r.code))))
