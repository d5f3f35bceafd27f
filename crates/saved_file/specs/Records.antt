-- The grade records that stand one after the other in some bytes.
use Rattle.std.specs.Prelude.{ℕ, zero, suc, if◌then◌else◌, List, [], ◌∷◌, length, drop, nat_le}
use Rattle.file_format.specs.Layout.{six_bytes}
use Rattle.file_format.specs.declared.records.GradeRecord.{GradeRecord}
use Rattle.saved_file.specs.declared.checked.records.Records.{Records}

-- n records, or fewer where the bytes end before them
unfoldable pub records_of : List ℕ → ℕ → List GradeRecord
records_of bs zero = []
records_of bs (suc n) = if nat_le 6 (length bs) then six_bytes bs ∷ records_of (drop 6 bs) n else []

-- the records that are still to come
abbrev pub left_of : Records → List GradeRecord
left_of r = records_of r.rest.now r.left
