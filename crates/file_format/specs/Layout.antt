-- Where everything stands in a saved file: a count of two bytes, one record of three bytes, a second
-- count, and grade records of six bytes each. Numbers of several bytes have the low byte first.
use Rattle.std.specs.Prelude.{ℕ, ◌+◌, ◌*◌, Bool, true, if◌then◌else◌, ◌&&◌, ◌||◌, List, length, drop, Some, None, Option, ◌==◌, nat_le, nat_lt, slice_index}
use Rattle.file_format.specs.declared.records.GradeRecord.{GradeRecord}
use Rattle.file_format.specs.declared.records.SheetRecord.{SheetRecord}

-- the number that two bytes hold
abbrev pub two_bytes : List ℕ → ℕ
two_bytes bs = slice_index bs 0 + slice_index bs 1 * 256

-- the record that three bytes hold: kind, packages, translators
abbrev pub three_bytes : List ℕ → SheetRecord
three_bytes bs = record { kind = slice_index bs 0; packages = slice_index bs 1; translators = slice_index bs 2 }

-- the record that six bytes hold: package, translator, and the code in four
abbrev pub six_bytes : List ℕ → GradeRecord
six_bytes bs =
    record {
      pkg = slice_index bs 0;
      translator = slice_index bs 1;
      code = slice_index bs 2 + slice_index bs 3 * 256 + slice_index bs 4 * 65536 + slice_index bs 5 * 16777216;
    }

-- whether so many bytes stand from an offset on
abbrev pub whole : List ℕ → ℕ → ℕ → Bool
whole bs o n = nat_le (o + n) (length bs)

-- the record of section 1 stands at offset 2
abbrev pub sheet_in : List ℕ → SheetRecord
sheet_in bs = three_bytes (drop 2 bs)

-- how many grade records the file says it has
abbrev pub count_in : List ℕ → ℕ
count_in bs = two_bytes (drop 5 bs)

-- grade records are counted from 1: the first stands at offset 7, and each has six bytes
abbrev pub start_of : ℕ → ℕ
start_of r = 1 + 6 * r

abbrev pub record_in : List ℕ → ℕ → GradeRecord
record_in bs r = six_bytes (drop (start_of r) bs)

-- of two pairs, whether the first comes before the second: by package, then by translator
abbrev pub before : ℕ → ℕ → ℕ → ℕ → Bool
before i j k l = nat_lt i k || i == k && nat_lt j l

-- whether a record comes after the one before it, where there is one
abbrev pub after : Option GradeRecord → GradeRecord → Bool
after None x = true
after (Some y) x = before y.pkg y.translator x.pkg x.translator

-- the last of the first n records
abbrev pub last_of : List ℕ → ℕ → Option GradeRecord
last_of bs n = if n == 0 then None else Some (record_in bs n)
