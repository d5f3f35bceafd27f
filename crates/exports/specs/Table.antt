-- A table of codes, row by row: package k with translator j stands at place (k - 1) * t + (j - 1),
-- and code 0 means no grade.
use Rattle.std.specs.Prelude.{ℕ, ◌+◌, ◌-◌, ◌*◌, if◌then◌else◌, List, None, Option, slice_index}
use Rattle.books.specs.Limits.{inside}
use Rattle.books.specs.Meaning.{Meaning}
use Rattle.bottleneck.specs.Codes.{grade_of_code}
use Rattle.exports.specs.declared.table.CodeTable.{CodeTable}

abbrev pub grades_of : ℕ → ℕ → List ℕ → ℕ → ℕ → Option ℕ
grades_of p t codes k j = if inside p t k j then grade_of_code (slice_index codes ((k - 1) * t + (j - 1))) else None

abbrev pub table_meaning : CodeTable → Meaning
table_meaning b =
    record {
      packages = b.sizes.packages;
      translators = b.sizes.translators;
      grade = grades_of b.sizes.packages b.sizes.translators b.codes.now;
    }
