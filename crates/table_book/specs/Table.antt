-- What a table book means: inside the sizes the code in the pair's cell, outside none.
use Rattle.std.specs.Prelude.{ℕ, if◌then◌else◌, List, None, Option, slice_index}
use Rattle.books.specs.Limits.{inside}
use Rattle.books.specs.Meaning.{Meaning}
use Rattle.table_book.specs.Cells.{place, grade_in}
use Rattle.table_book.specs.declared.table_book.TableBook.{TableBook}

abbrev pub table_grade : ℕ → ℕ → List ℕ → ℕ → ℕ → Option ℕ
table_grade p t codes i j = if inside p t i j then grade_in (slice_index codes (place i j)) else None

abbrev pub table_meaning : TableBook → Meaning
table_meaning b =
    record {
      packages = b.sizes.packages;
      translators = b.sizes.translators;
      grade = table_grade b.sizes.packages b.sizes.translators b.cells.codes;
    }
