-- What a list book means: its sizes, and the grades of its entries.
use Rattle.books.specs.Meaning.{Meaning}
use Rattle.list_book.specs.Entries.{grade_in}
use Rattle.list_book.specs.declared.book.ListBook.{ListBook}

abbrev pub meant : ListBook → Meaning
meant b =
    record { packages = b.sizes.packages; translators = b.sizes.translators; grade = grade_in b.entries.items }
