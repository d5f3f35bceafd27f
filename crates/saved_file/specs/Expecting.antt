-- What a reader expects of a file of one kind, known by its number and its valid codes, and one pair
-- of sizes.
use Rattle.std.specs.Prelude.{ℕ, Bool}
use Rattle.file_format.specs.Rules.{Expected, just}
use Rattle.saved_file.specs.declared.cursor.expected.Expected.{Expected as OfKind}

abbrev pub of_kind : {K : Type 0} → ℕ → (ℕ → Bool) → OfKind K → Expected
of_kind number valid e = just number valid e.sizes.packages e.sizes.translators
