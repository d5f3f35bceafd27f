-- Where a cursor stands in its file, and how far it went.
use Rattle.std.specs.Prelude.{◌≡◌, ℕ, ◌+◌, Bool, true, List, drop}
use Rattle.saved_file.specs.declared.cursor.Cursor.{Cursor}

-- the bytes that have not been read
abbrev pub ahead : Cursor → List ℕ
ahead c = drop c.at c.file.now

-- the same file, so many bytes further on
abbrev pub Moved : Cursor → Cursor → ℕ → Type 0
Moved old new n = (new.file.now ≡ old.file.now) × (new.at ≡ old.at + n)

-- the same file, so many bytes further on where all is well
abbrev pub MovedIf : Bool → Cursor → Cursor → ℕ → Type 0
MovedIf well old new n = (new.file.now ≡ old.file.now) × (well ≡ true → new.at ≡ old.at + n)
