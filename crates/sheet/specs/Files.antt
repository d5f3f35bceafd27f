-- What saving answers and leaves in the buffer; and what loading does, for the functions behind the
-- call.
use Rattle.std.specs.Prelude.{◌≡◌, ℕ, ◌<◌, ◌≤◌, true, false, ◌⊎◌, List, is_some, None, Ok, Err, Option, Result, if◌then◌else◌}
use Rattle.books.specs.Meaning.{Meaning}
use Rattle.file_format.specs.FileOf.{grade_in}
use Rattle.file_format.specs.Laws.{Bytes}
use Rattle.file_format.specs.Layout.{count_in}
use Rattle.file_format.specs.Rules.{Right, Faulty}
use Rattle.pages.specs.Reasons.{may, file_expected}
use Rattle.refusals.specs.declared.fault.Fault.{Fault}
use Rattle.refusals.specs.declared.refusal.Refusal.{Refusal}
use Rattle.refusals.specs.declared.refusal.Refusal.TheVariants as refusal
use Rattle.saved_writer.specs.Written.{write_answer, write_after}
use Rattle.sheet.specs.Sheets.{Stood}
use Rattle.sheet.specs.Steps.{with_grades}

-- every role may save
abbrev pub least_role_to_save : ℕ
least_role_to_save = 1

abbrev pub save_answer : ℕ → List ℕ → List ℕ → Result ℕ Refusal
save_answer role file buffer = if may least_role_to_save role then write_answer file buffer else Err refusal.Role

abbrev pub save_after : ℕ → List ℕ → List ℕ → List ℕ
save_after role file buffer = if may least_role_to_save role then write_after file buffer else buffer

-- a load is let in by a manager, while no slip is out, into a sheet without a grade
abbrev pub LoadGate : Stood → ℕ → Result (Unit {0}) Refusal → Type 0
LoadGate x role (Ok u) =
    (may 3 role ≡ true) × (is_some x.standing.out ≡ false) × ((i j : ℕ) → x.standing.grade i j ≡ None)
LoadGate x role (Err r) =
    ((r ≡ refusal.Role) × (may 3 role ≡ false))
    ⊎ (((r ≡ refusal.SlipOut) × (may 3 role ≡ true) × (is_some x.standing.out ≡ true))
    ⊎ ((r ≡ refusal.NotEmpty) × (may 3 role ≡ true) × (is_some x.standing.out ≡ false) × (((i j : ℕ) → x.standing.grade i j ≡ None) → ⊥)))

abbrev pub LoadsNow : Stood → List ℕ → Result (Unit {0}) Refusal → Stood → Type 0
LoadsNow x file (Ok u) y =
    Right (file_expected x.opening) file × (count_in file ≤ x.opening.limit) × Bytes file × (y ≡ with_grades x (grade_in file))
LoadsNow x file (Err r) y =
    (((f : Fault) × (r ≡ refusal.File f) × Faulty (file_expected x.opening) file f)
    ⊎ ((r ≡ refusal.Full) × Right (file_expected x.opening) file × (x.opening.limit < count_in file)))
    × (y ≡ x)

abbrev pub holding : Meaning → (ℕ → ℕ → Option ℕ) → Meaning
holding m g = record { packages = m.packages; translators = m.translators; grade = g }
