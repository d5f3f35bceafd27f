-- Which text is the report on a saved file, and what all reports on one file have in common.
use Rattle.std.specs.Prelude.{◌≡◌, ℕ, Bool, true, if◌then◌else◌, ◌⊎◌, List, ◌++◌, Option, ◌==◌}
use Rattle.file_format.specs.FileOf.{Graded, file_of}
use Rattle.file_format.specs.Rules.{Faulty}
use Rattle.grades.specs.Names.{known_kind}
use Rattle.grades.specs.Points.{above_points}
use Rattle.grades.specs.Ratings.{above_rating}
use Rattle.matching.specs.Plans.{BestPlan, NoPlan, ShortSet, TightSet}
use Rattle.plan_report.specs.Texts.{fault_text, plan_front, short_front, set_line, tight_words, short_words}
use Rattle.refusals.specs.declared.fault.Fault.{Fault}
use Rattle.saved_file.specs.ByItself.{by_itself, valid_in}

-- the order of the grades of a kind: 1 is points, and else ratings
abbrev pub above_in : ℕ → ℕ → ℕ → Bool
above_in kind a b = if kind == 1 then above_points a b else above_rating a b

-- the file is that of grades G of a known kind, in sizes p and t
pub record Holds (file : List ℕ) (kind p t : ℕ) (G : ℕ → ℕ → Option ℕ) : Type 0 where
  pub known : known_kind kind ≡ true
  pub graded : Graded (valid_in kind) p t G
  pub same : file ≡ file_of kind p t G

-- The text tells the best plan by these grades and a tight set; or, where there is no full plan, a
-- short set. Which set is told is free.
pub data Tells (kind p t : ℕ) (G : ℕ → ℕ → Option ℕ) (text : List ℕ) : Type 0 where
  planned :
      (plan : List ℕ) (lowest : ℕ) (S : ℕ → Bool) → BestPlan (above_in kind) G p t plan lowest
      → TightSet (above_in kind) G p t lowest S → text ≡ plan_front kind p t G plan lowest ++ set_line tight_words S p
      → Tells kind p t G text
  short :
      (S : ℕ → Bool) → NoPlan G p t → ShortSet G p t S → text ≡ short_front kind p t G ++ set_line short_words S p
      → Tells kind p t G text

-- the report on a file: its fault where it has one, and else what its grades come to
pub data Report (file text : List ℕ) : Type 0 where
  faulty : (f : Fault) → Faulty (by_itself file) file f → text ≡ fault_text f → Report file text
  told : (kind p t : ℕ) (G : ℕ → ℕ → Option ℕ) → Holds file kind p t G → Tells kind p t G text → Report file text

-- the same lines but for the last, and that names a set in the same words
pub record SameButForTheSet (text other : List ℕ) : Type 0 where
  pub front : List ℕ
  pub words : List ℕ
  pub size : ℕ
  pub one : ℕ → Bool
  pub another : ℕ → Bool
  pub names : (words ≡ tight_words) ⊎ (words ≡ short_words)
  pub text_is : text ≡ front ++ set_line words one size
  pub other_is : other ≡ front ++ set_line words another size

-- two offices on one file: the same fault, or the same plan, grades and lowest grade
abbrev pub ReportsAgree : Type 0
ReportsAgree =
    (file text other : List ℕ) → Report file text → Report file other → (text ≡ other) ⊎ SameButForTheSet text other
