-- Why a line is refused: each reason by what stands above the line and by what it is given. Reasons
-- are checked in the order of their numbers, and the first that holds is answered.
use Rattle.std.specs.Prelude.{◌≡◌, ℕ, ◌<◌, Bool, true, false, ◌&&◌, List, length, is_some, Some, None, Option, ◌≢◌, nat_le}
use Rattle.books.specs.Limits.{inside}
use Rattle.books.specs.Meaning.{standing}
use Rattle.pages.specs.Lines.{Opening, Line, Call}
use Rattle.pages.specs.Standing.{Standing}
use Rattle.file_format.specs.Layout.{count_in}
use Rattle.file_format.specs.Rules.{Expected, Faulty, just}
use Rattle.refusals.specs.Refusals.{number_of}
use Rattle.refusals.specs.declared.fault.Fault.{Fault}
use Rattle.refusals.specs.declared.refusal.Refusal.{Refusal}
use Rattle.refusals.specs.declared.refusal.Refusal.TheVariants as refusal

-- Roles are 1 reader, 2 editor and 3 manager. Each may do what the one before may.
abbrev pub least_role : Call → ℕ
least_role (Call.grade a b code) = 2
least_role (Call.strike a b) = 3
least_role (Call.load file) = 3
least_role Call.draw = 2
least_role (Call.publish tag) = 3
least_role (Call.withdraw tag) = 2
least_role Call.show = 1

abbrev pub may : ℕ → ℕ → Bool
may least role = nat_le least role && nat_le role 3

-- the calls that a slip out keeps off
abbrev pub wants_idle : Call → Bool
wants_idle (Call.grade a b code) = true
wants_idle (Call.strike a b) = true
wants_idle (Call.load file) = true
wants_idle Call.draw = true
wants_idle (Call.publish tag) = false
wants_idle (Call.withdraw tag) = false
wants_idle Call.show = false

-- the tag of the slip that a call is given
abbrev pub slip_of : Call → Option ℕ
slip_of (Call.grade a b code) = None
slip_of (Call.strike a b) = None
slip_of (Call.load file) = None
slip_of Call.draw = None
slip_of (Call.publish tag) = Some tag
slip_of (Call.withdraw tag) = Some tag
slip_of Call.show = None

-- the pair that a call names
abbrev pub pair_of : Call → Option (ℕ × ℕ)
pair_of (Call.grade a b code) = Some (a, b)
pair_of (Call.strike a b) = Some (a, b)
pair_of (Call.load file) = None
pair_of Call.draw = None
pair_of (Call.publish tag) = None
pair_of (Call.withdraw tag) = None
pair_of Call.show = None

-- the calls that may write a plan
abbrev pub writes_plan : Call → Bool
writes_plan (Call.grade a b code) = false
writes_plan (Call.strike a b) = false
writes_plan (Call.load file) = false
writes_plan Call.draw = true
writes_plan (Call.publish tag) = false
writes_plan (Call.withdraw tag) = false
writes_plan Call.show = true

-- a file to load has the kind and the sizes of the sheet
abbrev pub file_expected : Opening → Expected
file_expected o = just o.number o.valid o.packages o.translators

pub data Reason (o : Opening) (s : Standing) (l : Line) : Refusal → Type 0 where
  lacks_the_right : may (least_role l.call) l.role ≡ false → Reason o s l refusal.Role
  slip_is_out : wants_idle l.call ≡ true → is_some s.out ≡ true → Reason o s l refusal.SlipOut
  no_slip_is_out : (tag : ℕ) → slip_of l.call ≡ Some tag → is_some s.out ≡ false → Reason o s l refusal.WrongSlip
  slip_of_another_tag : (tag : ℕ) → slip_of l.call ≡ Some tag → (tag ≢ o.tag) → Reason o s l refusal.WrongSlip
  -- not every pair is without a grade
  sheet_has_a_grade :
      (file : List ℕ) → l.call ≡ Call.load file → (((i j : ℕ) → s.grade i j ≡ None) → ⊥) → Reason o s l refusal.NotEmpty
  outside_the_sizes :
      (a b : ℕ) → pair_of l.call ≡ Some (a, b) → inside o.packages o.translators a b ≡ false
      → Reason o s l refusal.Place
  code_not_valid : (a b code : ℕ) → l.call ≡ Call.grade a b code → o.valid code ≡ false → Reason o s l refusal.Grade
  no_grade_to_take :
      (a b : ℕ) → l.call ≡ Call.strike a b → is_some (s.grade a b) ≡ false → Reason o s l refusal.NothingThere
  nothing_published : l.call ≡ Call.show → is_some s.published ≡ false → Reason o s l refusal.NothingThere
  plan_buffer_short : writes_plan l.call ≡ true → length l.plan < o.packages → Reason o s l refusal.Space
  set_buffer_short : l.call ≡ Call.draw → length l.set < o.packages → Reason o s l refusal.Space
  faulty_file : (file : List ℕ) (f : Fault) → l.call ≡ Call.load file → Faulty (file_expected o) file f → Reason o s l (refusal.File f)
  new_pair_at_the_limit :
      (a b code : ℕ) → l.call ≡ Call.grade a b code → is_some (s.grade a b) ≡ false
      → standing s.grade o.packages o.translators ≡ o.limit → Reason o s l refusal.Full
  more_records_than_the_limit : (file : List ℕ) → l.call ≡ Call.load file → o.limit < count_in file → Reason o s l refusal.Full

pub record FirstReason (o : Opening) (s : Standing) (l : Line) (r : Refusal) : Type 0 where
  pub holds : Reason o s l r
  pub first : (q : Refusal) → number_of q < number_of r → Reason o s l q → ⊥

abbrev pub NoReason : Opening → Standing → Line → Type 0
NoReason o s l = (q : Refusal) → Reason o s l q → ⊥
