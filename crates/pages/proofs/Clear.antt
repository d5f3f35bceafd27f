-- What keeps off every reason with a smaller number, and so makes a reason the first.
use Rattle.std.proofs.Common.{◌≡◌, ℕ, ◌<◌, ◌≤◌, true, false, List, length, is_some, Some, None, arith}
use Rattle.books.specs.Limits.{inside}
use Rattle.books.specs.Meaning.{standing}
use Rattle.file_format.specs.Layout.{count_in}
use Rattle.file_format.specs.Rules.{Faulty}
use Rattle.pages.specs.Lines.{Opening, Line, Call}
use Rattle.pages.specs.Reasons.{Reason, FirstReason, NoReason, may, least_role, wants_idle, slip_of, pair_of, writes_plan, file_expected}
use Rattle.pages.specs.Standing.{Standing}
use Rattle.refusals.specs.Refusals.{number_of}
use Rattle.refusals.specs.declared.fault.Fault.{Fault}
use Rattle.refusals.specs.declared.refusal.Refusal.{Refusal}
use Rattle.refusals.specs.declared.refusal.Refusal.TheVariants as refusal
use Rattle.std.proofs.lemmas.Bool.{both_ways}

-- no reason with a number below n holds
pub record Clear (o : Opening) (s : Standing) (l : Line) (n : ℕ) : Type 0 where
  pub role : 2 < n → may (least_role l.call) l.role ≡ true
  pub idle : 3 < n → wants_idle l.call ≡ true → is_some s.out ≡ false
  pub slip : 4 < n → (tag : ℕ) → slip_of l.call ≡ Some tag → (is_some s.out ≡ true) × (tag ≡ o.tag)
  pub empty : 5 < n → (file : List ℕ) → l.call ≡ Call.load file → (i j : ℕ) → s.grade i j ≡ None
  pub place : 6 < n → (a b : ℕ) → pair_of l.call ≡ Some (a, b) → inside o.packages o.translators a b ≡ true
  pub code : 7 < n → (a b code : ℕ) → l.call ≡ Call.grade a b code → o.valid code ≡ true
  pub taken : 8 < n → (a b : ℕ) → l.call ≡ Call.strike a b → is_some (s.grade a b) ≡ true
  pub shown : 8 < n → l.call ≡ Call.show → is_some s.published ≡ true
  pub plan : 9 < n → writes_plan l.call ≡ true → o.packages ≤ length l.plan
  pub set : 9 < n → l.call ≡ Call.draw → o.packages ≤ length l.set
  pub file : 10 < n → (file : List ℕ) (f : Fault) → l.call ≡ Call.load file → Faulty (file_expected o) file f → ⊥
  pub room :
      11 < n → (a b code : ℕ) → l.call ≡ Call.grade a b code → is_some (s.grade a b) ≡ false
      → standing s.grade o.packages o.translators ≡ o.limit → ⊥
  pub records : 11 < n → (file : List ℕ) → l.call ≡ Call.load file → count_in file ≤ o.limit

pub none_below :
    (o : Opening) (s : Standing) (l : Line) (n : ℕ) → Clear o s l n → (q : Refusal) → number_of q < n → Reason o s l q → ⊥
none_below o s l n c q b (Reason.lacks_the_right w) = both_ways (may (least_role l.call) l.role) w (c.role b)
none_below o s l n c q b (Reason.slip_is_out w x) = both_ways (is_some s.out) (c.idle b w) x
none_below o s l n c q b (Reason.no_slip_is_out tag w x) = both_ways (is_some s.out) x (c.slip b tag w).0
none_below o s l n c q b (Reason.slip_of_another_tag tag w x) = x (c.slip b tag w).1
none_below o s l n c q b (Reason.sheet_has_a_grade file w x) = x (c.empty b file w)
none_below o s l n c q b (Reason.outside_the_sizes i j w x) =
    both_ways (inside o.packages o.translators i j) x (c.place b i j w)
none_below o s l n c q b (Reason.code_not_valid i j code w x) = both_ways (o.valid code) x (c.code b i j code w)
none_below o s l n c q b (Reason.no_grade_to_take i j w x) = both_ways (is_some (s.grade i j)) x (c.taken b i j w)
none_below o s l n c q b (Reason.nothing_published w x) = both_ways (is_some s.published) x (c.shown b w)
none_below o s l n c q b (Reason.plan_buffer_short w x) = omega (arith, x, c.plan b w)
none_below o s l n c q b (Reason.set_buffer_short w x) = omega (arith, x, c.set b w)
none_below o s l n c q b (Reason.faulty_file file f w x) = c.file b file f w x
none_below o s l n c q b (Reason.new_pair_at_the_limit i j code w x y) = c.room b i j code w x y
none_below o s l n c q b (Reason.more_records_than_the_limit file w x) = omega (arith, x, c.records b file w)

at_most_eleven : (q : Refusal) → number_of q < 12
at_most_eleven refusal.Size = omega arith
at_most_eleven refusal.Role = omega arith
at_most_eleven refusal.SlipOut = omega arith
at_most_eleven refusal.WrongSlip = omega arith
at_most_eleven refusal.NotEmpty = omega arith
at_most_eleven refusal.Place = omega arith
at_most_eleven refusal.Grade = omega arith
at_most_eleven refusal.NothingThere = omega arith
at_most_eleven refusal.Space = omega arith
at_most_eleven (refusal.File f) = omega arith
at_most_eleven refusal.Full = omega arith

pub all_clear : (o : Opening) (s : Standing) (l : Line) → Clear o s l 12 → NoReason o s l
all_clear o s l c q r = none_below o s l 12 c q (at_most_eleven q) r

pub is_first :
    (o : Opening) (s : Standing) (l : Line) (r : Refusal) → Reason o s l r → Clear o s l (number_of r) → FirstReason o s l r
is_first o s l r h c = record { holds = h; first = λ q b w. none_below o s l (number_of r) c q b w }
