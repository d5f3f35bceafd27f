-- Calls of other names differ, and calls of one name agree in what they are given.
use Rattle.std.proofs.Common.{◌≡◌, ℕ, List, Some, None, arith}
use Rattle.pages.specs.Lines.{Call}

abbrev pub ordinal : Call → ℕ
ordinal (Call.grade a b code) = 0
ordinal (Call.strike a b) = 1
ordinal (Call.load file) = 2
ordinal Call.draw = 3
ordinal (Call.publish tag) = 4
ordinal (Call.withdraw tag) = 5
ordinal Call.show = 6

pub never_some : {X : Type 0} (x : X) → None ≡ Some x → ⊥
never_some x e = let z : ◌≡◌ {A = ℕ} 0 1 = cc in omega arith

pub same_some : {X : Type 0} (x y : X) → Some x ≡ Some y → x ≡ y
same_some x y e = cc

pub same_file : (x y : List ℕ) → Call.load x ≡ Call.load y → x ≡ y
same_file x y e = cc

pub record SameGrade (a b c x y z : ℕ) : Type 0 where
  pub pkg : a ≡ x
  pub translator : b ≡ y
  pub code : c ≡ z

pub same_grade : (a b c x y z : ℕ) → Call.grade a b c ≡ Call.grade x y z → SameGrade a b c x y z
same_grade a b c x y z e = record { pkg = cc; translator = cc; code = cc }

pub same_strike : (a b x y : ℕ) → Call.strike a b ≡ Call.strike x y → (a ≡ x) × (b ≡ y)
same_strike a b x y e = (cc, cc)
