-- Damaged forms of the worked file, by computing.
use Rattle.std.proofs.Common.{◌≡◌, ℕ, zero, suc, ◌<◌, ◌≤◌, List, set, Some, refl, arith}
use Rattle.file_format.specs.Layout.{count_in}
use Rattle.file_format.specs.Rules.{Part, RightPart, There, first_broken, number_of, offset_of, rank, rules, section_of}
use Rattle.page_facts.proofs.Example.{only}
use Rattle.page_facts.specs.Example.{DamagedFiles, OneFault, example_bytes, example_sheet}
use Rattle.refusals.specs.Faults.{cause_number, fault_at}
use Rattle.refusals.specs.declared.fault.Cause.{Cause}
use Rattle.refusals.specs.declared.fault.Cause.TheVariants as cause

-- a broken rule with nothing wrong before it
located :
    (bs : List ℕ) (q : Part) (c : Cause) → There bs q
    → ((x : Part) → There bs x → rank bs x < rank bs q → RightPart example_sheet bs x)
    → first_broken (rules example_sheet bs q) ≡ Some c
    → OneFault bs (cause_number c) (section_of q) (number_of q) (offset_of bs q)
located bs q c there earlier e =
    only bs (cause_number c) (section_of q) (number_of q) (offset_of bs q) (fault_at c (section_of q) (number_of q) (offset_of bs q))
    (record { part = q; there = there; earlier = earlier; broken = c; first = e; told = refl })
    (record { cause_is = refl; section_is = refl; number_is = refl; offset_is = refl })

module _ (bs : List ℕ) (c : Cause) where
  at_start : first_broken (rules example_sheet bs Part.first_count) ≡ Some c → OneFault bs (cause_number c) 1 0 0
  at_start e = located bs Part.first_count c tt (λ x t l. absurd (omega (arith, l))) e

  at_sheet :
      RightPart example_sheet bs Part.first_count → first_broken (rules example_sheet bs Part.sheet_record) ≡ Some c
      → OneFault bs (cause_number c) 1 1 2
  at_sheet a e = located bs Part.sheet_record c tt earlier e
    where
      earlier : (x : Part) → There bs x → rank bs x < 1 → RightPart example_sheet bs x
      earlier Part.first_count t l = a
      earlier Part.sheet_record t l = absurd (omega (arith, l))
      earlier Part.second_count t l = absurd (omega (arith, l))
      earlier (Part.grade_record r) t l = absurd (omega (arith, l))
      earlier Part.the_end t l = absurd (omega (arith, l))

  at_count :
      RightPart example_sheet bs Part.first_count → RightPart example_sheet bs Part.sheet_record
      → first_broken (rules example_sheet bs Part.second_count) ≡ Some c → OneFault bs (cause_number c) 2 0 5
  at_count a b e = located bs Part.second_count c tt earlier e
    where
      earlier : (x : Part) → There bs x → rank bs x < 2 → RightPart example_sheet bs x
      earlier Part.first_count t l = a
      earlier Part.sheet_record t l = b
      earlier Part.second_count t l = absurd (omega (arith, l))
      earlier (Part.grade_record r) t l = absurd (omega (arith, l))
      earlier Part.the_end t l = absurd (omega (arith, l))

  at_record :
      (k : ℕ) → 1 ≤ k → k ≤ count_in bs → RightPart example_sheet bs Part.first_count → RightPart example_sheet bs Part.sheet_record
      → RightPart example_sheet bs Part.second_count → ((r : ℕ) → 1 ≤ r → r < k → RightPart example_sheet bs (Part.grade_record r))
      → first_broken (rules example_sheet bs (Part.grade_record k)) ≡ Some c
      → OneFault bs (cause_number c) 2 k (offset_of bs (Part.grade_record k))
  at_record k low high a b d before e = located bs (Part.grade_record k) c (low, high) earlier e
    where
      earlier : (x : Part) → There bs x → rank bs x < rank bs (Part.grade_record k) → RightPart example_sheet bs x
      earlier Part.first_count t l = a
      earlier Part.sheet_record t l = b
      earlier Part.second_count t l = d
      earlier (Part.grade_record r) t l = before r t.0 (omega (arith, l))
      earlier Part.the_end t l = absurd (omega (arith, l, high))

-- the records before the first, the second, the third and the fourth
before_1 : (P : ℕ → Type 0) → (r : ℕ) → 1 ≤ r → r < 1 → P r
before_1 P r l h = absurd (omega (arith, l, h))

before_2 : (P : ℕ → Type 0) → P 1 → (r : ℕ) → 1 ≤ r → r < 2 → P r
before_2 P a zero l h = absurd (omega (arith, l))
before_2 P a (suc zero) l h = a
before_2 P a (suc (suc r)) l h = absurd (omega (arith, h))

before_3 : (P : ℕ → Type 0) → P 1 → P 2 → (r : ℕ) → 1 ≤ r → r < 3 → P r
before_3 P a b zero l h = absurd (omega (arith, l))
before_3 P a b (suc zero) l h = a
before_3 P a b (suc (suc zero)) l h = b
before_3 P a b (suc (suc (suc r))) l h = absurd (omega (arith, h))

before_4 : (P : ℕ → Type 0) → P 1 → P 2 → P 3 → (r : ℕ) → 1 ≤ r → r < 4 → P r
before_4 P a b c zero l h = absurd (omega (arith, l))
before_4 P a b c (suc zero) l h = a
before_4 P a b c (suc (suc zero)) l h = b
before_4 P a b c (suc (suc (suc zero))) l h = c
before_4 P a b c (suc (suc (suc (suc r)))) l h = absurd (omega (arith, h))

abbrev Whole : List ℕ → ℕ → Type 0
Whole bs r = RightPart example_sheet bs (Part.grade_record r)

in_first : (bs : List ℕ) (c : Cause) → 1 ≤ count_in bs → RightPart example_sheet bs Part.first_count → RightPart example_sheet bs Part.sheet_record
    → RightPart example_sheet bs Part.second_count → first_broken (rules example_sheet bs (Part.grade_record 1)) ≡ Some c
    → OneFault bs (cause_number c) 2 1 7
in_first bs c n a b d e = at_record bs c 1 (omega arith) n a b d (before_1 (Whole bs)) e

pub damaged_files : DamagedFiles
damaged_files =
    record {
      two_sheets = at_start (set example_bytes 0 2) cause.Count refl;
      other_kind = at_sheet (set example_bytes 2 2) cause.Kind refl refl;
      other_packages = at_sheet (set example_bytes 3 3) cause.Sizes refl refl;
      other_translators = at_sheet (set example_bytes 4 1) cause.Sizes refl refl;
      too_many = at_count (set example_bytes 6 13) cause.Count refl refl refl;
      most =
          at_record (set (set example_bytes 5 0) 6 12) cause.NotWhole 4 (omega arith) (omega arith) refl refl refl
          (before_4 (Whole (set (set example_bytes 5 0) 6 12)) refl refl refl) refl;
      outside = in_first (set example_bytes 7 3) cause.Place (omega arith) refl refl refl refl;
      translator_0 =
          at_record (set example_bytes 20 0) cause.Place 3 (omega arith) (omega arith) refl refl refl
          (before_3 (Whole (set example_bytes 20 0)) refl refl) refl;
      code_1724 = in_first (set example_bytes 10 6) cause.Code (omega arith) refl refl refl refl;
      outside_with_a_bad_code = in_first (set (set example_bytes 7 3) 10 6) cause.Place (omega arith) refl refl refl refl;
      twice =
          at_record (set example_bytes 14 1) cause.NotAfter 2 (omega arith) (omega arith) refl refl refl
          (before_2 (Whole (set example_bytes 14 1)) refl) refl;
      falling =
          at_record (set (set example_bytes 7 2) 8 2) cause.NotAfter 2 (omega arith) (omega arith) refl refl refl
          (before_2 (Whole (set (set example_bytes 7 2) 8 2)) refl) refl;
    }
