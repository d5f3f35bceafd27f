-- Every file is right or has one fault: the parts by their rank, the first that is not right, and no
-- other.
use Rattle.std.proofs.Common.{◌≡◌, ℕ, zero, suc, ◌+◌, ◌<◌, ◌≤◌, cond, ltb, ◌⊎◌, List, Some, None, Option, sym, refl, ap, ◌∙◌, subst, inl, inr, ⊎_elim, arith}
use Rattle.refusals.specs.Faults.{fault_at}
use Rattle.refusals.specs.declared.fault.Cause.{Cause}
use Rattle.refusals.specs.declared.fault.Fault.{Fault}
use Rattle.file_format.specs.Laws.{RightOrOneFault}
use Rattle.file_format.specs.Layout.{count_in}
use Rattle.file_format.specs.Rules.{Expected, Part, Faulty, There, Right, RightPart, rank, rules, first_broken, section_of, number_of, offset_of, first_count, sheet_record, second_count, grade_record, the_end}
use Rattle.std.proofs.lemmas.Bool.{cases_lt, cases_order, cond-true, cond-false, lt-ltb, le-ltb}

some_none : (o : Option Cause) (c : Cause) → o ≡ Some c → o ≡ None → ⊥
some_none o c h k = let z : ◌≡◌ {A = ℕ} 0 1 = cc in omega arith

-- the part of a rank, in a file of n grade records
abbrev part_at : ℕ → ℕ → Part
part_at n zero = first_count
part_at n (suc zero) = sheet_record
part_at n (suc (suc zero)) = second_count
part_at n (suc (suc (suc k))) = cond (ltb k n) (grade_record (suc k)) the_end

part_of_rank : (bs : List ℕ) (q : Part) → There bs q → part_at (count_in bs) (rank bs q) ≡ q
part_of_rank bs first_count t = refl
part_of_rank bs sheet_record t = refl
part_of_rank bs second_count t = refl
part_of_rank bs (grade_record zero) t = absurd (omega (arith, t.0))
part_of_rank bs (grade_record (suc k)) t =
    let e : 2 + suc k ≡ suc (suc (suc k)) = omega arith in
    ap (part_at (count_in bs)) e
    ∙ cond-true (ltb k (count_in bs)) (grade_record (suc k)) the_end (lt-ltb k (count_in bs) (omega (arith, t.1)))
part_of_rank bs the_end t =
    let n = count_in bs in
    let e : 3 + count_in bs ≡ suc (suc (suc (count_in bs))) = omega arith in
    ap (part_at (count_in bs)) e
    ∙ cond-false (ltb n n) (grade_record (suc n)) the_end (le-ltb n n (omega arith))

-- a part of each rank up to the end
part_there :
    (bs : List ℕ) (m : ℕ) → m ≤ 3 + count_in bs → (q : Part) × There bs q × (rank bs q ≡ m)
part_there bs zero l = (first_count, tt, refl)
part_there bs (suc zero) l = (sheet_record, tt, refl)
part_there bs (suc (suc zero)) l = (second_count, tt, refl)
part_there bs (suc (suc (suc k))) l =
    ⊎_elim
    (λ h. (grade_record (suc k), (omega arith, omega arith), omega arith))
    (λ h. (the_end, tt, omega arith))
    (cases_lt k (count_in bs))

abbrev AllRightBelow : Expected → List ℕ → ℕ → Type 0
AllRightBelow e bs m = (q : Part) → There bs q → rank bs q < m → RightPart e bs q

found : (e : Expected) (bs : List ℕ) (m : ℕ) → m ≤ 4 + count_in bs → AllRightBelow e bs m ⊎ ((f : Fault) × Faulty e bs f)
found e bs zero l = inl (λ q t h. absurd (omega arith))
found e bs (suc m) l = ⊎_elim next inr (found e bs m (omega arith))
  where
    here : (q : Part) × There bs q × (rank bs q ≡ m)
    here = part_there bs m (omega arith)

    next : AllRightBelow e bs m → AllRightBelow e bs (suc m) ⊎ ((f : Fault) × Faulty e bs f)
    next old = go (first_broken (rules e bs here.0)) refl
      where
        go : (v : Option Cause) → first_broken (rules e bs here.0) ≡ v → AllRightBelow e bs (suc m) ⊎ ((f : Fault) × Faulty e bs f)
        go None k =
            inl (λ q t h. ⊎_elim (old q t)
            (λ j.
            let r : rank bs here.0 ≡ rank bs q = omega (arith, here.2) in
            let s : here.0 ≡ q =
            sym (part_of_rank bs here.0 here.1) ∙ ap (part_at (count_in bs)) r ∙ part_of_rank bs q t in
            subst (RightPart e bs) s k)
            (cases_lt (rank bs q) m))
        go (Some c) k =
            inr (
              fault_at c (section_of here.0) (number_of here.0) (offset_of bs here.0),
              record {
                part = here.0;
                there = here.1;
                earlier = λ q t h. old q t (omega (arith, here.2));
                broken = c;
                first = k;
                told = refl;
              },
            )

rank_le : (bs : List ℕ) (q : Part) → There bs q → rank bs q < 4 + count_in bs
rank_le bs first_count t = omega arith
rank_le bs sheet_record t = omega arith
rank_le bs second_count t = omega arith
rank_le bs (grade_record r) t = omega (arith, t.1)
rank_le bs the_end t = omega arith

either : (e : Expected) (bs : List ℕ) → Right e bs ⊎ ((f : Fault) × Faulty e bs f)
either e bs = ⊎_elim (λ h. inl (λ q t. h q t (rank_le bs q t))) inr (found e bs (4 + count_in bs) (omega arith))

never_both : (e : Expected) (bs : List ℕ) → Right e bs → (f : Fault) → Faulty e bs f → ⊥
never_both e bs h f w = some_none (first_broken (rules e bs w.part)) w.broken w.first (h w.part w.there)

-- two faults tell one part, and there one cause
never_two : (e : Expected) (bs : List ℕ) (f g : Fault) → Faulty e bs f → Faulty e bs g → f ≡ g
never_two e bs f g v w = ⊎_elim same (λ o. absurd (⊎_elim later earlier o)) (cases_order (rank bs v.part) (rank bs w.part))
  where
    later : rank bs v.part < rank bs w.part → ⊥
    later h = some_none (first_broken (rules e bs v.part)) v.broken v.first (w.earlier v.part v.there h)

    earlier : rank bs w.part < rank bs v.part → ⊥
    earlier h = some_none (first_broken (rules e bs w.part)) w.broken w.first (v.earlier w.part w.there h)

    same : rank bs v.part ≡ rank bs w.part → f ≡ g
    same r =
        let q : v.part ≡ w.part =
        sym (part_of_rank bs v.part v.there) ∙ ap (part_at (count_in bs)) r ∙ part_of_rank bs w.part w.there in
        let k : Some v.broken ≡ Some w.broken =
        sym v.first ∙ ap (λ p. first_broken (rules e bs p)) q ∙ w.first in
        let c : v.broken ≡ w.broken = cc in
        v.told ∙ ap (λ b. fault_at b (section_of v.part) (number_of v.part) (offset_of bs v.part)) c
        ∙ ap (λ p. fault_at w.broken (section_of p) (number_of p) (offset_of bs p)) q ∙ sym w.told

pub right_or_one_fault : RightOrOneFault
right_or_one_fault e bs = (either e bs, never_both e bs, never_two e bs)
