-- The records in some bytes, one step at a time.
use Rattle.std.proofs.Common.{◌≡◌, ℕ, zero, suc, ◌+◌, ◌≤◌, ◌<◌, Bool, true, false, if◌then◌else◌, List, [], ◌∷◌, length, take, drop, nat_le, Option, None, refl, ap, ◌∙◌, add-one, arith}
use Rattle.file_format.specs.Layout.{six_bytes}
use Rattle.file_format.specs.declared.records.GradeRecord.{GradeRecord}
use Rattle.saved_file.specs.Records.{left_of, records_of}
use Rattle.saved_file.specs.declared.checked.records.Records.{Records}
use Rattle.std.proofs.lemmas.Bool.{cond-true, le-leb, leb-true}
use Rattle.std.specs.Iterator.{YieldsFirst}

pub no_records : (bs : List ℕ) (n : ℕ) → n ≡ 0 → records_of bs n ≡ []
unfolding records_of
no_records bs n z = rw z refl

pub cut_short : (bs : List ℕ) (n : ℕ) → length bs < 6 → records_of bs n ≡ []
unfolding records_of
cut_short bs zero l = refl
cut_short bs (suc n) l = go (nat_le 6 (length bs)) refl
  where
    go : (b : Bool) → nat_le 6 (length bs) ≡ b → (if b then six_bytes bs ∷ records_of (drop 6 bs) n else []) ≡ []
    go true e = absurd (omega (arith, leb-true 6 (length bs) e, l))
    go false e = refl

pub at_the_end : (s : Records) (r : Option GradeRecord) → r ≡ None → left_of s ≡ [] → YieldsFirst left_of s r s
at_the_end s r n e = rw n (e, e)

-- six bytes are read from the front
front : (bs : List ℕ) → six_bytes (take 6 bs) ≡ six_bytes bs
front [] = refl
front (a ∷ []) = refl
front (a ∷ b ∷ []) = refl
front (a ∷ b ∷ c ∷ []) = refl
front (a ∷ b ∷ c ∷ d ∷ []) = refl
front (a ∷ b ∷ c ∷ d ∷ e ∷ []) = refl
front (a ∷ b ∷ c ∷ d ∷ e ∷ f ∷ bs) = refl

pub one_record :
    (bs bytes rest : List ℕ) (found : GradeRecord) (n m : ℕ) → 6 ≤ length bs → bytes ≡ take 6 bs → rest ≡ drop 6 bs
    → found ≡ six_bytes bytes → n ≡ m + 1 → records_of bs n ≡ found ∷ records_of rest m
unfolding records_of
one_record bs bytes rest found n m l b r f e =
    rw (e, f, b, front bs, r, add-one) (cond-true (nat_le 6 (length bs)) _ _ (le-leb 6 (length bs) l))
