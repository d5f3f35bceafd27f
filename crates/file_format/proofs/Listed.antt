-- Grades listed pair by pair: a pair without a grade adds nothing, and one with a grade its record.
use Rattle.std.proofs.Common.{◌≡◌, ℕ, zero, suc, ◌+◌, ◌-◌, ◌^◌, ◌<◌, ◌≤◌, Bool, true, false, cond, eqb, ◌⊎◌, List, [], ◌∷◌, ◌++◌, length, drop, Some, None, Option, sym, refl, ap, ◌∙◌, subst, inl, inr, ⊎_elim, arith}
use Rattle.books.proofs.Standing.{changed_same, changed_other}
use Rattle.books.specs.Limits.{inside}
use Rattle.books.specs.Meaning.{changed}
use Rattle.file_format.proofs.Bytes.{four_again}
use Rattle.file_format.proofs.Decoded.{Good}
use Rattle.books.proofs.Inside.{Lies, lies}
use Rattle.file_format.proofs.Orders.{Before, true_before, before_apart}
use Rattle.file_format.specs.FileOf.{grade_bytes, grades_upto}
use Rattle.file_format.specs.Layout.{after, last_of, record_in, six_bytes, start_of}
use Rattle.file_format.specs.declared.records.GradeRecord.{GradeRecord}
use Rattle.std.proofs.lemmas.List.{drop-append-le, drop_at, length-append, length-drop}
use Rattle.std.proofs.lemmas.Bool.{cases_eq, cond-false, cond-true, ne_eqb, eq-eqb, true≢false}

-- six bytes at the front are read alike, whatever follows them
six_front : (xs ys : List ℕ) → 6 ≤ length xs → six_bytes (xs ++ ys) ≡ six_bytes xs
six_front [] ys l = absurd (omega arith)
six_front (x ∷ []) ys l = absurd (omega arith)
six_front (x ∷ y ∷ []) ys l = absurd (omega arith)
six_front (x ∷ y ∷ a ∷ []) ys l = absurd (omega arith)
six_front (x ∷ y ∷ a ∷ b ∷ []) ys l = absurd (omega arith)
six_front (x ∷ y ∷ a ∷ b ∷ c ∷ []) ys l = absurd (omega arith)
six_front (x ∷ y ∷ a ∷ b ∷ c ∷ d ∷ zs) ys l = refl

-- a record that is whole is read alike, whatever follows the file
pub record_front : (xs ys : List ℕ) (r : ℕ) → start_of r + 6 ≤ length xs → record_in (xs ++ ys) r ≡ record_in xs r
record_front xs ys r l =
    let k : start_of r ≤ length xs = omega arith in
    ap six_bytes (drop-append-le (start_of r) xs ys k)
    ∙ six_front (drop (start_of r) xs) ys (omega (arith, length-drop (start_of r) xs))

-- the record that was put at the end
pub record_last :
    (xs : List ℕ) (r i j code : ℕ) → length xs ≡ start_of r → code < 2 ^ 32
    → record_in (xs ++ grade_bytes i j code) r ≡ record { pkg = i; translator = j; code = code }
record_last xs r i j code e l =
    ap six_bytes (drop_at xs (grade_bytes i j code) (start_of r) e) ∙ ap (λ (c : ℕ). record { pkg = i; translator = j; code = c }) (four_again code l)

pub upto_front :
    (xs ys : List ℕ) (n : ℕ) → start_of (n + 1) ≤ length xs → grades_upto (xs ++ ys) n ≡ grades_upto xs n
unfolding grades_upto
upto_front xs ys zero l = refl
upto_front xs ys (suc n) l =
    let a : grades_upto (xs ++ ys) n ≡ grades_upto xs n = upto_front xs ys n (omega arith) in
    let b : record_in (xs ++ ys) (suc n) ≡ record_in xs (suc n) = record_front xs ys (suc n) (omega arith) in
    ap (λ f. changed f (record_in (xs ++ ys) (suc n)).pkg (record_in (xs ++ ys) (suc n)).translator (Some (record_in (xs ++ ys) (suc n)).code)) a
    ∙ ap (λ (r : GradeRecord). changed (grades_upto xs n) r.pkg r.translator (Some r.code)) b

-- what holds of the bytes of the pairs before (x, y), with n records
pub record Listed (valid : ℕ → Bool) (p t : ℕ) (G : ℕ → ℕ → Option ℕ) (bs : List ℕ) (n x y : ℕ) : Type 0 where
  pub long : length bs ≡ start_of (suc n)
  pub good : (r : ℕ) → 1 ≤ r → r ≤ n → Good valid p t bs r
  pub last : 1 ≤ n → Before (record_in bs n).pkg (record_in bs n).translator x y
  -- the grades of these pairs stand there, and no others
  pub listed : (i j : ℕ) → Before i j x y → inside p t i j ≡ true → grades_upto bs n i j ≡ G i j
  pub unlisted : (i j : ℕ) → (Before i j x y → ⊥) → grades_upto bs n i j ≡ None
  pub outside : (i j : ℕ) → inside p t i j ≡ false → grades_upto bs n i j ≡ None

after_last :
    (bs : List ℕ) (n i j code : ℕ) → (1 ≤ n → Before (record_in bs n).pkg (record_in bs n).translator i j)
    → after (last_of bs n) (record { pkg = i; translator = j; code = code }) ≡ true
after_last bs n i j code h = ⊎_elim none some (cases_eq n 0)
  where
    none : n ≡ 0 → after (last_of bs n) (record { pkg = i; translator = j; code = code }) ≡ true
    none e =
        ap (λ o. after o (record { pkg = i; translator = j; code = code }))
        (cond-true (eqb n 0) None (Some (record_in bs n)) (eq-eqb n 0 e))

    some : (n ≡ 0 → ⊥) → after (last_of bs n) (record { pkg = i; translator = j; code = code }) ≡ true
    some e =
        ap (λ o. after o (record { pkg = i; translator = j; code = code }))
        (cond-false (eqb n 0) None (Some (record_in bs n)) (ne_eqb n 0 e))
        ∙ true_before (record_in bs n).pkg (record_in bs n).translator i j (h (omega (arith, e)))

before_next : (i j x y : ℕ) → Before i j x (suc y) → ((i ≡ x) × (j ≡ y)) ⊎ Before i j x y
before_next i j x y (inl a) = inr (inl a)
before_next i j x y (inr a) =
    ⊎_elim (λ e. inl (a.0, e)) (λ e. inr (inr (a.0, omega (arith, a.1, e)))) (cases_eq j y)

next_after : (i j x y : ℕ) → Before i j x y → Before i j x (suc y)
next_after i j x y (inl a) = inl a
next_after i j x y (inr a) = inr (a.0, omega (arith, a.1))

module _ (valid : ℕ → Bool) (p t : ℕ) (G : ℕ → ℕ → Option ℕ) (bs : List ℕ) (n x y : ℕ) (L : Listed valid p t G bs n x y) where
  -- a pair without a grade adds nothing
  pub skip : G x y ≡ None → Listed valid p t G bs n x (suc y)
  skip e =
      record {
        long = L.long;
        good = L.good;
        last = λ l. next_after _ _ x y (L.last l);
        listed =
            λ i j h w. ⊎_elim (λ q. here i j q) (λ q. L.listed i j q w) (before_next i j x y h);
        unlisted = λ i j h. L.unlisted i j (λ q. h (next_after i j x y q));
        outside = L.outside;
      }
    where
      here : (i j : ℕ) → (i ≡ x) × (j ≡ y) → grades_upto bs n i j ≡ G i j
      here i j q =
          L.unlisted i j (λ w. before_apart i j x y w (sym q.0, sym q.1))
          ∙ sym (ap (λ u. G u j) q.0 ∙ ap (G x) q.1 ∙ e)

  module _ (c : ℕ) (e : G x y ≡ Some c) (w : inside p t x y ≡ true) (v : valid c ≡ true) (l : c < 2 ^ 32) where
    abbrev cs : List ℕ
    cs = bs ++ grade_bytes x y c

    long_cs : length cs ≡ start_of (suc (suc n))
    long_cs = omega (arith, length-append bs (grade_bytes x y c), L.long)

    new : record_in cs (suc n) ≡ record { pkg = x; translator = y; code = c }
    new = record_last bs (suc n) x y c L.long l

    old : (r : ℕ) → r ≤ n → record_in cs r ≡ record_in bs r
    old r h = record_front bs (grade_bytes x y c) r (omega (arith, L.long))

    old_last : (r : ℕ) → r ≤ n → last_of cs r ≡ last_of bs r
    old_last r h = ap (λ q. cond (eqb r 0) None (Some q)) (old r h)

    grown : grades_upto cs (suc n) ≡ changed (grades_upto bs n) x y (Some c)
    unfolding grades_upto
    grown =
        ap (λ f. changed f (record_in cs (suc n)).pkg (record_in cs (suc n)).translator (Some (record_in cs (suc n)).code))
        (upto_front bs (grade_bytes x y c) n (omega (arith, L.long)))
        ∙ ap (λ (r : GradeRecord). changed (grades_upto bs n) r.pkg r.translator (Some r.code)) new

    grown_at : (i j : ℕ) → grades_upto cs (suc n) i j ≡ changed (grades_upto bs n) x y (Some c) i j
    grown_at i j = ap (λ f. f i j) grown

    old_good : (r : ℕ) → 1 ≤ r → r ≤ n → Good valid p t cs r
    old_good r a b =
        let g = L.good r a b in
        let o = old r b in
        record {
          whole_in = omega (arith, g.whole_in, long_cs, L.long);
          placed = subst (λ (q : GradeRecord). inside p t q.pkg q.translator ≡ true) (sym o) g.placed;
          coded = subst (λ (q : GradeRecord). valid q.code ≡ true) (sym o) g.coded;
          next =
              subst (λ (q : GradeRecord). after (last_of cs (r - 1)) q ≡ true) (sym o)
              (subst (λ q. after q (record_in bs r) ≡ true) (sym (old_last (r - 1) (omega arith))) g.next);
        }

    new_good : Good valid p t cs (suc n)
    new_good =
        let k : n ≡ suc n - 1 = omega arith in
        record {
          whole_in = omega (arith, long_cs);
          placed = subst (λ (q : GradeRecord). inside p t q.pkg q.translator ≡ true) (sym new) w;
          coded = subst (λ (q : GradeRecord). valid q.code ≡ true) (sym new) v;
          next =
              subst (λ (q : GradeRecord). after (last_of cs (suc n - 1)) q ≡ true) (sym new)
              (subst (λ m. after (last_of cs m) (record { pkg = x; translator = y; code = c }) ≡ true) k
              (subst (λ q. after q (record { pkg = x; translator = y; code = c }) ≡ true) (sym (old_last n (omega arith)))
              (after_last bs n x y c L.last)));
        }

    all_good : (r : ℕ) → 1 ≤ r → r ≤ suc n → Good valid p t cs r
    all_good r a b =
        ⊎_elim (λ q. subst (Good valid p t cs) (sym q) new_good) (λ q. old_good r a (omega (arith, q))) (cases_eq r (suc n))

    new_listed : (i j : ℕ) → Before i j x (suc y) → inside p t i j ≡ true → grades_upto cs (suc n) i j ≡ G i j
    new_listed i j h u = grown_at i j ∙ ⊎_elim same other (cases_both i j)
      where
        cases_both : (i j : ℕ) → ((i ≡ x) × (j ≡ y)) ⊎ ((i ≡ x) × (j ≡ y) → ⊥)
        cases_both i j =
            ⊎_elim (λ a. ⊎_elim (λ b. inl (a, b)) (λ b. inr (λ q. b q.1)) (cases_eq j y)) (λ a. inr (λ q. a q.0)) (cases_eq i x)

        same : (i ≡ x) × (j ≡ y) → changed (grades_upto bs n) x y (Some c) i j ≡ G i j
        same q =
            ap (λ a. changed (grades_upto bs n) x y (Some c) a j) q.0
            ∙ ap (changed (grades_upto bs n) x y (Some c) x) q.1 ∙ changed_same (grades_upto bs n) x y (Some c)
            ∙ sym (ap (λ a. G a j) q.0 ∙ ap (G x) q.1 ∙ e)

        other : ((i ≡ x) × (j ≡ y) → ⊥) → changed (grades_upto bs n) x y (Some c) i j ≡ G i j
        other d =
            changed_other (grades_upto bs n) x y (Some c) i j d
            ∙ ⊎_elim (λ q. absurd (d q)) (λ q. L.listed i j q u) (before_next i j x y h)

    -- a pair with a grade adds its record
    pub push : Listed valid p t G cs (suc n) x (suc y)
    push =
        record {
          long = long_cs;
          good = all_good;
          last =
              λ _. subst (λ (q : GradeRecord). Before q.pkg q.translator x (suc y)) (sym new) (inr (refl, omega arith));
          listed = new_listed;
          unlisted =
              λ i j h.
              grown_at i j
              ∙ changed_other (grades_upto bs n) x y (Some c) i j
              (λ q. h (inr (q.0, omega (arith, q.1))))
              ∙ L.unlisted i j (λ q. h (next_after i j x y q));
          outside =
              λ i j h.
              grown_at i j
              ∙ changed_other (grades_upto bs n) x y (Some c) i j
              (λ q. true≢false (sym w ∙ ap (λ a. inside p t a y) (sym q.0) ∙ ap (inside p t i) (sym q.1) ∙ h))
              ∙ L.outside i j h;
        }

-- the end of a row is the start of the next
pub turn :
    (valid : ℕ → Bool) (p t : ℕ) (G : ℕ → ℕ → Option ℕ) (bs : List ℕ) (n x : ℕ)
    → Listed valid p t G bs n x (suc t) → Listed valid p t G bs n (suc x) 1
turn valid p t G bs n x L =
    record {
      long = L.long;
      good = L.good;
      last = λ l. up (record_in bs n).pkg (record_in bs n).translator (L.last l);
      listed = λ i j h w. L.listed i j (down i j h (lies p t i j w)) w;
      unlisted = λ i j h. L.unlisted i j (λ q. h (up i j q));
      outside = L.outside;
    }
  where
    up : (i j : ℕ) → Before i j x (suc t) → Before i j (suc x) 1
    up i j (inl a) = inl (omega arith)
    up i j (inr a) = inl (omega (arith, a.0))

    down : (i j : ℕ) → Before i j (suc x) 1 → Lies p t i j → Before i j x (suc t)
    down i j (inl a) w =
        ⊎_elim (λ e. inr (e, omega (arith, w.column_most))) (λ e. inl (omega (arith, e))) (cases_eq i x)
    down i j (inr a) w = absurd (omega (arith, a.1, w.column))
