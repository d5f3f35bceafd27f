-- A grade put after all others adds its record at the end of the bytes.
use Rattle.std.proofs.Common.{◌≡◌, ℕ, zero, suc, ◌≤◌, List, [], ◌++◌, Some, None, Option, refl, ap, ◌∙◌, ⊎_elim, arith}
use Rattle.file_format.proofs.Orders.{Before}
use Rattle.file_format.specs.FileOf.{grade_bytes, of_grade, row_bytes, grades_bytes}
use Rattle.std.proofs.lemmas.List.{append-nil, append_assoc}
use Rattle.std.proofs.lemmas.Bool.{cases_eq}

-- two rows that agree have the same bytes
pub row_same :
    (i : ℕ) (f g : ℕ → Option ℕ) (t : ℕ) → ((j : ℕ) → 1 ≤ j → j ≤ t → g j ≡ f j)
    → row_bytes i g t ≡ row_bytes i f t
unfolding row_bytes
row_same i f g zero h = refl
row_same i f g (suc t) h =
    let a : row_bytes i g t ≡ row_bytes i f t = row_same i f g t (λ j l m. h j l (omega arith)) in
    let b : g (suc t) ≡ f (suc t) = h (suc t) (omega arith) (omega arith) in
    cc

pub row_none :
    (i : ℕ) (f : ℕ → Option ℕ) (t : ℕ) → ((j : ℕ) → 1 ≤ j → j ≤ t → f j ≡ None) → row_bytes i f t ≡ []
unfolding row_bytes
row_none i f zero h = refl
row_none i f (suc t) h =
    let a : row_bytes i f t ≡ [] = row_none i f t (λ j l m. h j l (omega arith)) in
    let b : f (suc t) ≡ None = h (suc t) (omega arith) (omega arith) in
    simp (a, b)

-- the end of a list of bytes, grown by what an option adds
last_added :
    (xs ys : List ℕ) (i j c : ℕ) (u v : Option ℕ) → xs ≡ ys → u ≡ Some c → v ≡ None
    → xs ++ of_grade i j u ≡ (ys ++ of_grade i j v) ++ grade_bytes i j c
last_added xs ys i j c u v a d e = simp (a, d, e, append-nil)

added_before :
    (xs ys zs : List ℕ) (i j : ℕ) (u v : Option ℕ) → xs ≡ ys ++ zs → u ≡ None → v ≡ None
    → xs ++ of_grade i j u ≡ (ys ++ of_grade i j v) ++ zs
added_before xs ys zs i j u v a d e = simp (a, d, e, append-nil)

pub row_push :
    (i b c : ℕ) (f g : ℕ → Option ℕ) (t : ℕ) → 1 ≤ b → b ≤ t → ((j : ℕ) → (j ≡ b → ⊥) → g j ≡ f j)
    → g b ≡ Some c → ((j : ℕ) → b ≤ j → f j ≡ None)
    → row_bytes i g t ≡ row_bytes i f t ++ grade_bytes i b c
unfolding row_bytes
row_push i b c f g zero l m o h n = absurd (omega arith)
row_push i b c f g (suc t) l m o h n =
    ⊎_elim here (there (λ k. row_push i b c f g t l k o h n)) (cases_eq (suc t) b)
  where
    here : suc t ≡ b → row_bytes i g t ++ of_grade i (suc t) (g (suc t)) ≡ (row_bytes i f t ++ of_grade i (suc t) (f (suc t))) ++ grade_bytes i b c
    here q =
        last_added (row_bytes i g t) (row_bytes i f t) i (suc t) c (g (suc t)) (f (suc t))
        (row_same i f g t (λ j _ k. o j (λ r. omega arith))) (ap g q ∙ h) (n (suc t) (omega arith))
        ∙ ap (λ x. (row_bytes i f t ++ of_grade i (suc t) (f (suc t))) ++ grade_bytes i x c) q

    there :
        (b ≤ t → row_bytes i g t ≡ row_bytes i f t ++ grade_bytes i b c) → (suc t ≡ b → ⊥)
        → row_bytes i g t ++ of_grade i (suc t) (g (suc t)) ≡ (row_bytes i f t ++ of_grade i (suc t) (f (suc t))) ++ grade_bytes i b c
    there ih q =
        let k : f (suc t) ≡ None = n (suc t) (omega arith) in
        added_before (row_bytes i g t) (row_bytes i f t) (grade_bytes i b c) i (suc t) (g (suc t)) (f (suc t))
        (ih (omega arith)) (o (suc t) q ∙ k) k

pub grades_same :
    (F G : ℕ → ℕ → Option ℕ) (p t : ℕ)
    → ((i j : ℕ) → 1 ≤ i → i ≤ p → 1 ≤ j → j ≤ t → G i j ≡ F i j) → grades_bytes G p t ≡ grades_bytes F p t
unfolding grades_bytes
grades_same F G zero t h = refl
grades_same F G (suc p) t h =
    let a : grades_bytes G p t ≡ grades_bytes F p t = grades_same F G p t (λ i j l m. h i j l (omega arith)) in
    let b : row_bytes (suc p) (G (suc p)) t ≡ row_bytes (suc p) (F (suc p)) t =
    row_same (suc p) (F (suc p)) (G (suc p)) t (λ j. h (suc p) j (omega arith) (omega arith)) in
    cc

pub grades_push :
    (a b c : ℕ) (F G : ℕ → ℕ → Option ℕ) (p t : ℕ) → 1 ≤ a → a ≤ p → 1 ≤ b → b ≤ t
    → ((i j : ℕ) → ((i ≡ a) × (j ≡ b) → ⊥) → G i j ≡ F i j) → G a b ≡ Some c
    → ((i j : ℕ) → (Before i j a b → ⊥) → F i j ≡ None)
    → grades_bytes G p t ≡ grades_bytes F p t ++ grade_bytes a b c
unfolding grades_bytes
grades_push a b c F G zero t l m k n o h e = absurd (omega arith)
grades_push a b c F G (suc p) t l m k n o h e =
    ⊎_elim here (there (λ q. grades_push a b c F G p t l q k n o h e)) (cases_eq (suc p) a)
  where
    here : suc p ≡ a → grades_bytes G p t ++ row_bytes (suc p) (G (suc p)) t ≡ (grades_bytes F p t ++ row_bytes (suc p) (F (suc p)) t) ++ grade_bytes a b c
    here q =
        let x : grades_bytes G p t ≡ grades_bytes F p t =
        grades_same F G p t (λ i j _ s _ _. o i j (λ r. omega (arith, r.0))) in
        let y : row_bytes a (G a) t ≡ row_bytes a (F a) t ++ grade_bytes a b c =
        row_push a b c (F a) (G a) t k n (λ j r. o a j (λ w. r w.1)) h
        (λ j r. e a j (λ w. ⊎_elim (λ z. omega arith) (λ z. omega (arith, z.1)) w)) in
        let z : row_bytes (suc p) (G (suc p)) t ≡ row_bytes a (G a) t = ap (λ i. row_bytes i (G i) t) q in
        let w : row_bytes (suc p) (F (suc p)) t ≡ row_bytes a (F a) t = ap (λ i. row_bytes i (F i) t) q in
        simp (x, z, w, y, append_assoc)

    there :
        (a ≤ p → grades_bytes G p t ≡ grades_bytes F p t ++ grade_bytes a b c) → (suc p ≡ a → ⊥)
        → grades_bytes G p t ++ row_bytes (suc p) (G (suc p)) t ≡ (grades_bytes F p t ++ row_bytes (suc p) (F (suc p)) t) ++ grade_bytes a b c
    there ih q =
        let x : grades_bytes G p t ≡ grades_bytes F p t ++ grade_bytes a b c = ih (omega arith) in
        let none : (j : ℕ) → F (suc p) j ≡ None =
        λ j. e (suc p) j (λ w. ⊎_elim (λ z. omega arith) (λ z. q z.0) w) in
        let y : row_bytes (suc p) (F (suc p)) t ≡ [] = row_none (suc p) (F (suc p)) t (λ j _ _. none j) in
        let z : row_bytes (suc p) (G (suc p)) t ≡ [] =
        row_none (suc p) (G (suc p)) t (λ j _ _. o (suc p) j (λ w. q w.0) ∙ none j) in
        simp (x, y, z, append-nil)

pub grades_none : (G : ℕ → ℕ → Option ℕ) (p t : ℕ) → ((i j : ℕ) → G i j ≡ None) → grades_bytes G p t ≡ []
unfolding grades_bytes
grades_none G zero t h = refl
grades_none G (suc p) t h =
    let a : grades_bytes G p t ≡ [] = grades_none G p t h in
    let b : row_bytes (suc p) (G (suc p)) t ≡ [] = row_none (suc p) (G (suc p)) t (λ j _ _. h (suc p) j) in
    simp (a, b)
