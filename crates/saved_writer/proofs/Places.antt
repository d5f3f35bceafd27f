-- Bytes put into a buffer one after the other.
use Rattle.std.proofs.Common.{◌≡◌, ℕ, ◌+◌, ◌≤◌, List, [], ◌++◌, length, take, drop, Option, sym, ap, ◌∙◌, subst, ⊎_elim, add-zero, arith}
use Rattle.saved_writer.specs.Written.{CodeFits, CodesFit, RowFits, put_at}
use Rattle.std.proofs.lemmas.List.{append_assoc, drop_at, drop-drop, length-append, length-take-le, take-append-drop, take_at}
use Rattle.std.proofs.lemmas.Bool.{cases_eq}

pub put_none : (l : List ℕ) (at : ℕ) → l ≡ put_at l at []
put_none l at = sym (take-append-drop at l) ∙ ap (λ n. take at l ++ drop n l) (sym (add-zero at))

pub put_put :
    (l : List ℕ) (o n : ℕ) (xs ys : List ℕ) → n ≡ o + length xs → o + length xs ≤ length l
    → put_at (put_at l o xs) n ys ≡ put_at l o (xs ++ ys)
put_put l o n xs ys e h =
    ap (λ zs. take n zs ++ (ys ++ drop (n + length ys) zs)) regrouped
    ∙ ap (λ zs. zs ++ (ys ++ drop (n + length ys) ((take o l ++ xs) ++ drop (o + length xs) l))) (take_at (take o l ++ xs) (drop (o + length xs) l) n long)
    ∙ ap (λ zs. (take o l ++ xs) ++ (ys ++ zs)) later
    ∙ append_assoc (take o l) xs (ys ++ drop (o + length (xs ++ ys)) l)
    ∙ ap (λ zs. take o l ++ zs) (sym (append_assoc xs ys (drop (o + length (xs ++ ys)) l)))
  where
    regrouped : put_at l o xs ≡ (take o l ++ xs) ++ drop (o + length xs) l
    regrouped = sym (append_assoc (take o l) xs (drop (o + length xs) l))

    long : length (take o l ++ xs) ≡ n
    long = omega (arith, length-append (take o l) xs, length-take-le o l (omega arith), e)

    later : drop (n + length ys) ((take o l ++ xs) ++ drop (o + length xs) l) ≡ drop (o + length (xs ++ ys)) l
    later =
        sym (drop-drop (length ys) n ((take o l ++ xs) ++ drop (o + length xs) l))
        ∙ ap (drop (length ys)) (drop_at (take o l ++ xs) (drop (o + length xs) l) n long)
        ∙ drop-drop (length ys) (o + length xs) l ∙ ap (λ m. drop m l) (omega (arith, length-append xs ys))

pub row_fits_none : (f : ℕ → Option ℕ) → RowFits f 0
row_fits_none f j l m = absurd (omega arith)

pub codes_fit_none : (G : ℕ → ℕ → Option ℕ) (t : ℕ) → CodesFit G 0 t
codes_fit_none G t i l m = absurd (omega arith)

pub row_fits_more :
    (f : ℕ → Option ℕ) (n : ℕ) → RowFits f n → CodeFits (f (n + 1)) → RowFits f (n + 1)
row_fits_more f n h k j l m =
    ⊎_elim (λ e. subst (λ x. CodeFits (f x)) (sym e) k) (λ e. h j l (omega (arith, e))) (cases_eq j (n + 1))

pub codes_fit_more :
    (G : ℕ → ℕ → Option ℕ) (n t : ℕ) → CodesFit G n t → RowFits (G (n + 1)) t → CodesFit G (n + 1) t
codes_fit_more G n t h k i l m =
    ⊎_elim (λ e. subst (λ x. RowFits (G x) t) (sym e) k) (λ e. h i l (omega (arith, e))) (cases_eq i (n + 1))
