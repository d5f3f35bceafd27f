-- The lines of a text are its pieces at the line ends, without a last one that is empty.
use Rattle.std.proofs.Common.{◌≡◌, ℕ, Bool, true, false, if◌then◌else◌, not, ◌==◌, List, [], ◌∷◌, length, Some, None, Option, sym, refl, ap, ◌∙◌, inl, inr, ⊎_elim, ◌⊎◌, arith}
use Rattle.plain_text.proofs.Rows.{some_piece}
use Rattle.plain_text.specs.Lines.{lines_of, lines_in}
use Rattle.plain_text.specs.Pieces.{pieces, pieces_in}
use Rattle.std.proofs.lemmas.Bool.{cases_Bool, cond-false, ne_eqb}
use Rattle.std.specs.Bool.{then_some}
use Rattle.std.specs.Borrow.{Bor}
use Rattle.std.specs.List.{onto_first}
use Rattle.std.specs.Option.{MatchOption}

abbrev lines_from : List (List ℕ) → List (List ℕ)
lines_from [] = []
lines_from (l ∷ []) = l ∷ []
lines_from (l ∷ [] ∷ []) = l ∷ []
lines_from (l ∷ (b ∷ bs) ∷ []) = l ∷ (b ∷ bs) ∷ []
lines_from (l ∷ m ∷ n ∷ ls) = l ∷ lines_from (m ∷ n ∷ ls)

onto_lines : (b : ℕ) (l : List ℕ) (ls : List (List ℕ)) → lines_from (onto_first b (l ∷ ls)) ≡ onto_first b (lines_from (l ∷ ls))
onto_lines b l [] = refl
onto_lines b l ([] ∷ []) = refl
onto_lines b l ((c ∷ m) ∷ []) = refl
onto_lines b l (m ∷ n ∷ ls) = refl

-- b begins the first line after l
past : (l : List ℕ) (b : ℕ) (bs : List ℕ) → lines_from (l ∷ pieces 10 (b ∷ bs)) ≡ l ∷ lines_from (pieces 10 (b ∷ bs))
past l b bs = go (cases_Bool (b == 10)) (pieces 10 bs) (some_piece 10 bs)
  where
    go :
        ((b == 10) ≡ true) ⊎ ((b == 10) ≡ false) → (ps : List (List ℕ)) → (p : List ℕ) × (more : List (List ℕ)) × (ps ≡ p ∷ more)
        → lines_from (l ∷ (if b == 10 then [] ∷ ps else onto_first b ps)) ≡ l ∷ lines_from (if b == 10 then [] ∷ ps else onto_first b ps)
    go (inl e) ps (p, more, q) = rw (e, q) refl
    go (inr e) ps (p, [], q) = rw (e, q) refl
    go (inr e) ps (p, m ∷ ms, q) = rw (e, q) refl

more : (b : ℕ) (bs : List ℕ) → lines_of bs ≡ lines_from (pieces 10 bs) → lines_of (b ∷ bs) ≡ lines_from (pieces 10 (b ∷ bs))
more b [] h = ⊎_elim (λ e. rw e refl) (λ e. rw e refl) (cases_Bool (b == 10))
more b (c ∷ cs) h = ⊎_elim yes no (cases_Bool (b == 10))
  where
    yes : (b == 10) ≡ true → lines_of (b ∷ c ∷ cs) ≡ lines_from (pieces 10 (b ∷ c ∷ cs))
    yes e = rw e (ap (λ ls. [] ∷ ls) h ∙ sym (past [] c cs))

    no : (b == 10) ≡ false → lines_of (b ∷ c ∷ cs) ≡ lines_from (pieces 10 (b ∷ c ∷ cs))
    no e =
        let p = some_piece 10 (c ∷ cs) in
        rw e (ap (onto_first b) (h ∙ ap lines_from p.2) ∙ sym (onto_lines b p.0 p.1) ∙ ap (λ ps. lines_from (onto_first b ps)) (sym p.2))

pub lines_cut : (bs : List ℕ) → lines_of bs ≡ lines_from (pieces 10 bs)
lines_cut [] = refl
lines_cut (b ∷ bs) = more b bs (lines_cut bs)

-- what follows a line's end, where it is not empty
abbrev pub kept : Option (Bor (List ℕ)) → Option (Bor (List ℕ))
kept None = None
kept (Some x) = if length x.now == 0 then None else Some x

pub kept_by :
    (o r : Option (Bor (List ℕ))) (R : Bor (List ℕ) → Bool → Type 0)
    → MatchOption o (r ≡ None) (λ x. (b : Bool) × R x b × (r ≡ then_some b x))
    → ((x : Bor (List ℕ)) (b : Bool) → R x b → b ≡ not (length x.now == 0)) → r ≡ kept o
kept_by None r R m k = m
kept_by (Some x) r R m k = go (length x.now == 0) (m.2 ∙ ap (λ b. then_some b x) (k x m.0 m.1))
  where
    go : (b : Bool) → r ≡ then_some (not b) x → r ≡ (if b then None else Some x)
    go true e = e
    go false e = e

pub first_line :
    (bs line : List ℕ) (after : Option (Bor (List ℕ))) → pieces 10 bs ≡ line ∷ pieces_in 10 after
    → lines_of bs ≡ line ∷ lines_in (kept after)
first_line bs line after e = lines_cut bs ∙ ap lines_from e ∙ go after
  where
    rest : (x : Bor (List ℕ)) (cs : List ℕ) → x.now ≡ cs → lines_from (line ∷ pieces 10 cs) ≡ line ∷ lines_in (kept (Some x))
    rest x [] q = rw q refl
    rest x (c ∷ cs) q =
        let n : length x.now ≡ 0 → ⊥ = omega (arith, ap length q) in
        past line c cs
        ∙ ap (λ ls. line ∷ ls)
        (sym (lines_cut (c ∷ cs)) ∙ ap lines_of (sym q) ∙ ap lines_in (sym (cond-false _ None (Some x) (ne_eqb (length x.now) 0 n))))

    go : (o : Option (Bor (List ℕ))) → lines_from (line ∷ pieces_in 10 o) ≡ line ∷ lines_in (kept o)
    go None = refl
    go (Some x) = rest x x.now refl
