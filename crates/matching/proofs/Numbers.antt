-- The translators of a plan, noted one by one, and written into a buffer.
use Rattle.std.proofs.Common.{◌≡◌, ℕ, ◌+◌, ◌-◌, ◌<◌, ◌≤◌, List, ◌++◌, length, get_or, take, drop, set, sym, ap, ◌∙◌, ⊎_elim, arith}
use Rattle.matching.specs.Owned.{EachOnce, ReadsOff}
use Rattle.std.proofs.lemmas.List.{ext_get_or, get_or_append_left, get_or-append_right, get_or-drop, get_or_past, get_or-set_other, get_or-set_same, get_or-take, length-append, length-drop, length-take-le}
use Rattle.std.proofs.lemmas.Bool.{cases_eq, cases_lt}

abbrev pub Noted : List ℕ → List ℕ → ℕ → Type 0
Noted o ns n = (i k : ℕ) → i < n → get_or o i 0 ≡ k + 1 → get_or ns k 0 ≡ i + 1

pub noted_more :
    (o ns : List ℕ) (j : ℕ) → ((i l : ℕ) → 0 < get_or o i 0 → get_or o i 0 ≡ get_or o l 0 → i ≡ l)
    → 0 < get_or o j 0 → get_or o j 0 - 1 < length ns → Noted o ns j → Noted o (set ns (get_or o j 0 - 1) (j + 1)) (j + 1)
noted_more o ns j apart z h r i k l e =
    ⊎_elim
    (λ q.
    let s : k ≡ get_or o j 0 - 1 = let d : get_or o j 0 ≡ k + 1 = ap (λ x. get_or o x 0) (sym q) ∙ e in omega (arith, d) in
    ap (λ x. get_or (set ns (get_or o j 0 - 1) (j + 1)) x 0) s ∙ get_or-set_same ns (get_or o j 0 - 1) (j + 1) 0 h ∙ ap (λ x. x + 1) (sym q))
    (λ d.
    get_or-set_other ns (get_or o j 0 - 1) k (j + 1) 0 (λ q. d (apart i j (omega (arith, e)) (let s : get_or o i 0 ≡ get_or o j 0 = omega (arith, e, q, z) in s)))
    ∙ r i k (omega arith) e)
    (cases_eq i j)

pub noted_over :
    (o ns : List ℕ) (j : ℕ) → get_or o j 0 ≡ 0 → Noted o ns j → Noted o ns (j + 1)
noted_over o ns j z r i k l e =
    ⊎_elim
    (λ q. absurd (let d : get_or o j 0 ≡ k + 1 = ap (λ x. get_or o x 0) (sym q) ∙ e in omega (arith, d, z)))
    (λ d. r i k (omega arith) e)
    (cases_eq i j)

pub owner_within : (o : List ℕ) (a k : ℕ) → get_or o a 0 ≡ k + 1 → a < length o
owner_within o a k e = ⊎_elim (λ l. l) (λ l. absurd (let d = get_or_past o a 0 l in omega (arith, d, e))) (cases_lt a (length o))

pub noted_all : (o ns : List ℕ) (n : ℕ) → length o ≤ n → Noted o ns n → ReadsOff o ns
noted_all o ns n l r i k e = r i k (let h = owner_within o i k e in omega (arith, h)) e

pub numbered : (p : ℕ) (o ns : List ℕ) → EachOnce p o → ReadsOff o ns → (k : ℕ) → k < p → (1 ≤ get_or ns k 0) × (get_or ns k 0 ≤ length o)
numbered p o ns once r k l =
    let y = once.all k l in
    let e = r y.0 k y.1 in
    let h = owner_within o y.0 k y.1 in
    (omega (arith, e), omega (arith, e, h))

pub never_twice : (p : ℕ) (o ns : List ℕ) → EachOnce p o → ReadsOff o ns → (k l : ℕ) → k < l → l < p → get_or ns k 0 ≡ get_or ns l 0 → ⊥
never_twice p o ns once r k l h g e =
    let y = once.all k (omega arith) in
    let z = once.all l g in
    let a = r y.0 k y.1 in
    let b = r z.0 l z.1 in
    let same : y.0 ≡ z.0 = omega (arith, a, b, e) in
    let c : k + 1 ≡ l + 1 = sym y.1 ∙ ap (λ x. get_or o x 0) same ∙ z.1 in
    omega (arith, c)

-- a copy of the first n into the first n
pub copied :
    (xs ys zs : List ℕ) (n : ℕ) → n ≤ length xs → n ≤ length ys → length zs ≡ length ys
    → ((i : ℕ) → i < n → get_or zs i 0 ≡ get_or xs i 0) → ((i : ℕ) → n ≤ i → get_or zs i 0 ≡ get_or ys i 0)
    → zs ≡ take n xs ++ drop n ys
copied xs ys zs n l h e front rest =
    let a : length (take n xs) ≡ n = length-take-le n xs l in
    let b = length-drop n ys in
    let c = length-append (take n xs) (drop n ys) in
    ext_get_or 0 zs (take n xs ++ drop n ys) (omega (arith, a, b, c))
    (λ i _.
    ⊎_elim
    (λ k. front i k ∙ sym (get_or-take n xs i 0 k) ∙ sym (get_or_append_left (take n xs) (drop n ys) 0 i (omega (arith, a))))
    (λ k.
    let q : n + (i - n) ≡ i = omega arith in
    rest i k ∙ ap (λ x. get_or ys x 0) (sym q) ∙ sym (get_or-drop n ys (i - n) 0) ∙ sym (get_or-append_right (take n xs) (drop n ys) n i 0 a k))
    (cases_lt i n))
