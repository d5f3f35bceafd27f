-- The order of pairs, by package and then by translator, and pairs inside the sizes.
use Rattle.std.proofs.Common.{◌≡◌, ℕ, ◌<◌, true, ◌&&◌, eqb, ltb, leb, ◌⊎◌, inl, inr, ⊎_elim, arith}
use Rattle.books.proofs.Inside.{Lies}
use Rattle.books.specs.Limits.{inside}
use Rattle.file_format.specs.Layout.{before}
use Rattle.std.proofs.lemmas.Bool.{and_parts, and_from, cases_order, le-leb, ltb-true, eqb-true, lt-ltb, eq-eqb, or_cases, or_left, or_right}

abbrev pub Before : ℕ → ℕ → ℕ → ℕ → Type 0
Before i j k l = (i < k) ⊎ ((i ≡ k) × (j < l))

pub before_true : (i j k l : ℕ) → before i j k l ≡ true → Before i j k l
before_true i j k l h =
    ⊎_elim
    (λ a. inl (ltb-true i k a))
    (λ a. let w = and_parts (eqb i k) (ltb j l) a in inr (eqb-true i k w.0, ltb-true j l w.1))
    (or_cases (ltb i k) (eqb i k && ltb j l) h)

pub true_before : (i j k l : ℕ) → Before i j k l → before i j k l ≡ true
true_before i j k l (inl a) = or_left (ltb i k) (eqb i k && ltb j l) (lt-ltb i k a)
true_before i j k l (inr a) =
    or_right (ltb i k) (eqb i k && ltb j l) (and_from (eqb i k) (ltb j l) (eq-eqb i k a.0) (lt-ltb j l a.1))

pub before_chain : (i j k l m n : ℕ) → Before i j k l → Before k l m n → Before i j m n
before_chain i j k l m n (inl a) (inl b) = inl (omega arith)
before_chain i j k l m n (inl a) (inr b) = inl (omega (arith, b.0))
before_chain i j k l m n (inr a) (inl b) = inl (omega (arith, a.0))
before_chain i j k l m n (inr a) (inr b) = inr (omega (arith, a.0, b.0), omega (arith, a.1, b.1))

pub before_apart : (i j k l : ℕ) → Before i j k l → (k ≡ i) × (l ≡ j) → ⊥
before_apart i j k l (inl a) e = omega (arith, e.0)
before_apart i j k l (inr a) e = omega (arith, a.1, e.1)

pub inside_from : (p t i j : ℕ) → Lies p t i j → inside p t i j ≡ true
inside_from p t i j w =
    and_from (leb 1 i && leb i p && leb 1 j) (leb j t)
    (and_from (leb 1 i && leb i p) (leb 1 j)
    (and_from (leb 1 i) (leb i p) (le-leb 1 i w.row) (le-leb i p w.row_most))
    (le-leb 1 j w.column))
    (le-leb j t w.column_most)

-- of two pairs one is before the other, or they are the same
pub not_before :
    (i j k l : ℕ) → (Before i j k l → ⊥) → ((k ≡ i) × (l ≡ j)) ⊎ Before k l i j
not_before i j k l h = ⊎_elim same (λ o. ⊎_elim (λ a. absurd (h (inl a))) (λ a. inr (inl a)) o) (cases_order i k)
  where
    same : i ≡ k → ((k ≡ i) × (l ≡ j)) ⊎ Before k l i j
    same e =
        ⊎_elim
        (λ f. inl (omega arith, omega arith))
        (λ o. ⊎_elim (λ a. absurd (h (inr (e, a)))) (λ a. inr (inr (omega arith, a))) o)
        (cases_order j l)
