-- A refusal is known by its number, but for the fault of a file.
use Rattle.std.proofs.Common.{◌≡◌, ℕ, cond, eqb, ◌⊎◌, sym, refl, ap, ◌∙◌, inl, inr, arith}
use Rattle.refusals.specs.Refusals.{number_of}
use Rattle.refusals.specs.declared.fault.Fault.{Fault}
use Rattle.refusals.specs.declared.refusal.Refusal.{Refusal}
use Rattle.refusals.specs.declared.refusal.Refusal.TheVariants as refusal

-- Size stands for the number of a file too
abbrev of_number : ℕ → Refusal
of_number n =
    cond (eqb n 2) refusal.Role (cond (eqb n 3) refusal.SlipOut (cond (eqb n 4) refusal.WrongSlip
    (cond (eqb n 5) refusal.NotEmpty (cond (eqb n 6) refusal.Place (cond (eqb n 7) refusal.Grade
    (cond (eqb n 8) refusal.NothingThere (cond (eqb n 9) refusal.Space (cond (eqb n 11) refusal.Full refusal.Size))))))))

known : (r : Refusal) → (of_number (number_of r) ≡ r) ⊎ ((f : Fault) × (r ≡ refusal.File f))
known refusal.Size = inl refl
known refusal.Role = inl refl
known refusal.SlipOut = inl refl
known refusal.WrongSlip = inl refl
known refusal.NotEmpty = inl refl
known refusal.Place = inl refl
known refusal.Grade = inl refl
known refusal.NothingThere = inl refl
known refusal.Space = inl refl
known (refusal.File f) = inr (f, refl)
known refusal.Full = inl refl

-- a refusal that its number makes known is not a file's
not_ten : (q : Refusal) → of_number (number_of q) ≡ q → number_of q ≡ 10 → ⊥
not_ten q e n =
    let s : refusal.Size ≡ q = sym (ap of_number n) ∙ e in
    let z : 1 ≡ number_of q = ap number_of s in
    omega (arith, z, n)

pub same_number :
    (r q : Refusal) → number_of r ≡ number_of q
    → (r ≡ q) ⊎ ((f : Fault) × (g : Fault) × (r ≡ refusal.File f) × (q ≡ refusal.File g))
same_number r q e = both (known r) (known q)
  where
    both :
        (of_number (number_of r) ≡ r) ⊎ ((f : Fault) × (r ≡ refusal.File f))
        → (of_number (number_of q) ≡ q) ⊎ ((f : Fault) × (q ≡ refusal.File f))
        → (r ≡ q) ⊎ ((f : Fault) × (g : Fault) × (r ≡ refusal.File f) × (q ≡ refusal.File g))
    both (inl a) (inl b) = inl (sym a ∙ ap of_number e ∙ b)
    both (inl a) (inr (g, b)) = absurd (not_ten r a (e ∙ ap number_of b))
    both (inr (f, a)) (inl b) = absurd (not_ten q b (sym e ∙ ap number_of a))
    both (inr (f, a)) (inr (g, b)) = inr (f, g, a, b)
