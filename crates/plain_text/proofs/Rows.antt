-- Numbers read one after the other.
use Rattle.std.proofs.Common.{◌≡◌, ℕ, ◌<◌, List, [], ◌∷◌, ◌++◌, length, Some, None, Option, ◌==◌, sym, refl, arith, length-append}
use Rattle.plain_text.specs.Numbers.{exactly, numerals, first_of, numeral_of}
use Rattle.plain_text.specs.Pieces.{pieces}
use Rattle.std.proofs.lemmas.Bool.{ne_eqb, cond-false}
use Rattle.std.proofs.lemmas.List.Splits.{length-slice_split}
use Rattle.std.specs.Option.{option_map}

-- the numbers that were read, before those to come
abbrev pub before : List ℕ → Option (List ℕ) → Option (List ℕ)
before read ns = option_map (λ ms. read ++ ms) ns

pub some_piece : (cut : ℕ) (bs : List ℕ) → (p : List ℕ) × (more : List (List ℕ)) × (pieces cut bs ≡ p ∷ more)
some_piece cut bs = go (pieces cut bs) (omega (arith, length-slice_split (λ b. b == cut) bs))
  where
    go : (ps : List (List ℕ)) → 0 < length ps → (p : List ℕ) × (more : List (List ℕ)) × (ps ≡ p ∷ more)
    go [] l = absurd (omega arith)
    go (p ∷ more) l = (p, more, refl)

-- a further word means that there are more numbers than were read, or none
pub one_more : (read : List ℕ) (w : List ℕ) (ws : List (List ℕ)) → None ≡ exactly (length read) (before read (numerals (w ∷ ws)))
one_more read w ws = go (numeral_of w) (numerals ws)
  where
    go : (a : Option ℕ) (ns : Option (List ℕ)) → None ≡ exactly (length read) (before read (first_of a ns))
    go None ns = refl
    go (Some n) None = refl
    go (Some n) (Some ns) =
        sym (cond-false _ _ _ (ne_eqb (length (read ++ n ∷ ns)) (length read) (λ e. omega (arith, e, length-append read (n ∷ ns)))))
