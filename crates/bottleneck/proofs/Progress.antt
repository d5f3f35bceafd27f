-- One package more has a translator, and a lower floor takes none away.
use Rattle.std.proofs.Common.{◌≡◌, ℕ, ◌+◌, Bool, true, false, List, get_or, None, Option, sym, refl, ◌∙◌, subst, ⊎_elim, arith}
use Rattle.augmenting.specs.Owners.{Augmented, Closed, Free, Tried, seen}
use Rattle.bottleneck.specs.Codes.{table_grades}
use Rattle.bottleneck.specs.Lowered.{IsLeftOver, Lowered, PlacedBefore, TightAt, at_floor}
use Rattle.std.proofs.lemmas.Bool.{both_ways, cases_eq, cases_lt, false≢true}

pub left_free : (C : ℕ → ℕ → Bool) (t i : ℕ) (o : List ℕ) → PlacedBefore C t i o → Free o i
left_free C t i o b j e = let x = b.below j in omega (arith, x, e)

pub placed_more :
    (C : ℕ → ℕ → Bool) (t i : ℕ) (v : List Bool) (o n : List ℕ) → PlacedBefore C t i o → Augmented C t v i o n
    → PlacedBefore C t (i + 1) n
placed_more C t i v o n b a =
    record {
      matching = a.matching;
      all = λ k z l. ⊎_elim (λ q. (a.place, a.placed ∙ sym q)) (λ d. a.keeps k z (b.all k z (omega arith))) (cases_eq k i);
      below = λ j.
          ⊎_elim
          (λ z.
          ⊎_elim
          (λ q. omega arith)
          (λ y. let x = b.below y.0 in let e = y.1 in omega (arith, x, e))
          (a.only (get_or n j 0) z (j, refl)))
          (λ z. omega arith)
          (cases_lt 0 (get_or n j 0));
    }

pub placed_wider :
    (C D : ℕ → ℕ → Bool) (t i : ℕ) (o : List ℕ) → ((k j : ℕ) → C k j ≡ true → D k j ≡ true)
    → PlacedBefore C t i o → PlacedBefore D t i o
placed_wider C D t i o g b =
    record {
      matching = record {
        within = b.matching.within;
        joined = λ j z. g (get_or o j 0) (j + 1) (b.matching.joined j z);
        apart = b.matching.apart;
      };
      all = b.all;
      below = b.below;
    }

-- after the floor is lowered
pub still_placed :
    (valid : ℕ → Bool) (above : ℕ → ℕ → Bool) (codes : List ℕ) (p t i : ℕ) (old new : Option ℕ) (s : List Bool) (o n : List ℕ)
    → n ≡ o → Lowered valid above codes p t old new s → PlacedBefore (at_floor above codes old) t i o
    → PlacedBefore (at_floor above codes new) t i n
still_placed valid above codes p t i old new s o n q l b =
    subst (λ (x : List ℕ). PlacedBefore (at_floor above codes new) t i x) (sym q)
    (placed_wider (at_floor above codes old) (at_floor above codes new) t i o l.grows b)

-- a try in vain that began with no marks
pub left_over :
    (C : ℕ → ℕ → Bool) (t i : ℕ) (o n : List ℕ) (v w : List Bool) → ((j : ℕ) → seen v j ≡ false) → n ≡ o
    → Closed C t o v w → Tried C i w t → IsLeftOver C t i n w
left_over C t i o n v w fresh q c tried =
    subst (λ (x : List ℕ). IsLeftOver C t i x w) (sym q)
    (record {
      closed = record {
        grows = λ j e. absurd (false≢true e);
        owned = λ j e f. c.owned j e (fresh j);
        reach = λ j k e f l d. c.reach j k e (fresh j) l d;
      };
      tried = tried;
    })

-- without a floor there is nothing to try
pub nothing_to_try :
    (above : ℕ → ℕ → Bool) (codes : List ℕ) (t i : ℕ) (floor : Option ℕ) (o : List ℕ) (w : List Bool) → floor ≡ None
    → ((j : ℕ) → seen w j ≡ false) → IsLeftOver (at_floor above codes floor) t i o w
nothing_to_try above codes t i floor o w q fresh =
    subst (λ (x : Option ℕ). IsLeftOver (at_floor above codes x) t i o w) (sym q)
    (record {
      closed = record {
        grows = λ j e. absurd (false≢true e);
        owned = λ j e f. absurd (both_ways (seen w j) (fresh j) e);
        reach = λ j k e f l d. absurd (false≢true d);
      };
      tried = λ j l e. absurd (false≢true e);
    })

-- the same of a table and a floor that are known to be alike
pub placed_alike :
    (above : ℕ → ℕ → Bool) (codes codes' : List ℕ) (t t' i : ℕ) (floor floor' : Option ℕ) (o : List ℕ)
    → codes ≡ codes' → t ≡ t' → floor ≡ floor' → PlacedBefore (at_floor above codes floor) t i o → PlacedBefore (at_floor above codes' floor') t' i o
placed_alike above codes codes' t t' i floor floor' o e h q b =
    subst (λ (x : List ℕ). PlacedBefore (at_floor above x floor') t' i o) e
    (subst (λ (x : ℕ). PlacedBefore (at_floor above codes floor') x i o) h
    (subst (λ (x : Option ℕ). PlacedBefore (at_floor above codes x) t i o) q b))

pub tight_alike :
    (valid : ℕ → Bool) (above : ℕ → ℕ → Bool) (codes codes' : List ℕ) (p p' t t' : ℕ) (floor : Option ℕ) (s : List Bool)
    → codes ≡ codes' → p ≡ p' → t ≡ t' → TightAt valid above (table_grades codes) p t floor s
    → TightAt valid above (table_grades codes') p' t' floor s
tight_alike valid above codes codes' p p' t t' floor s e f h c =
    subst (λ (x : List ℕ). TightAt valid above (table_grades x) p' t' floor s) e
    (subst (λ (x : ℕ). TightAt valid above (table_grades codes) x t' floor s) f
    (subst (λ (x : ℕ). TightAt valid above (table_grades codes) p x floor s) h c))
