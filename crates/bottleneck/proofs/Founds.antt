-- From the table that was read to the grades of the book.
use Rattle.std.proofs.Common.{◌≡◌, ℕ, ◌<◌, Bool, List, Some, Option, subst}
use Rattle.augmenting.specs.Assigned.{Complete, Least}
use Rattle.augmenting.specs.Owners.{seen}
use Rattle.augmenting.specs.Sets.{OneFewer}
use Rattle.bottleneck.specs.Codes.{table_grades}
use Rattle.bottleneck.specs.Found.{MatchedFirst}
use Rattle.bottleneck.specs.Grades.{graded}
use Rattle.bottleneck.specs.Lowered.{TightAt, at_floor}

pub found_first :
    (valid : ℕ → Bool) (above : ℕ → ℕ → Bool) (codes : List ℕ) (G : ℕ → ℕ → Option ℕ) (p p' t t' : ℕ) (floor : Option ℕ) (lowest : ℕ) (o : List ℕ) (s : List Bool)
    → ((k j : ℕ) → table_grades codes k j ≡ G k j) → p ≡ p' → t ≡ t' → floor ≡ Some lowest
    → TightAt valid above (table_grades codes) p t (Some lowest) s → Complete (at_floor above codes floor) p t o
    → ((k : ℕ) → k < p → Least (at_floor above codes floor) p t o k)
    → MatchedFirst valid above G p' t' o lowest s
found_first valid above codes G p p' t t' floor lowest o s e f h q tight complete least =
    let z = subst (λ (x : Option ℕ). Complete (at_floor above codes x) p t o) q complete in
    let w = subst (λ (x : Option ℕ). (k : ℕ) → k < p → Least (at_floor above codes x) p t o k) q least in
    let here : MatchedFirst valid above (table_grades codes) p t o lowest s = record { right = tight.0; complete = z; least = w; tight = tight.1 } in
    let same : table_grades codes ≡ G = λ i k j. e k j i in
    subst (λ (x : ℕ). MatchedFirst valid above G p' x o lowest s) h
    (subst (λ (x : ℕ). MatchedFirst valid above G x t o lowest s) f
    (subst (λ (x : ℕ → ℕ → Option ℕ). MatchedFirst valid above x p t o lowest s) same here))

pub found_short :
    (codes : List ℕ) (G : ℕ → ℕ → Option ℕ) (p p' t t' : ℕ) (s : List Bool)
    → ((k j : ℕ) → table_grades codes k j ≡ G k j) → p ≡ p' → t ≡ t'
    → OneFewer (graded (table_grades codes)) p t (seen s) → OneFewer (graded G) p' t' (seen s)
found_short codes G p p' t t' s e f h here =
    let same : table_grades codes ≡ G = λ i k j. e k j i in
    subst (λ (x : ℕ). OneFewer (graded G) p' x (seen s)) h
    (subst (λ (x : ℕ). OneFewer (graded G) x t (seen s)) f
    (subst (λ (x : ℕ → ℕ → Option ℕ). OneFewer (graded x) p t (seen s)) same here))

-- a whole matching by a table and a floor that are known to be alike
pub whole_alike :
    (above : ℕ → ℕ → Bool) (codes codes' : List ℕ) (p p' t t' : ℕ) (floor floor' : Option ℕ) (o : List ℕ)
    → codes ≡ codes' → p ≡ p' → t ≡ t' → floor ≡ floor' → Complete (at_floor above codes floor) p t o → Complete (at_floor above codes' floor') p' t' o
whole_alike above codes codes' p p' t t' floor floor' o e f h q c =
    subst (λ (x : List ℕ). Complete (at_floor above x floor') p' t' o) e
    (subst (λ (x : ℕ). Complete (at_floor above codes floor') x t' o) f
    (subst (λ (x : ℕ). Complete (at_floor above codes floor') p x o) h
    (subst (λ (x : Option ℕ). Complete (at_floor above codes x) p t o) q c)))
