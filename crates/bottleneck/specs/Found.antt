-- What is found: the first whole matching at the highest lowest grade with a set that is tight
-- there, or a set that is short.
use Rattle.std.specs.Prelude.{◌≡◌, ℕ, ◌<◌, Bool, true, List, Ok, Err, Option, Result}
use Rattle.augmenting.specs.Assigned.{Complete, Least}
use Rattle.augmenting.specs.Owners.{seen}
use Rattle.augmenting.specs.Sets.{OneFewer}
use Rattle.bottleneck.specs.Grades.{graded, graded_above, graded_from}
use Rattle.augmenting.specs.declared.members.Members.{Members}
use Rattle.bottleneck.specs.declared.best.BestMatching.{BestMatching}

pub record MatchedFirst (valid : ℕ → Bool) (above : ℕ → ℕ → Bool) (G : ℕ → ℕ → Option ℕ) (p t : ℕ) (o : List ℕ) (lowest : ℕ) (s : List Bool) : Type 0 where
  pub right : valid lowest ≡ true
  -- every package has a translator at that grade or above
  pub complete : Complete (graded_from above G lowest) p t o
  pub least : (k : ℕ) → k < p → Least (graded_from above G lowest) p t o k
  pub tight : OneFewer (graded_above above G lowest) p t (seen s)

abbrev pub Found : (ℕ → Bool) → (ℕ → ℕ → Bool) → (ℕ → ℕ → Option ℕ) → ℕ → ℕ → Result BestMatching Members → Type 0
Found valid above G p t (Ok best) = MatchedFirst valid above G p t best.owners.places best.lowest best.tight.places
Found valid above G p t (Err short) = OneFewer (graded G) p t (seen short.places)
