-- The worked sheets: kind, sizes and grades of each, and what it gives.
use Rattle.std.specs.Prelude.{ℕ, List, [], ◌∷◌}

pub data Kind : Type 0 where
  points : Kind
  ratings : Kind

-- A plan is the list of its translators in the order of the packages; a set is the list of its
-- packages. Planned: the plan, its lowest grade, and every tight set. Short: every short set.
pub data Answer : Type 0 where
  planned : (plan : List ℕ) (lowest : ℕ) (tight : List (List ℕ)) → Answer
  short : (sets : List (List ℕ)) → Answer

pub record Sheet : Type 0 where
  pub kind : Kind
  pub packages : ℕ
  pub translators : ℕ
  -- package, translator, code
  pub grades : List (ℕ × ℕ × ℕ)
  pub gives : Answer

abbrev pub sheets : List Sheet
sheets =
    -- the plan 1, 2 comes first by numbers, but its lowest grade is 1
    record {
      kind = points;
      packages = 2;
      translators = 2;
      grades = (1, 1, 1) ∷ (1, 2, 3) ∷ (2, 1, 2) ∷ (2, 2, 4) ∷ [];
      gives = planned (2 ∷ 1 ∷ []) 2 ((1 ∷ 2 ∷ []) ∷ []);
    }
    -- the grade 8 is of no help: with it the lowest grade is 3
    ∷ record {
      kind = points;
      packages = 2;
      translators = 2;
      grades = (1, 1, 4) ∷ (1, 2, 3) ∷ (2, 1, 8) ∷ (2, 2, 4) ∷ [];
      gives = planned (1 ∷ 2 ∷ []) 4 ((1 ∷ []) ∷ (1 ∷ 2 ∷ []) ∷ []);
    }
    -- one pair, with the smallest points
    ∷ record {
      kind = points;
      packages = 1;
      translators = 1;
      grades = (1, 1, 1) ∷ [];
      gives = planned (1 ∷ []) 1 ((1 ∷ []) ∷ []);
    }
    -- no grade
    ∷ record {
      kind = points;
      packages = 1;
      translators = 1;
      grades = [];
      gives = short ((1 ∷ []) ∷ []);
    }
    -- more packages than translators
    ∷ record {
      kind = points;
      packages = 3;
      translators = 2;
      grades = (1, 1, 1000) ∷ (1, 2, 1000) ∷ (2, 1, 1000) ∷ (2, 2, 1000) ∷ (3, 1, 1000) ∷ (3, 2, 1000) ∷ [];
      gives = short ((1 ∷ 2 ∷ 3 ∷ []) ∷ []);
    }
    -- all grades alike: the first plan by translator numbers
    ∷ record {
      kind = points;
      packages = 2;
      translators = 2;
      grades = (1, 1, 500) ∷ (1, 2, 500) ∷ (2, 1, 500) ∷ (2, 2, 500) ∷ [];
      gives = planned (1 ∷ 2 ∷ []) 500 ((1 ∷ []) ∷ (2 ∷ []) ∷ []);
    }
    -- the plans 1, 2, 3 and 2, 1, 3 have the same lowest grade
    ∷ record {
      kind = points;
      packages = 3;
      translators = 3;
      grades = (1, 1, 1) ∷ (1, 2, 1000) ∷ (2, 1, 1000) ∷ (2, 2, 1) ∷ (3, 1, 1000) ∷ (3, 3, 1) ∷ [];
      gives = planned (1 ∷ 2 ∷ 3 ∷ []) 1 ((2 ∷ 3 ∷ []) ∷ (1 ∷ 2 ∷ 3 ∷ []) ∷ []);
    }
    -- the largest code is of class 2 and so below code 1, of class 1; the others have fewer days
    ∷ record {
      kind = ratings;
      packages = 2;
      translators = 2;
      grades = (1, 1, 1) ∷ (1, 2, 2562) ∷ (2, 1, 2306) ∷ (2, 2, 5120002) ∷ [];
      gives = planned (1 ∷ 2 ∷ []) 5120002 ((2 ∷ []) ∷ (1 ∷ 2 ∷ []) ∷ []);
    }
    ∷ []
