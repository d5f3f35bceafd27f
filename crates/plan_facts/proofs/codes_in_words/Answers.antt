use Rattle.plan_facts.proofs.Codes.{points_in_words, ratings_in_words}
use Rattle.plan_facts.proofs.codes_in_words.Goals as goal

pub returns : goal.returns
returns c = record { points = points_in_words; ratings = ratings_in_words }
