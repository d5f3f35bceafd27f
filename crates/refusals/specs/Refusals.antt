-- The eleven refusals and their numbers, in the order in which a call checks for them.
use Rattle.std.specs.Prelude.{ℕ}
use Rattle.refusals.specs.declared.refusal.Refusal.{Refusal}
use Rattle.refusals.specs.declared.refusal.Refusal.TheVariants as refusal

abbrev pub number_of : Refusal → ℕ
-- a book is asked for outside the limits on packages and translators
number_of refusal.Size = 1
-- the role is none of the three, or lacks the right
number_of refusal.Role = 2
-- grade, strike, load or draw comes while a slip is out
number_of refusal.SlipOut = 3
-- publish or withdraw comes while no slip is out, or with another tag
number_of refusal.WrongSlip = 4
-- a book to be passed as empty, or a sheet to be loaded, has a grade
number_of refusal.NotEmpty = 5
-- the package or the translator is outside the sizes
number_of refusal.Place = 6
-- the code is not valid in the kind; a book by itself refuses code 0 alone
number_of refusal.Grade = 7
-- there is no grade to take, or no published plan to show
number_of refusal.NothingThere = 8
-- a buffer is shorter than the call needs
number_of refusal.Space = 9
-- the bytes to load are no saved file of this kind and these sizes: the fault says why
number_of (refusal.File fault) = 10
-- a new pair meets a book at its limit, or a file has more records than the limit
number_of refusal.Full = 11
