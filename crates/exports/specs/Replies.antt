-- The numbers that stand for what a call says. A refusal has its number of the rules, 1 to 11.
use Rattle.std.specs.Prelude.{◌≡◌, ℕ, Ok, Err, Result}
use Rattle.exports.specs.declared.reply.Failure.{Failure}
use Rattle.exports.specs.declared.reply.Failure.TheVariants.{NoMemory, Refused}
use Rattle.exports.specs.declared.reply.Reply.{Reply}
use Rattle.exports.specs.declared.reply.Reply.TheVariants.{Done, Short}
use Rattle.refusals.specs.Refusals.{number_of}

abbrev pub number : Result Reply Failure → ℕ
number (Ok Done) = 0
number (Ok Short) = 100
number (Err NoMemory) = 200
number (Err (Refused why)) = number_of why

-- the number answered stands for something that is right to say
abbrev pub Told : ℕ → (Result Reply Failure → Type 0) → Type 0
Told n Right = (said : Result Reply Failure) × (n ≡ number said) × Right said
