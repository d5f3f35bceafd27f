-- What a call with a page of text says, and what it leaves in the buffer and the length lent to it.
use Rattle.std.specs.Prelude.{◌≡◌, ℕ, ◌<◌, ◌≤◌, List, ◌++◌, drop, Ok, Err, Result}
use Rattle.exports.specs.declared.reply.Failure.{Failure}
use Rattle.exports.specs.declared.reply.Failure.TheVariants.{NoMemory, Refused}
use Rattle.exports.specs.declared.reply.Reply.{Reply}
use Rattle.exports.specs.declared.reply.Reply.TheVariants.{Done, Short}
use Rattle.page_runs.specs.Output.{Output}
use Rattle.refusals.specs.declared.refusal.Refusal.TheVariants.{Space}
use Rattle.std.proofs.Math.ListN as list

pub record Room : Type 0 where
  pub bytes : List ℕ
  pub length : ℕ

-- The output at the start of the buffer, and its length; or, in a buffer too short, the length
-- alone; or nothing for want of memory.
abbrev pub PagedAs : List ℕ → Room → Room → Result Reply Failure → Type 0
PagedAs input lent left (Ok Done) =
    (text : List ℕ) × Output input text × (list.length text ≤ list.length lent.bytes)
    × (left ≡ record { bytes = text ++ drop (list.length text) lent.bytes; length = list.length text })
PagedAs input lent left (Ok Short) = ⊥
PagedAs input lent left (Err NoMemory) = left ≡ lent
PagedAs input lent left (Err (Refused why)) =
    (text : List ℕ) × Output input text × (list.length lent.bytes < list.length text) × (why ≡ Space)
    × (left ≡ record { bytes = lent.bytes; length = list.length text })
