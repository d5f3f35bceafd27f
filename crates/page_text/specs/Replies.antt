-- The text of an answer: its word, and its numbers in decimal with one space before each.
use Rattle.std.specs.Prelude.{ℕ, List, [], ◌∷◌, ◌++◌, codes, decimal}
use Rattle.page_text.specs.declared.reply.Reply.{Reply}
use Rattle.page_text.specs.declared.reply.Reply.TheVariants as reply
use Rattle.refusals.specs.Refusals.{number_of}
use Rattle.std.specs.List.{flat_map}

pub data Told : Type 0 where
  ok : Told
  short : Told
  -- the lowest code and the translators of packages 1, 2, ..
  drawn : ℕ → List ℕ → Told
  shown : ℕ → List ℕ → Told
  -- the number of the refusal
  refused : ℕ → Told
  bad_line : Told
  no_slip : Told
  withdrawn : Told
  too_long : Told

abbrev pub told_of : Reply → Told
told_of reply.Ok = Told.ok
told_of reply.Short = Told.short
told_of (reply.Drawn code plan) = Told.drawn code plan.now
told_of (reply.Shown code plan) = Told.shown code plan.now
told_of (reply.Refused r) = Told.refused (number_of r)
told_of reply.BadLine = Told.bad_line
told_of reply.NoSlip = Told.no_slip
told_of reply.Withdrawn = Told.withdrawn
told_of reply.TooLong = Told.too_long

abbrev pub spaced : ℕ → List ℕ
spaced n = 32 ∷ decimal n

abbrev pub text_of : Told → List ℕ
text_of Told.ok = codes "ok"
text_of Told.short = codes "short"
text_of (Told.drawn code plan) = (codes "drawn" ++ spaced code) ++ flat_map spaced plan
text_of (Told.shown code plan) = (codes "shown" ++ spaced code) ++ flat_map spaced plan
text_of (Told.refused n) = codes "refused" ++ spaced n
text_of Told.bad_line = codes "bad line"
text_of Told.no_slip = codes "no slip"
text_of Told.withdrawn = codes "withdrawn"
text_of Told.too_long = codes "too long"

-- one line of the output
abbrev pub line_of : Told → List ℕ
line_of t = text_of t ++ (10 ∷ [])
