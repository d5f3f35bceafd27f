use Rattle.std.proofs.Common.{◌≡◌, ℕ, List, [], ◌++◌, string_bytes}
use Rattle.page_runs.proofs.run.run_lines.Given as goal
use Rattle.page_runs.specs.Asks.{opening_with}
use Rattle.page_runs.specs.Live.{Live}
use Rattle.page_runs.specs.Output.{Follows}
use Rattle.pages.specs.Lines.{Event}
use Rattle.plain_text.specs.Lines.{left_of}

-- whatever the lines to come will add makes a whole run
abbrev pub invariant-loop-line : goal.invariant-loop-line
invariant-loop-line l =
    (h : List Event) × Live l.sizes.packages l.sizes.translators h l.sheet l.held
    × ((rest : List ℕ) → Follows (opening_with l.sizes.packages l.sizes.translators) h (left_of l.line-iterator) rest
    → (more : List ℕ) × (string_bytes l.out ++ rest ≡ string_bytes l.initial.out ++ more)
    × Follows (opening_with l.sizes.packages l.sizes.translators) [] (left_of l.fn.lines) more)
