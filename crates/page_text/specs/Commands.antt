-- What a line of text says: a word and its numbers, one space before each number.
use Rattle.std.specs.Prelude.{ℕ, if◌then◌else◌, List, [], ◌∷◌, Some, None, codes, Option, slice_index}
use Rattle.page_text.specs.declared.command.Command.{Command}
use Rattle.page_text.specs.declared.command.Command.TheVariants as command
use Rattle.plain_text.specs.Numbers.{numerals, exactly}
use Rattle.plain_text.specs.Pieces.{pieces}
use Rattle.std.specs.Str.{bytes_eq}

pub data Said : Type 0 where
  -- packages, translators
  opens : ℕ → ℕ → Said
  -- role, package, translator, code
  grades : ℕ → ℕ → ℕ → ℕ → Said
  -- role, package, translator
  strikes : ℕ → ℕ → ℕ → Said
  -- a role each
  draws : ℕ → Said
  publishes : ℕ → Said
  withdraws : ℕ → Said
  shows : ℕ → Said
  -- the first word of a line of any other form
  unknown : List ℕ → Said

abbrev pub said_of : Command → Said
said_of (command.Open p t) = Said.opens p t
said_of (command.Grade r p t c) = Said.grades r p t c
said_of (command.Strike r p t) = Said.strikes r p t
said_of (command.Draw r) = Said.draws r
said_of (command.Publish r) = Said.publishes r
said_of (command.Withdraw r) = Said.withdraws r
said_of (command.Show r) = Said.shows r
said_of (command.Unknown w) = Said.unknown w.now

-- what a word says with its numbers, or that it is not known
abbrev pub taken : List ℕ → (List ℕ → Said) → Option (List ℕ) → Said
taken w f None = Said.unknown w
taken w f (Some ns) = f ns

-- what a word says with n numbers after it; with more or fewer it is not known
abbrev pub with_numbers : ℕ → List ℕ → (List ℕ → Said) → Option (List ℕ) → Said
with_numbers n w f ns = taken w f (exactly n ns)

-- what a word says with the numbers after it
abbrev pub said_with : List ℕ → Option (List ℕ) → Said
said_with w ns =
    if bytes_eq w (codes "open") then with_numbers 2 w (λ n. Said.opens (slice_index n 0) (slice_index n 1)) ns
    else if bytes_eq w (codes "grade") then
    with_numbers 4 w (λ n. Said.grades (slice_index n 0) (slice_index n 1) (slice_index n 2) (slice_index n 3)) ns
    else if bytes_eq w (codes "strike") then with_numbers 3 w (λ n. Said.strikes (slice_index n 0) (slice_index n 1) (slice_index n 2)) ns
    else if bytes_eq w (codes "draw") then with_numbers 1 w (λ n. Said.draws (slice_index n 0)) ns
    else if bytes_eq w (codes "publish") then with_numbers 1 w (λ n. Said.publishes (slice_index n 0)) ns
    else if bytes_eq w (codes "withdraw") then with_numbers 1 w (λ n. Said.withdraws (slice_index n 0)) ns
    else if bytes_eq w (codes "show") then with_numbers 1 w (λ n. Said.shows (slice_index n 0)) ns
    else Said.unknown w

-- a command, or where there is none a word that is not known
abbrev pub said_or : List ℕ → Option Command → Said
said_or w None = Said.unknown w
said_or w (Some c) = said_of c

abbrev pub said_in : List (List ℕ) → Said
said_in [] = Said.unknown []
said_in (w ∷ ws) = said_with w (numerals ws)

-- the words of a line are cut at every space
abbrev pub said_by : List ℕ → Said
said_by line = said_in (pieces 32 line)
