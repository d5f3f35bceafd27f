-- A word that is none of the seven.
use Rattle.std.proofs.Common.{◌≡◌, ◌≢◌, ℕ, false, List, Option, codes}
use Rattle.page_text.specs.Commands.{Said, said_with}
use Rattle.std.proofs.lemmas.Bool.{false_from_ne_true}
use Rattle.std.proofs.lemmas.Slice.Eq.{bytes_eq-Decides}
use Rattle.std.specs.Str.{bytes_eq}

differs : (w p : List ℕ) → w ≢ p → bytes_eq w p ≡ false
differs w p n = false_from_ne_true (bytes_eq w p) (λ e. n ((bytes_eq-Decides w p).0 e))

pub unknown_word :
    (w : List ℕ) (ns : Option (List ℕ)) → w ≢ codes "open" → w ≢ codes "grade" → w ≢ codes "strike" → w ≢ codes "draw"
    → w ≢ codes "publish" → w ≢ codes "withdraw" → w ≢ codes "show" → Said.unknown w ≡ said_with w ns
unknown_word w ns o g s d p x h =
    rw (
      differs w (codes "open") o,
      differs w (codes "grade") g,
      differs w (codes "strike") s,
      differs w (codes "draw") d,
      differs w (codes "publish") p,
      differs w (codes "withdraw") x,
      differs w (codes "show") h,
    )
