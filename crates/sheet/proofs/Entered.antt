-- A page grows entry by entry.
use Rattle.std.proofs.Common.{◌≡◌, ℕ, zero, suc, ◌+◌, ◌<◌, List, [], ◌∷◌, ◌++◌, length, get_or, take, drop, set, Option, sym, refl, ap, ◌∙◌, add-zero, add-one, arith}
use Rattle.pages.specs.Lines as page
use Rattle.pages.specs.Lines.{run_on}
use Rattle.sheet.specs.Entries.{asked_in, event_in, events_in}
use Rattle.sheet.specs.Lines.{asked_of, outcome_of, event_of}
use Rattle.sheet.specs.Told.{told}
use Rattle.sheet.specs.declared.entries.Entry.{Entry}
use Rattle.sheet.specs.declared.page.Answer.{Answer}
use Rattle.sheet.specs.declared.page.Call.{Call}
use Rattle.sheet.specs.declared.slip.Slip.{Slip}
use Rattle.std.proofs.lemmas.List.{drop-drop, drop-set-lt, get_or-drop}
use Rattle.std.specs.Borrow.{Bor}
use Rattle.std.specs.Option.{option_map}

events_next :
    (xs ys : List Entry) (i : ℕ) (d y : Entry) → length ys ≡ length xs → i < length xs
    → events_in (take (suc i) xs) (take (suc i) (set ys i y)) ≡ events_in (take i xs) (take i ys) ++ event_in (get_or xs i d) y ∷ []
events_next [] ys i d y e l = absurd (omega arith)
events_next (x ∷ xs) [] i d y e l = absurd (omega (arith, e))
events_next (x ∷ xs) (z ∷ ys) zero d y e l = refl
events_next (x ∷ xs) (z ∷ ys) (suc i) d y e l =
    ap (λ (es : List page.Event). event_in x z ∷ es) (events_next xs ys i d y (omega (arith, e)) (omega arith))

pub events_more :
    (xs ys : List Entry) (i : ℕ) (d y : Entry) → length ys ≡ length xs → i < length xs
    → events_in (take (i + 1) xs) (take (i + 1) (set ys i y)) ≡ events_in (take i xs) (take i ys) ++ event_in (get_or xs i d) y ∷ []
events_more xs ys i d y e l = rw add-one (events_next xs ys i d y e l)

pub run_push : (h es : List page.Event) (e : page.Event) → run_on h (es ++ e ∷ []) ≡ e ∷ run_on h es
run_push h [] e = refl
run_push h (x ∷ es) e = run_push (x ∷ h) es e

pub same_item :
    (xs ys : List Entry) (i : ℕ) (d : Entry) → drop i ys ≡ drop i xs → get_or ys i d ≡ get_or xs i d
same_item xs ys i d e =
    sym (get_or-drop i ys 0 d ∙ ap (λ (n : ℕ). get_or ys n d) (add-zero i)) ∙ ap (λ (zs : List Entry). get_or zs 0 d) e
    ∙ (get_or-drop i xs 0 d ∙ ap (λ (n : ℕ). get_or xs n d) (add-zero i))

pub same_rest :
    (xs ys : List Entry) (i : ℕ) (y : Entry) → drop i ys ≡ drop i xs → drop (i + 1) (set ys i y) ≡ drop (i + 1) xs
same_rest xs ys i y e =
    drop-set-lt (i + 1) ys i y (omega arith) ∙ sym (drop-drop 1 i ys) ∙ ap (drop 1) e ∙ drop-drop 1 i xs

-- the event of a line that was made of an entry
pub same_event :
    (line : Call Slip (Bor (List ℕ))) (ask : Call ℕ (Unit {0})) (file plan set plan' set' given lent : List ℕ) (a : Answer Slip) (slip : Option ℕ) (wrote marked : List ℕ)
    → ((p s : List ℕ) → asked_of line p s ≡ asked_in ask file p s) → given ≡ plan → lent ≡ set
    → slip ≡ option_map (λ s. s.tag) a.slip → wrote ≡ plan' → marked ≡ set'
    → ◌≡◌ {A = page.Event} (event_of line given lent a plan' set')
    (record { line = asked_in ask file plan set; answer = told (outcome_of a.outcome) slip wrote marked })
same_event line ask file plan set plan' set' given lent a slip wrote marked is x y t w m =
    λ k. record {
      line = (is given lent ∙ ap (λ (p : List ℕ). asked_in ask file p lent) x ∙ ap (asked_in ask file plan) y) k;
      answer = told (outcome_of a.outcome) (sym t k) (sym w k) (sym m k);
    }
