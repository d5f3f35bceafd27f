-- No input has two outputs: lines and what stands above them determine what is told.
use Rattle.std.proofs.Common.{◌≡◌, ℕ, List, [], ◌∷◌, ◌++◌, is_some, sym, refl, ap, ◌∙◌, subst, arith}
use Rattle.books.specs.Limits.{within}
use Rattle.page_runs.specs.Asks.{opening_with, told_as, event}
use Rattle.page_runs.specs.Output.{lacks_slip, Tells, Closes, Follows, Starts, Begins, Output, RulesDetermineTheOutput}
use Rattle.page_text.specs.Commands.{Said, said_by}
use Rattle.page_text.specs.Replies.{Told, line_of}
use Rattle.pages.proofs.Calls.{never_some, same_some}
use Rattle.pages.proofs.Off.{same_answers}
use Rattle.pages.specs.Lines.{Opening, Line, Answer, Event}
use Rattle.pages.specs.Promises.{Alike, lines}
use Rattle.pages.specs.Standing.{Standing, out_at, standing}
use Rattle.plain_text.specs.Lines.{lines_of}
use Rattle.std.proofs.lemmas.Bool.{both_ways}

-- two histories with the same lines, in which the same stands
abbrev Same : Opening → List Event → List Event → Type 0
Same o h k = (lines h ≡ lines k) × (standing o.packages h ≡ standing o.packages k)

same_at : (o : Opening) (h k m n : List Event) → Same o h k → m ≡ h → n ≡ k → Same o m n
same_at o h k m n s x y =
    subst (λ (z : List Event). Same o z n) (sym x) (subst (λ (z : List Event). Same o h z) (sym y) s)

same_out : (o : Opening) (h k : List Event) → Same o h k → out_at o.packages h ≡ out_at o.packages k
same_out o h k s = ap (λ (z : Standing). z.out) s.1

same_told : (p : ℕ) (a b : Answer) → Alike p a b → told_as p a.outcome a.plan ≡ told_as p b.outcome b.plan
same_told p a b w = λ i. told_as p (w.outcome i) (w.plan i)

same_lack :
    (o : Opening) (h k : List Event) (l m : Line) → Same o h k → l ≡ m
    → lacks_slip l (out_at o.packages h) ≡ lacks_slip m (out_at o.packages k)
same_lack o h k l m s e = λ i. lacks_slip (e i) (same_out o h k s i)

told_once :
    (o : Opening) (h k : List Event) (c : Said) (t u : Told) (m n : List Event) → Same o h k → Tells o h c t m → Tells o k c u n
    → (t ≡ u) × Same o m n
told_once o h k c t u m n s (Tells.bad_line a b d) (Tells.bad_line e f g) = (b ∙ sym f, same_at o h k m n s d g)
told_once o h k c t u m n s (Tells.bad_line a b d) (Tells.no_slip l e f g i) = absurd (never_some l (sym a ∙ e))
told_once o h k c t u m n s (Tells.bad_line a b d) (Tells.called l x e f g i j) = absurd (never_some l (sym a ∙ e))
told_once o h k c t u m n s (Tells.no_slip l a b d e) (Tells.bad_line f g i) = absurd (never_some l (sym f ∙ a))
told_once o h k c t u m n s (Tells.no_slip l a b d e) (Tells.no_slip q f g i j) = (d ∙ sym i, same_at o h k m n s e j)
told_once o h k c t u m n s (Tells.no_slip l a b d e) (Tells.called q x f g i j r) =
    absurd (both_ways (lacks_slip l (out_at o.packages h)) (same_lack o h k l q s (same_some l q (sym a ∙ f)) ∙ g) b)
told_once o h k c t u m n s (Tells.called l x a b d e f) (Tells.bad_line g i j) = absurd (never_some l (sym g ∙ a))
told_once o h k c t u m n s (Tells.called l x a b d e f) (Tells.no_slip q g i j r) =
    absurd (both_ways (lacks_slip l (out_at o.packages h)) b (same_lack o h k l q s (same_some l q (sym a ∙ g)) ∙ i))
told_once o h k c t u m n s (Tells.called l x a b d e f) (Tells.called q y g i j r v) =
    let z : l ≡ q = same_some l q (sym a ∙ g) in
    let ls : lines (event l x ∷ h) ≡ lines (event q y ∷ k) = λ i. z i ∷ s.0 i in
    let w = same_answers o (event l x ∷ h) (event q y ∷ k) d j ls in
    (e ∙ same_told o.packages x y w.0.0 ∙ sym r, same_at o (event l x ∷ h) (event q y ∷ k) m n (ls, w.1) f v)

closes_once :
    (o : Opening) (h k : List Event) (out other : List ℕ) → Same o h k → Closes o h out → Closes o k other → out ≡ other
closes_once o h k out other s (Closes.idle a b) (Closes.idle d e) = b ∙ sym e
closes_once o h k out other s (Closes.idle a b) (Closes.withdrawn d x e f g) =
    absurd (both_ways (is_some (out_at o.packages h)) a (ap is_some (same_out o h k s) ∙ d))
closes_once o h k out other s (Closes.withdrawn a x b d e) (Closes.idle f g) =
    absurd (both_ways (is_some (out_at o.packages h)) (ap is_some (same_out o h k s) ∙ f) a)
closes_once o h k out other s (Closes.withdrawn a x b d e) (Closes.withdrawn f y g i j) = e ∙ sym j

follows_once :
    (ls : List (List ℕ)) (o : Opening) (h k : List Event) (out other : List ℕ) → Same o h k → Follows o h ls out → Follows o k ls other
    → out ≡ other
follows_once [] o h k out other s a b = closes_once o h k out other s a b
follows_once (l ∷ ls) o h k out other s a b =
    let w = told_once o h k (said_by l) a.0 b.0 a.1 b.1 s a.3 b.3 in
    let r = follows_once ls o a.1 b.1 a.2 b.2 w.1 a.5 b.5 in
    a.4 ∙ (λ i. line_of (w.0 i) ++ r i) ∙ sym b.4

starts_once : (c : Said) (ls : List (List ℕ)) (out other : List ℕ) → Starts c ls out → Starts c ls other → out ≡ other
starts_once c ls out other (Starts.bad_line a b) (Starts.bad_line d e) = b ∙ sym e
starts_once c ls out other (Starts.bad_line a b) (Starts.refused p t d e f) = absurd (never_some (p, t) (sym a ∙ d))
starts_once c ls out other (Starts.bad_line a b) (Starts.opened p t d e m f g) = absurd (never_some (p, t) (sym a ∙ d))
starts_once c ls out other (Starts.refused p t a b d) (Starts.bad_line e f) = absurd (never_some (p, t) (sym e ∙ a))
starts_once c ls out other (Starts.refused p t a b d) (Starts.refused q u e f g) = d ∙ sym g
starts_once c ls out other (Starts.refused p t a b d) (Starts.opened q u e f m g i) =
    absurd (both_ways (within p t) b (ap (λ (z : ℕ × ℕ). within z.0 z.1) (same_some (p, t) (q, u) (sym a ∙ e)) ∙ f))
starts_once c ls out other (Starts.opened p t a b m d e) (Starts.bad_line f g) = absurd (never_some (p, t) (sym f ∙ a))
starts_once c ls out other (Starts.opened p t a b m d e) (Starts.refused q u f g i) =
    absurd (both_ways (within p t) (ap (λ (z : ℕ × ℕ). within z.0 z.1) (same_some (p, t) (q, u) (sym a ∙ f)) ∙ g) b)
starts_once c ls out other (Starts.opened p t a b m d e) (Starts.opened q u f g n i j) =
    let z : (p, t) ≡ (q, u) = same_some (p, t) (q, u) (sym a ∙ f) in
    let k : Follows (opening_with p t) [] ls n =
    subst (λ (x : ℕ × ℕ). Follows (opening_with x.0 x.1) [] ls n) (sym z) j in
    d ∙ ap (λ (x : List ℕ). line_of Told.ok ++ x) (follows_once ls (opening_with p t) [] [] m n (refl, refl) e k) ∙ sym i

begins_once : (ls : List (List ℕ)) (out other : List ℕ) → Begins ls out → Begins ls other → out ≡ other
begins_once [] out other a b = a ∙ sym b
begins_once (l ∷ ls) out other a b = starts_once (said_by l) ls out other a b

pub rules_determine_the_output : RulesDetermineTheOutput
rules_determine_the_output input out other (Output.too_long a b) (Output.too_long d e) = b ∙ sym e
rules_determine_the_output input out other (Output.too_long a b) (Output.read d e) = absurd (omega arith)
rules_determine_the_output input out other (Output.read a b) (Output.too_long d e) = absurd (omega arith)
rules_determine_the_output input out other (Output.read a b) (Output.read d e) = begins_once (lines_of input) out other b e
