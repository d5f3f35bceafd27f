-- Lines one after the other make up the output.
use Rattle.std.proofs.Common.{◌≡◌, ℕ, ◌≤◌, Bool, true, false, cond, List, [], ◌∷◌, ◌++◌, length, IfOk, Ok, Err, Result, sym, refl, ap, ◌∙◌, subst, append_assoc, append-nil, arith}
use Rattle.books.specs.Checked.{sizes_of}
use Rattle.books.specs.Limits.{within}
use Rattle.page_runs.specs.Asks.{opening_with, sizes_for}
use Rattle.page_runs.specs.Live.{Closed}
use Rattle.page_runs.specs.Output.{Tells, Closes, Follows, Starts, Begins, Output}
use Rattle.page_text.specs.Commands.{Said, said_by}
use Rattle.page_text.specs.Replies.{Told, line_of}
use Rattle.pages.specs.Lines.{Opening, Event}
use Rattle.plain_text.specs.Lines.{lines_of}
use Rattle.refusals.specs.Refusals.{number_of}
use Rattle.refusals.specs.declared.refusal.Refusal.{Refusal}
use Rattle.refusals.specs.declared.refusal.Refusal.TheVariants as refusal

-- the lines that are left, after h, make with what was written the output of the first lines
abbrev pub Leads : Opening → List Event → List (List ℕ) → List ℕ → List ℕ → List (List ℕ) → Type 0
Leads o h left written start first =
    (rest : List ℕ) → Follows o h left rest
    → (more : List ℕ) × (written ++ rest ≡ start ++ more) × Follows o [] first more

pub made_ok : {E : Type 0} (r : Result (Unit {0}) E) (u : Unit {0}) (P : Unit {0} → Type 0) → r ≡ Ok u → IfOk r P → P u
made_ok (Ok x) u P e m = m
made_ok (Err x) u P e m = absurd (let z : ◌≡◌ {A = ℕ} 0 1 = clash e in omega arith)
  where
    clash : Err x ≡ Ok u → ◌≡◌ {A = ℕ} 0 1
    clash e = cc

pub made_map :
    {E : Type 0} (r : Result (Unit {0}) E) (P Q : Unit {0} → Type 0) → ((u : Unit {0}) → P u → Q u) → IfOk r P → IfOk r Q
made_map (Ok x) P Q f m = f x m
made_map (Err x) P Q f m = tt

pub goes_on :
    (o : Opening) (h k : List Event) (left later first : List (List ℕ)) (line : List ℕ) (c : Said) (before after start : List ℕ) (t : Told)
    → Leads o h left before start first → left ≡ line ∷ later → c ≡ said_by line → Tells o h c t k
    → after ≡ before ++ line_of t → Leads o k later after start first
goes_on o h k left later first line c before after start t leads cut said tells e rest f =
    let w =
    leads (line_of t ++ rest)
    (subst (λ (ls : List (List ℕ)). Follows o h ls (line_of t ++ rest)) (sym cut)
    (t, k, rest, subst (λ (x : Said). Tells o h x t k) said tells, refl, f)) in
    (w.0, ap (λ (x : List ℕ). x ++ rest) e ∙ append_assoc before (line_of t) rest ∙ w.1, w.2)

pub ends_withdrawn :
    (p t : ℕ) (h : List Event) (left first : List (List ℕ)) (before after start : List ℕ)
    → Leads (opening_with p t) h left before start first → left ≡ [] → Closed p t h true → after ≡ before ++ line_of Told.withdrawn
    → (more : List ℕ) × (after ≡ start ++ more) × Follows (opening_with p t) [] first more
ends_withdrawn p t h left first before after start leads none c e =
    let w =
    leads (line_of Told.withdrawn)
    (subst (λ (ls : List (List ℕ)). Follows (opening_with p t) h ls (line_of Told.withdrawn)) (sym none)
    (Closes.withdrawn c.0 c.1.0 c.1.1 c.1.2 refl)) in
    (w.0, e ∙ w.1, w.2)

pub ends_idle :
    (p t : ℕ) (h : List Event) (left first : List (List ℕ)) (before start : List ℕ)
    → Leads (opening_with p t) h left before start first → left ≡ [] → Closed p t h false
    → (more : List ℕ) × (before ≡ start ++ more) × Follows (opening_with p t) [] first more
ends_idle p t h left first before start leads none c =
    let w =
    leads []
    (subst (λ (ls : List (List ℕ)). Follows (opening_with p t) h ls []) (sym none) (Closes.idle c refl)) in
    (w.0, sym (append-nil before) ∙ w.1, w.2)

abbrev Checked : Type 0
Checked = Result (ℕ × ℕ) Refusal

not_within :
    (b : Bool) (p t : ℕ) (e : Refusal) → ◌≡◌ {A = Checked} (Err e) (cond b (Ok (p, t)) (Err refusal.Size))
    → (b ≡ false) × (e ≡ refusal.Size)
not_within true p t e q = absurd (let z : ◌≡◌ {A = ℕ} 0 1 = clash q in omega arith)
  where
    clash : ◌≡◌ {A = Checked} (Err e) (Ok (p, t)) → ◌≡◌ {A = ℕ} 0 1
    clash q = cc
not_within false p t e q = (refl, same q)
  where
    same : ◌≡◌ {A = Checked} (Err e) (Err refusal.Size) → e ≡ refusal.Size
    same q = cc

abbrev pair_in : Checked → ℕ × ℕ
pair_in (Ok x) = x
pair_in (Err e) = (0, 0)

are_within :
    (b : Bool) (p t m n : ℕ) → ◌≡◌ {A = Checked} (Ok (m, n)) (cond b (Ok (p, t)) (Err refusal.Size))
    → (b ≡ true) × (m ≡ p) × (n ≡ t)
are_within true p t m n q =
    (refl, ap (λ (x : Checked). (pair_in x).0) q, ap (λ (x : Checked). (pair_in x).1) q)
are_within false p t m n q = absurd (let z : ◌≡◌ {A = ℕ} 0 1 = clash q in omega arith)
  where
    clash : ◌≡◌ {A = Checked} (Ok (m, n)) (Err refusal.Size) → ◌≡◌ {A = ℕ} 0 1
    clash q = cc

-- a first line that opens: its sizes are refused, or the lines after it follow
module _ (input first : List ℕ) (later : List (List ℕ)) (p t : ℕ) (c : Said) (small : length input ≤ 32768)
    (cut : lines_of input ≡ first ∷ later) (said : c ≡ said_by first) (is : c ≡ Said.opens p t)
  where
    starts : (out : List ℕ) → Starts c later out → Output input out
    starts out s =
        Output.read small
        (subst (λ (ls : List (List ℕ)). Begins ls out) (sym cut) (subst (λ (x : Said). Starts x later out) said s))

    pub opening_refused : (e : Refusal) → ◌≡◌ {A = Checked} (Err e) (sizes_of p t) → Output input (line_of (Told.refused (number_of e)))
    opening_refused e q =
        let w = not_within (within p t) p t e q in
        starts (line_of (Told.refused (number_of e)))
        (Starts.refused p t (ap sizes_for is) w.0 (ap (λ (r : Refusal). line_of (Told.refused (number_of r))) w.1))

    pub opening_follows :
        (m n : ℕ) (more : List ℕ) → ◌≡◌ {A = Checked} (Ok (m, n)) (sizes_of p t) → Follows (opening_with m n) [] later more
        → Output input (line_of Told.ok ++ more)
    opening_follows m n more q f =
        let w = are_within (within p t) p t m n q in
        let g : Follows (opening_with p n) [] later more =
        subst (λ (x : ℕ). Follows (opening_with x n) [] later more) w.1 f in
        let k : Follows (opening_with p t) [] later more =
        subst (λ (x : ℕ). Follows (opening_with p x) [] later more) w.2 g in
        starts (line_of Told.ok ++ more) (Starts.opened p t (ap sizes_for is) w.0 more refl k)
