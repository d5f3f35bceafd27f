-- Whole matchings: one package released, and the same package placed first.
use Rattle.std.proofs.Common.{◌≡◌, ℕ, ◌+◌, ◌-◌, ◌<◌, ◌≤◌, Bool, true, false, ◌&&◌, ltb, List, get_or, sym, refl, ap, ◌∙◌, ⊎_elim, arith}
use Rattle.augmenting.proofs.Blocked.{blocked}
use Rattle.augmenting.specs.Assigned.{Assigns, Complete, Least, PlacedFirst}
use Rattle.augmenting.specs.Owners.{Augmented, Closed, Free, Has, Kept, Matching, Tried, seen}
use Rattle.std.proofs.lemmas.Bool.{and_from, and_parts, both_ways, cases_Bool, cases_eq, cases_lt, lt-ltb, ltb-true}

-- the function of a whole matching
pub chosen : (C : ℕ → ℕ → Bool) (p t : ℕ) (o : List ℕ) → Complete C p t o → (k : ℕ) → (j : ℕ) × (k < p → get_or o j 0 ≡ k + 1)
chosen C p t o c k = ⊎_elim (λ l. ((c.all k l).0, λ _. (c.all k l).1)) (λ l. (0, λ h. absurd (omega arith))) (cases_lt k p)

pub assigns_chosen : (C : ℕ → ℕ → Bool) (p t : ℕ) (o : List ℕ) (c : Complete C p t o) → Assigns C p t (λ k. (chosen C p t o c k).0)
assigns_chosen C p t o c =
    record {
      within = λ k h. c.matching.within (chosen C p t o c k).0 (let e = (chosen C p t o c k).1 h in omega (arith, e));
      joined = λ k h.
          let e = (chosen C p t o c k).1 h in
          ap (λ n. C n ((chosen C p t o c k).0 + 1)) (sym e) ∙ c.matching.joined (chosen C p t o c k).0 (omega (arith, e));
      apart = λ k l h g q.
          let e = (chosen C p t o c k).1 h in
          let d = (chosen C p t o c l).1 g in
          let s : get_or o (chosen C p t o c k).0 0 ≡ get_or o (chosen C p t o c l).0 0 = ap (λ j. get_or o j 0) q in
          omega (arith, e, d, s);
    }

-- What is known of the marks on the packages before package i, and of the note without i.
pub record Released (i : ℕ) (o n : List ℕ) (v : List Bool) : Type 0 where
  pub marked : (j : ℕ) → 0 < get_or o j 0 → get_or o j 0 < i → seen v j ≡ true
  pub only : (j : ℕ) → seen v j ≡ true → (0 < get_or o j 0) × (get_or o j 0 < i)
  pub freed : (j : ℕ) → get_or o j 0 ≡ i → get_or n j 0 ≡ 0
  pub others : (j : ℕ) → (get_or o j 0 ≡ i → ⊥) → get_or n j 0 ≡ get_or o j 0

pub released_by :
    (i : ℕ) (o n : List ℕ) (v : List Bool) → ((j : ℕ) → seen v j ≡ (ltb 0 (get_or o j 0) && ltb (get_or o j 0) i))
    → ((j : ℕ) → get_or o j 0 ≡ i → get_or n j 0 ≡ 0) → ((j : ℕ) → (get_or o j 0 ≡ i → ⊥) → get_or n j 0 ≡ get_or o j 0)
    → Released i o n v
released_by i o n v mark freed others =
    record {
      marked = λ j z l. mark j ∙ and_from (ltb 0 (get_or o j 0)) (ltb (get_or o j 0) i) (lt-ltb 0 (get_or o j 0) z) (lt-ltb (get_or o j 0) i l);
      only = λ j q.
          let b = and_parts (ltb 0 (get_or o j 0)) (ltb (get_or o j 0) i) (sym (mark j) ∙ q) in
          (ltb-true 0 (get_or o j 0) b.0, ltb-true (get_or o j 0) i b.1);
      freed = freed;
      others = others;
    }

pub released_old : (i : ℕ) (o n : List ℕ) (v : List Bool) → Released i o n v → (j : ℕ) → 0 < get_or n j 0 → get_or n j 0 ≡ get_or o j 0
released_old i o n v r j z = ⊎_elim (λ e. absurd (let q = r.freed j e in omega (arith, q, z))) (λ d. r.others j d) (cases_eq (get_or o j 0) i)

pub released_free : (i : ℕ) (o n : List ℕ) (v : List Bool) → 0 < i → Released i o n v → Free n i
released_free i o n v z r j e =
    let q = released_old i o n v r j (omega arith) in
    let s = r.freed j (sym q ∙ e) in
    omega (arith, s, e)

pub released_matching :
    (C : ℕ → ℕ → Bool) (t i : ℕ) (o n : List ℕ) (v : List Bool) → Released i o n v → Matching C t o → Matching C t n
released_matching C t i o n v r m =
    record {
      within = λ j z. let e = released_old i o n v r j z in m.within j (omega (arith, e));
      joined = λ j z. let e = released_old i o n v r j z in ap (λ k. C k (j + 1)) e ∙ m.joined j (omega (arith, e));
      apart = λ j l z q.
          let e = released_old i o n v r j z in
          let d = released_old i o n v r l (omega (arith, q)) in
          m.apart j l (omega (arith, e)) (sym e ∙ q ∙ d);
    }

pub released_below : (p i : ℕ) (o n : List ℕ) (v : List Bool) → Released i o n v → ((j : ℕ) → get_or o j 0 ≤ p) → (j : ℕ) → get_or n j 0 ≤ p
released_below p i o n v r b j =
    ⊎_elim (λ z. let e = released_old i o n v r j z in let d = b j in omega (arith, e, d)) (λ z. omega arith) (cases_lt 0 (get_or n j 0))

pub released_above :
    (i : ℕ) (o n : List ℕ) (v : List Bool) → Released i o n v → (j : ℕ) → 0 < get_or n j 0 → seen v j ≡ false → i ≤ get_or n j 0
released_above i o n v r j z f =
    let e = released_old i o n v r j z in
    ⊎_elim (λ l. absurd (both_ways (seen v j) f (r.marked j (omega (arith, e)) (omega (arith, e))))) (λ l. l) (cases_lt (get_or n j 0) i)

-- where package i had a translator, it can have one again
pub never_stuck :
    (C : ℕ → ℕ → Bool) (p t i : ℕ) (o n : List ℕ) (v w : List Bool) → 0 < i → i ≤ p → Complete C p t o
    → Released i o n v → Closed C t n v w → Tried C i w t → ⊥
never_stuck C p t i o n v w z l c r d e =
    let m : ℕ → ℕ = λ k. (chosen C p t o c k).0 in
    let a : Assigns C p t m = assigns_chosen C p t o c in
    blocked C p t i n v w m z l (released_matching C t i o n v r c.matching) (released_free i o n v z r) (released_below p i o n v r c.only) d a
    (released_above i o n v r)
    (λ k h q.
    ⊎_elim
    (λ b. absurd (let u = (r.only (m k) b).1 in let y = (chosen C p t o c k).1 h in omega (arith, u, y, q)))
    (λ b. b)
    (cases_Bool (seen v (m k))))
    (λ k q. e (m k) (a.within k (omega arith)) (ap (λ b. C b (m k + 1)) (sym q) ∙ a.joined k (omega arith)))

-- the whole matching after package i got the first translator it could have
pub placed_first :
    (C : ℕ → ℕ → Bool) (p t i : ℕ) (o n u : List ℕ) (v : List Bool) → 0 < i → i ≤ p → Complete C p t o
    → Released i o n v → Kept v n u → Augmented C t v i n u → PlacedFirst C p t i o u
placed_first C p t i o n u v z l c r kept a =
    record { complete = record { matching = a.matching; all = all; only = only }; lower = lower; least = least }
  where
    all : (k : ℕ) → k < p → Has u (k + 1)
    all k h =
        ⊎_elim
        (λ q. (a.place, a.placed ∙ sym q))
        (λ d.
        let y = c.all k h in
        let s : get_or n y.0 0 ≡ k + 1 = r.others y.0 (λ e. d (sym y.1 ∙ e)) ∙ y.1 in
        a.keeps (k + 1) (omega arith) (y.0, s))
        (cases_eq (k + 1) i)

    only : (j : ℕ) → get_or u j 0 ≤ p
    only j =
        ⊎_elim
        (λ y.
        ⊎_elim
        (λ q. omega arith)
        (λ q. let b = released_below p i o n v r c.only q.0 in let e = q.1 in omega (arith, b, e))
        (a.only (get_or u j 0) y (j, refl)))
        (λ y. omega arith)
        (cases_lt 0 (get_or u j 0))

    lower : (j k : ℕ) → 0 < k → k < i → get_or o j 0 ≡ k → get_or u j 0 ≡ k
    lower j k y h q =
        kept j (r.marked j (omega arith) (omega arith)) ∙ r.others j (λ e. absurd (omega (arith, e))) ∙ q

    -- the translators of the packages before i stay theirs
    lower_only : (k : ℕ) → k + 1 ≡ i → (m : ℕ → ℕ) → Assigns C p t m → ((b : ℕ) → b < k → get_or u (m b) 0 ≡ b + 1)
        → (b : ℕ) → b < p → i ≤ b + 1 → seen v (m b) ≡ true → ⊥
    lower_only k q m g agree b h x e =
        let y = r.only (m b) e in
        let d = get_or o (m b) 0 - 1 in
        let s : get_or u (m b) 0 ≡ d + 1 = lower (m b) (d + 1) (omega (arith, y.0)) (omega (arith, y.0, y.1)) (omega (arith, y.0)) in
        let f : get_or u (m d) 0 ≡ d + 1 = agree d (omega (arith, y.0, y.1)) in
        let same : m d ≡ m b = a.matching.apart (m d) (m b) (omega (arith, f)) (f ∙ sym s) in
        let again : d ≡ b = g.apart d b (omega (arith, y.0, y.1)) h same in
        omega (arith, again, y.0, y.1, x)

    stuck : (k : ℕ) → k + 1 ≡ i → (m : ℕ → ℕ) → Assigns C p t m → ((b : ℕ) → b < k → get_or u (m b) 0 ≡ b + 1) → m k < a.place → ⊥
    stuck k q m g agree h =
        blocked C p t i n v a.first.marks m z l (released_matching C t i o n v r c.matching) (released_free i o n v z r) (released_below p i o n v r c.only)
        a.first.closed g (released_above i o n v r)
        (λ b y x. ⊎_elim (λ e. absurd (lower_only k q m g agree b y x e)) (λ e. e) (cases_Bool (seen v (m b))))
        (λ b e.
        let same : b ≡ k = omega (arith, e, q) in
        let y : C (k + 1) (m k + 1) ≡ true = g.joined k (omega (arith, q)) in
        ap (λ x. seen a.first.marks (m x)) same ∙ a.first.tried (m k) h (ap (λ x. C x (m k + 1)) (sym q) ∙ y))

    least : (k : ℕ) → k + 1 ≡ i → Least C p t u k
    least k q m g agree j e =
        let same : j ≡ a.place = a.matching.apart j a.place (omega (arith, e)) (e ∙ q ∙ sym a.placed) in
        ⊎_elim (λ h. absurd (stuck k q m g agree h)) (λ h. omega (arith, same, h)) (cases_lt (m k) a.place)

-- the packages before keep their translators, and so keep what was shown of them
pub stays :
    (C : ℕ → ℕ → Bool) (p t i : ℕ) (o n : List ℕ) → Complete C p t o → PlacedFirst C p t i o n
    → (k : ℕ) → k < p → k + 1 < i → (j : ℕ) → get_or n j 0 ≡ k + 1 → get_or o j 0 ≡ k + 1
stays C p t i o n c f k h l j e =
    let y = c.all k h in
    let s : get_or n y.0 0 ≡ k + 1 = f.lower y.0 (k + 1) (omega arith) l y.1 in
    let same : j ≡ y.0 = f.complete.matching.apart j y.0 (omega (arith, e)) (e ∙ sym s) in
    ap (λ x. get_or o x 0) same ∙ y.1

pub least_stays :
    (C : ℕ → ℕ → Bool) (p t i : ℕ) (o n : List ℕ) → Complete C p t o → PlacedFirst C p t i o n
    → (k : ℕ) → k < p → k + 1 < i → Least C p t o k → Least C p t n k
least_stays C p t i o n c f k h l least m g agree j e =
    least m g (λ b x. stays C p t i o n c f b (omega arith) (omega arith) (m b) (agree b x)) j (stays C p t i o n c f k h l j e)

pub least_more :
    (C : ℕ → ℕ → Bool) (p t i : ℕ) (o n : List ℕ) → 0 < i → i ≤ p → Complete C p t o → PlacedFirst C p t i o n
    → ((k : ℕ) → k + 1 < i → Least C p t o k) → (k : ℕ) → k < i → Least C p t n k
least_more C p t i o n z l c f before k h =
    ⊎_elim
    (λ q. f.least k q)
    (λ d. least_stays C p t i o n c f k (omega arith) (omega arith) (before k (omega arith)))
    (cases_eq (k + 1) i)
