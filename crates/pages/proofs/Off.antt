-- Two pages with the same lines are answered alike, so a refused line comes off.
use Rattle.std.proofs.Common.{◌≡◌, ℕ, List, [], ◌∷◌, ◌++◌, sym, refl, subst, arith}
use Rattle.pages.proofs.Determined.{determined}
use Rattle.pages.proofs.Skips.{page_skip}
use Rattle.pages.specs.Answers.{Right, Lawful, Page}
use Rattle.pages.specs.Lines.{Opening, Line, Event}
use Rattle.pages.specs.Promises.{Alike, AllAlike, lines, SameLinesSameAnswers, RefusedLinesComeOff}
use Rattle.pages.specs.Standing.{Standing, grade_by, out_by, published_by, standing}

-- what stands under two lines that are answered alike
standing_more :
    (p : ℕ) (e f : Event) (h k : List Event) → e.line ≡ f.line → Alike p e.answer f.answer
    → standing p h ≡ standing p k → standing p (e ∷ h) ≡ standing p (f ∷ k)
standing_more p e f h k l a s = λ n. record {
  grade = λ i j. grade_by (a.outcome n) (l n).call i j ((s n).grade i j);
  out = out_by p (a.outcome n) (l n).call (a.plan n) (s n).out;
  published = published_by (a.outcome n) (l n).call (s n).out (s n).published;
}

head_line : (l m : Line) (ls ms : List Line) → l ∷ ls ≡ m ∷ ms → l ≡ m
head_line l m ls ms e = cc

tail_lines : (l m : Line) (ls ms : List Line) → l ∷ ls ≡ m ∷ ms → ls ≡ ms
tail_lines l m ls ms e = cc

pub lawful : (o : Opening) (h : List Event) → Page o h → Lawful o
lawful o [] a = a
lawful o (e ∷ h) a = lawful o h a.1

pub same_answers :
    (o : Opening) (h k : List Event) → Page o h → Page o k → lines h ≡ lines k
    → AllAlike o.packages h k × (standing o.packages h ≡ standing o.packages k)
same_answers o [] [] a b e = (tt, refl)
same_answers o [] (f ∷ k) a b e = absurd (let z : ◌≡◌ {A = ℕ} 0 1 = clash e in omega arith)
  where
    clash : [] ≡ f.line ∷ lines k → ◌≡◌ {A = ℕ} 0 1
    clash q = cc
same_answers o (e ∷ h) [] a b q = absurd (let z : ◌≡◌ {A = ℕ} 0 1 = clash q in omega arith)
  where
    clash : e.line ∷ lines h ≡ [] → ◌≡◌ {A = ℕ} 0 1
    clash q = cc
same_answers o (e ∷ h) (f ∷ k) a b q = joined (same_answers o h k a.1 b.1 (tail_lines e.line f.line (lines h) (lines k) q))
  where
    p : ℕ
    p = o.packages

    l : e.line ≡ f.line
    l = head_line e.line f.line (lines h) (lines k) q

    joined :
        AllAlike p h k × (standing p h ≡ standing p k)
        → AllAlike p (e ∷ h) (f ∷ k) × (standing p (e ∷ h) ≡ standing p (f ∷ k))
    joined ih =
        let s : standing p h ≡ standing p k = ih.1 in
        let r : Right o (standing p h) e.line f.answer =
        subst (λ (x : Standing). Right o x e.line f.answer) (sym s)
        (subst (λ (x : Line). Right o (standing p k) x f.answer) (sym l) b.0) in
        let w : Alike p e.answer f.answer =
        determined o (lawful o h a.1) (standing p h) e.line e.answer f.answer a.0 r in
        ((w, ih.0), standing_more p e f h k l w s)

pub same_lines_same_answers : SameLinesSameAnswers
same_lines_same_answers o h k a b e = (same_answers o h k a b e).0

pub refused_lines_come_off : RefusedLinesComeOff
refused_lines_come_off o below above others e r a is b q =
    (same_answers o others (below ++ above) b (page_skip e r is above o below a) q).0
