-- All reports on one file agree: the file determines kind, sizes and grades, and these the plan.
use Rattle.std.proofs.Common.{◌≡◌, ℕ, Bool, true, false, cond, ◌&&◌, ◌||◌, eqb, ◌⊎◌, List, ◌++◌, get_or, Some, None, Option, sym, refl, ap, ◌∙◌, subst, inl, inr, ⊎_elim, rules}
use Rattle.books.specs.Limits.{Within, within}
use Rattle.bottleneck.specs.Grades.{AllValid}
use Rattle.file_format.proofs.Once.{right_or_one_fault}
use Rattle.file_format.proofs.RoundTrip.{file_is_right}
use Rattle.file_format.specs.FileOf.{Graded, file_of, grade_in}
use Rattle.file_format.specs.Layout.{whole}
use Rattle.file_format.specs.Rules as rules
use Rattle.grades.specs.Order.{Order}
use Rattle.grades.specs.Points.{valid_points, above_points}
use Rattle.grades.specs.Ratings.{valid_rating, above_rating}
use Rattle.matching.proofs.Rules.{one_best}
use Rattle.plan_report.specs.Reports.{above_in, Holds, Tells, Report, SameButForTheSet, ReportsAgree}
use Rattle.plan_report.specs.Texts.{fault_text, plan_front, short_front, set_line, tight_words, short_words}
use Rattle.refusals.specs.declared.fault.Cause.{Cause}
use Rattle.refusals.specs.declared.fault.Cause.TheVariants as cause
use Rattle.refusals.specs.declared.fault.Fault.{Fault}
use Rattle.grades.specs.Names.{known_kind}
use Rattle.saved_file.specs.ByItself.{by_itself, valid_in}
use Rattle.std.proofs.lemmas.Bool.{eqb-true, le-leb, both_ways}

points_order : Order valid_points above_points
points_order = record { no_zero = search rules; fits = search rules; one_way = search rules; chain = search rules }

ratings_order : Order valid_rating above_rating
ratings_order = record { no_zero = search rules; fits = search rules; one_way = search rules; chain = search rules }

one_of_two : (kind : ℕ) → known_kind kind ≡ true → (kind ≡ 1) ⊎ (kind ≡ 2)
one_of_two kind e = by (eqb kind 1) (eqb kind 2) refl refl e
  where
    by : (a b : Bool) → eqb kind 1 ≡ a → eqb kind 2 ≡ b → (a || b) ≡ true → (kind ≡ 1) ⊎ (kind ≡ 2)
    by true b x y z = inl (eqb-true kind 1 x)
    by false true x y z = inr (eqb-true kind 2 y)
    by false false x y z = absurd (both_ways false refl z)

order_in : (kind : ℕ) → known_kind kind ≡ true → Order (valid_in kind) (above_in kind)
order_in kind e =
    ⊎_elim
    (λ q. subst (λ (k : ℕ). Order (valid_in k) (above_in k)) (sym q) points_order)
    (λ q. subst (λ (k : ℕ). Order (valid_in k) (above_in k)) (sym q) ratings_order)
    (one_of_two kind e)

-- the last two of three rules, where the first is kept
pub three_kept :
    (a b c d e : Bool) (x y z : Cause) → cond a (cond b (cond c None (Some z)) (Some y)) (Some x) ≡ None → d ≡ true → e ≡ true
    → cond a (cond d (cond e None (Some z)) (Some y)) (Some x) ≡ None
three_kept true b c d e x y z h u v = λ i. cond (u i) (cond (v i) None (Some z)) (Some y)
three_kept false b c d e x y z h u v = h

within_true : (p t : ℕ) → Within p t → within p t ≡ true
within_true p t w = search (rules, le-leb)

-- the file of grades of a known kind has no fault by itself
module _ (kind p t : ℕ) (G : ℕ → ℕ → Option ℕ) (known : known_kind kind ≡ true) (graded : Graded (valid_in kind) p t G) where
  right_by_itself : rules.Right (by_itself (file_of kind p t G)) (file_of kind p t G)
  right_by_itself rules.first_count u = (file_is_right kind (valid_in kind) p t G graded).0 rules.first_count u
  right_by_itself rules.sheet_record u =
      three_kept (whole (file_of kind p t G) 2 3) (eqb kind kind) (eqb p p && eqb t t) (known_kind kind) (within p t) cause.NotWhole
      cause.Kind cause.Sizes ((file_is_right kind (valid_in kind) p t G graded).0 rules.sheet_record u) known
      (within_true p t graded.sizes)
  right_by_itself rules.second_count u = (file_is_right kind (valid_in kind) p t G graded).0 rules.second_count u
  right_by_itself (rules.grade_record r) u = (file_is_right kind (valid_in kind) p t G graded).0 (rules.grade_record r) u
  right_by_itself rules.the_end u = (file_is_right kind (valid_in kind) p t G graded).0 rules.the_end u

no_fault : (file : List ℕ) (kind p t : ℕ) (G : ℕ → ℕ → Option ℕ) (f : Fault) → Holds file kind p t G → rules.Faulty (by_itself file) file f → ⊥
no_fault file kind p t G f h w =
    (right_or_one_fault (by_itself file) file).1
    (subst (λ (bs : List ℕ). rules.Right (by_itself bs) bs) (sym h.same) (right_by_itself kind p t G h.known h.graded)) f w

tells_once :
    (kind p t : ℕ) (G : ℕ → ℕ → Option ℕ) (text other : List ℕ) → known_kind kind ≡ true → AllValid (valid_in kind) G
    → Tells kind p t G text → Tells kind p t G other → (text ≡ other) ⊎ SameButForTheSet text other
tells_once kind p t G text other known valid (Tells.planned plan lowest S best tight is) (Tells.planned plan' lowest' S' best' tight' is') =
    let w = one_best (valid_in kind) (above_in kind) (order_in kind known) G valid p t plan plan' lowest lowest' best best' in
    inr (record {
      front = plan_front kind p t G plan lowest;
      words = tight_words;
      size = p;
      one = S;
      another = S';
      names = inl refl;
      text_is = is;
      other_is = is' ∙ sym (λ i. plan_front kind p t G (w.0 i) (w.1 i) ++ set_line tight_words S' p);
    })
tells_once kind p t G text other known valid (Tells.planned plan lowest S best tight is) (Tells.short S' none short is') =
    absurd (none plan best.full)
tells_once kind p t G text other known valid (Tells.short S none short is) (Tells.planned plan' lowest' S' best' tight' is') =
    absurd (none plan' best'.full)
tells_once kind p t G text other known valid (Tells.short S none short is) (Tells.short S' none' short' is') =
    inr (record {
      front = short_front kind p t G;
      words = short_words;
      size = p;
      one = S;
      another = S';
      names = inr refl;
      text_is = is;
      other_is = is';
    })

-- two files of grades that are the same bytes
module _
    (kind p t kind' p' t' : ℕ) (G H : ℕ → ℕ → Option ℕ) (same : file_of kind p t G ≡ file_of kind' p' t' H)
    (graded : Graded (valid_in kind) p t G) (also : Graded (valid_in kind') p' t' H)
  where
    same_grades : H ≡ G
    same_grades =
        λ k i j. (sym ((file_is_right kind' (valid_in kind') p' t' H also).1 i j) ∙ sym (ap (λ (bs : List ℕ). grade_in bs i j) same)
        ∙ (file_is_right kind (valid_in kind) p t G graded).1 i j) k

    moved : (text : List ℕ) → Tells kind' p' t' H text → Tells kind p t G text
    moved text w =
        subst (λ (x : ℕ). Tells x p t G text) (ap (λ (bs : List ℕ). get_or bs 2 0) (sym same))
        (subst (λ (x : ℕ). Tells kind' x t G text) (ap (λ (bs : List ℕ). get_or bs 3 0) (sym same))
        (subst (λ (x : ℕ). Tells kind' p' x G text) (ap (λ (bs : List ℕ). get_or bs 4 0) (sym same))
        (subst (λ (x : ℕ → ℕ → Option ℕ). Tells kind' p' t' x text) same_grades w)))

pub reports_agree : ReportsAgree
reports_agree file text other (Report.faulty f w is) (Report.faulty g v js) =
    inl (is ∙ ap fault_text ((right_or_one_fault (by_itself file) file).2 f g w v) ∙ sym js)
reports_agree file text other (Report.faulty f w is) (Report.told kind p t G h u) = absurd (no_fault file kind p t G f h w)
reports_agree file text other (Report.told kind p t G h u) (Report.faulty f w is) = absurd (no_fault file kind p t G f h w)
reports_agree file text other (Report.told kind p t G h u) (Report.told kind' p' t' H k v) =
    tells_once kind p t G text other h.known (λ i j code e. (h.graded.codes i j code e).0) u
    (moved kind p t kind' p' t' G H (sym h.same ∙ k.same) h.graded k.graded other v)
