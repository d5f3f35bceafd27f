use Rattle.std.proofs.Common.{ℕ, ◌+◌, ◌-◌, ◌≡◌, ◌≤◌, List, length, get_or, set, sym, refl, ap, ◌∙◌, subst, arith}
use Rattle.matching.proofs.Numbers.{Noted, never_twice, noted_all, noted_more, noted_over, numbered}
use Rattle.matching.proofs.plan.Plan.of_owners.Goals as goal
use Rattle.matching.proofs.plan.Plan.of_owners.Goals.{then-owner-gt0, else-owner-gt0}
use Rattle.matching.specs.Owned.{EachOnce, ReadsOff}
use Rattle.std.proofs.lemmas.List.{length-set}

pub loop-j-preserved : goal.loop-j-preserved
loop-j-preserved c =
    let o = c.places-owner-items.result.now in
    let ns = c.loop-j.numbers in
    let j = c.loop-j.j in
    let once : EachOnce c.args.packages o = subst (EachOnce c.args.packages) (sym c.places-owner-items.ensures) c.requires.once in
    let below = once.only j in
    let few = c.requires.some.1 in
    let full = c.loop-j.invariant.0 in
    elim c.if-owner-gt0.branch [
      | then-owner-gt0 y ↦
          let e : c.if-owner-gt0.numbers ≡ set ns (get_or o j 0 - 1) (j + 1) = y.numbers-is ∙ ap (λ x. set ns (x - 1) (j + 1)) y.from.ensures in (
            ap length e ∙ simp length-set full,
            subst (λ (x : List ℕ). Noted o x (j + 1)) (sym e)
                (noted_more o ns j once.apart y.if-owner-gt0.true (omega (arith, below, few, full)) c.loop-j.invariant.1),
          )
      | else-owner-gt0 y ↦ (
        ap length y.numbers-is ∙ full,
        subst (λ (x : List ℕ). Noted o x (j + 1)) (sym y.numbers-is)
            (noted_over o ns j (let z = y.if-owner-gt0.false in omega (arith, z)) c.loop-j.invariant.1),
      )
    ]

-- the note was read to its end
read_off : (o p ns : List ℕ) (j : ℕ) → o ≡ p → length p ≡ 64 → 64 ≤ j → Noted o ns j → ReadsOff p ns
read_off o p ns j e long l r = subst (λ (x : List ℕ). ReadsOff x ns) e (noted_all o ns j (let d = ap length e in omega (arith, d, long, l)) r)

pub invariant_of-result : goal.invariant_of-result
invariant_of-result c =
    let owners = c.args.owners.now in
    let ns = c.loop-j.numbers in
    let long = owners.full in
    let r : ReadsOff owners.places ns = read_off c.places-owner-items.result.now owners.places ns c.loop-j.j c.places-owner-items.ensures long c.loop-j-test.false c.loop-j.invariant.1 in
    record {
      few = c.requires.some;
      full = c.loop-j.invariant.0;
      numbered = λ k l. let y = numbered c.args.packages owners.places ns c.requires.once r k l in (y.0, let z = y.1 in omega (arith, z, long));
      apart = λ k l h g e. never_twice c.args.packages owners.places ns c.requires.once r k l h g e;
    }

pub returns : goal.returns
returns c =
    let owners = c.args.owners.now in
    record {
      packages = refl;
      numbers = read_off c.places-owner-items.result.now owners.places c.loop-j.numbers c.loop-j.j c.places-owner-items.ensures owners.full c.loop-j-test.false c.loop-j.invariant.1;
    }
