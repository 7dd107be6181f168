use Rattle.std.proofs.Common.{◌≤◌, ◌∙◌, sym, refl, arith, subst}
use Rattle.std.proofs.lemmas.Bool.{false≢true}
use Rattle.graph_core.specs.Families.{members_with}
use Rattle.graph_core.proofs.FamilyLaws.{length-disjoint_family}
use Rattle.certificate_checker.proofs.Enough.{proper-own, own-proper}
use Rattle.certificate_checker.proofs.families.is_disjoint_family.Goals as goal
use borrow.Author.Count.{below_more}

pub returns-then-len-count : goal.returns-then-len-count
returns-then-len-count c = (λ never. absurd (false≢true never), λ family. absurd (omega (arith, length-disjoint_family c.args.count c.args.sides.now family, c.len.ensures, c.if-len-count.true)))

pub returns-then-not-are_proper : goal.returns-then-not-are_proper
returns-then-not-are_proper c = (λ never. absurd (false≢true never), λ family. absurd (false≢true (sym c.if-not-are_proper.true ∙ c.are_proper.ensures.1 (proper-own c.args.count c.args.sides.now family.proper))))

pub returns-then-members_with-gt1 : goal.returns-then-members_with-gt1
returns-then-members_with-gt1 c = (λ never. absurd (false≢true never), λ family. let once = family.disjoint c.loop-node.node c.loop-node-test.true in let many = c.if-members_with-gt1.true in absurd (omega (arith, c.members_with.ensures)))

pub loop-node-preserved : goal.loop-node-preserved
loop-node-preserved c = below_more (λ v. members_with v c.args.sides.now ≤ 1) c.loop-node.node c.loop-node.invariant (subst (λ m. m ≤ 1) c.members_with.ensures c.if-members_with-gt1.false)

pub returns : goal.returns
returns c = (
  λ _. record {
    proper = own-proper c.args.count c.args.sides.now c.requires (c.are_proper.ensures.0 c.if-not-are_proper.false);
    disjoint = λ v l. c.loop-node.invariant v (omega arith);
  },
  λ _. refl,
)
