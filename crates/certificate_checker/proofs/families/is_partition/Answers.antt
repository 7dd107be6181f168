use Rattle.std.proofs.Common.{◌≡◌, ◌∙◌, sym, refl, arith}
use Rattle.std.proofs.lemmas.Bool.{false≢true}
use Rattle.graph_core.specs.Families.{members_with}
use Rattle.graph_core.proofs.FamilyLaws.{length-partition}
use Rattle.certificate_checker.proofs.SideCounts.{sized-nonempty}
use Rattle.certificate_checker.proofs.families.is_partition.Goals as goal
use borrow.Author.Count.{below_more}

pub returns-then-len-count : goal.returns-then-len-count
returns-then-len-count c = (λ never. absurd (false≢true never), λ partition. absurd (omega (arith, length-partition c.args.count c.args.classes.now partition, c.len.ensures, c.if-len-count.true)))

pub returns-then-members_with-ne1 : goal.returns-then-members_with-ne1
returns-then-members_with-ne1 c = (λ never. absurd (false≢true never), λ partition. absurd (c.if-members_with-ne1.true (c.members_with.ensures ∙ partition.each c.loop-node.node c.loop-node-test.true)))

pub loop-node-preserved : goal.loop-node-preserved
loop-node-preserved c = below_more (λ v. members_with v c.args.classes.now ≡ 1) c.loop-node.node c.loop-node.invariant (sym c.members_with.ensures ∙ c.if-members_with-ne1.false)

pub returns : goal.returns
returns c = (
  λ _. record {
    nonempty = sized-nonempty c.args.count c.args.classes.now c.requires (c.are_nonempty.ensures.0 c.if-not-are_nonempty.false);
    each = λ v l. c.loop-node.invariant v (omega arith);
  },
  λ _. refl,
)
