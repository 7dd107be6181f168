use Rattle.std.proofs.Common.{◌∙◌, arith, inl, inr, subst}
use Rattle.std.proofs.lemmas.Bool.{cases_eq}
use Rattle.flow_cuts.specs.Sparse.{AreJoined}
use Rattle.flow_cuts.proofs.SparseLaws.{connected-from}
use Rattle.flow_cuts.proofs.sparse.sparse_side.Goals as goal

pub loop-v-preserved : goal.loop-v-preserved
loop-v-preserved c =
    let h = c.loop-v.invariant in
    let first = c.is_parted.ensures in
    let second = c.is_parted-in-loop-v.ensures in
    let there = subst (λ n. AreJoined n c.loop-v.flow.arcs 0 c.loop-v.v c.args.least) h.nodes (first.joined c.if-is_parted.false) in
    let back = subst (λ n. AreJoined n c.is_parted.new.flow.arcs c.loop-v.v 0 c.args.least) (first.nodes ∙ h.nodes) (second.joined c.if-is_parted-2.false) in
    record {
      nodes = second.nodes ∙ first.nodes ∙ h.nodes;
      arcs = second.arcs ∙ first.arcs ∙ h.arcs;
      inside = second.inside ∙ first.inside ∙ h.inside;
      outside = second.outside ∙ first.outside ∙ h.outside;
      joined = λ w low below. elim (cases_eq w c.loop-v.v) [
        | inl same ↦ rw same (subst (λ arcs. AreJoined c.args.n arcs 0 c.loop-v.v c.args.least) h.arcs there, subst (λ arcs. AreJoined c.args.n arcs c.loop-v.v 0 c.args.least) (first.arcs ∙ h.arcs) back)
        | inr other ↦ h.joined w low (omega arith)
      ];
    }

pub returns : goal.returns
returns c = connected-from c.args.n c.args.least c.args.arcs.now (λ w low below. c.loop-v.invariant.joined w low (omega arith))
