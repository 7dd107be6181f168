use Rattle.std.proofs.Common.{rules, length, ap, ◌∙◌, false}
use Rattle.std.proofs.lemmas.List.{length-replicate}
use Rattle.flow_cuts.proofs.residual.Residual.new.Goals as goal

pub returns : goal.returns
returns c = record {
  ends = search rules;
  sums = search rules;
  mirror = search rules;
  marks = search rules;
  queue = search rules;
  next = search rules;
  near = ap length c.in_ok-near.ensures ∙ length-replicate c.args.n false;
  far = ap length c.in_ok-far.ensures ∙ length-replicate c.args.n false;
}
