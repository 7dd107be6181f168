use Rattle.problem_defs.proofs.BestLaw.{meets-best}
use Rattle.connect_run.proofs.answer.solved_text.Goals as goal

pub returns : goal.returns
returns c = record {
  cert = c.in_ok-cert.cert;
  asks = c.in_ok-cert.ensures.ask;
  meets = c.in_ok-cert.ensures.meets;
  best = meets-best c.args.graph.now c.in_ok-cert.cert c.known.ensures c.in_ok-cert.ensures.meets;
  status_is = c.verdict.ensures;
  text_is = c.in_ok-text.ensures;
}
