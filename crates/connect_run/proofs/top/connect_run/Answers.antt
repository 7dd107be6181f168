use Rattle.connect_run.proofs.ExactLemmas.{exact, complete}
use Rattle.connect_run.proofs.top.connect_run.Goals as goal

pub returns-clause-exact : goal.returns-clause-exact
returns-clause-exact g c = exact _ _ _ _ _ c.serve.ensures.written

pub returns-clause-complete : goal.returns-clause-complete
returns-clause-complete g c = complete _ _ _ _ _ c.serve.ensures.written
