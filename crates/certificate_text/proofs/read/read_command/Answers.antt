use Rattle.certificate_text.proofs.FrontLaws.{command-found}
use Rattle.certificate_text.proofs.read.read_command.Goals as goal

pub returns : goal.returns
returns c = command-found c.args.graph.now c.args.line.now c.in_ok-found.found c.command_of.result c.known.ensures c.in_ok-found.ensures c.command_of.ensures
