use Rattle.certificate_text.proofs.TextLaws.{no-prefix}
use Rattle.certificate_text.proofs.law.no_prefix.Goals as goal

pub returns : goal.returns
returns c = no-prefix
