use Rattle.std.proofs.Common.{refl}
use Rattle.certificate_text.proofs.TextLaws.{found-back}
use Rattle.certificate_text.proofs.law.reads_back.Goals as goal

pub returns-clause-found : goal.returns-clause-found
returns-clause-found c = found-back

pub returns-clause-never_bad : goal.returns-clause-never_bad
returns-clause-never_bad c = λ g cert rest line shaped bad. bad.no_text cert rest shaped refl
