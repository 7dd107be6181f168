use Rattle.certificate_checker.proofs.OneAnswer.{accepted-alone, one-reason}
use Rattle.certificate_checker.proofs.law.one_answer.Goals as goal

pub returns-clause-accepted_alone : goal.returns-clause-accepted_alone
returns-clause-accepted_alone c = accepted-alone

pub returns-clause-one_reason : goal.returns-clause-one_reason
returns-clause-one_reason c = one-reason
