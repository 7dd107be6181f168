use Rattle.graph_text.proofs.BackLemmas.{plain_text-ReadsText, plain_text-IsTextAlone}
use Rattle.graph_text.proofs.law.plain_text_reads_back.Goals as goal

pub returns-clause-front : goal.returns-clause-front
returns-clause-front c = plain_text-ReadsText

pub returns-clause-alone : goal.returns-clause-alone
returns-clause-alone c = plain_text-IsTextAlone
