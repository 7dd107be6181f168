use Rattle.certificate_text.specs.declared.line.CertLine.TheVariants.{Title}
use Rattle.certificate_text.proofs.FrontLaws.{found-it, said}
use Rattle.certificate_text.proofs.read.reads_title.Goals as goal

pub returns : goal.returns
returns c =
    let g = c.args.graph.now in (
      λ t. (said g c.args.line.now c.in_ok-found.found Title c.in_ok-found.ensures (c.is_title.ensures.0 t)).1,
      λ same. c.is_title.ensures.1 (found-it g c.args.line.now c.in_ok-found.found Title c.known.ensures c.in_ok-found.ensures tt same),
    )
