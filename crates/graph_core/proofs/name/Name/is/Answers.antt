use Rattle.std.proofs.Common.{◌∙◌}
use Rattle.std.proofs.lemmas.Bool.Decides.{Decides-eqb}
use Rattle.std.proofs.lemmas.Slice.Eq.{slice_eq-Decides}
use Rattle.graph_core.proofs.name.Name.is.Goals as goal

pub returns : goal.returns
returns c =
    let mine = c.as_slice.ensures.value ∙ c.self.view_is in
    rw (← mine) (slice_eq-Decides Decides-eqb c.as_slice.result.now c.args.bytes.now c.eq.result c.eq.ensures)
