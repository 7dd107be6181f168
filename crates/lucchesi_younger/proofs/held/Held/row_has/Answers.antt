use Rattle.std.proofs.Common.{◌≡◌, sym, ◌∙◌}
use Rattle.std.specs.Prelude.{Some, None}
use Rattle.std.proofs.lemmas.Bool.{OnFalse_from}
use Rattle.std.proofs.lemmas.Option.{get_or_from_slice_get}
use Rattle.dicut_lattice.specs.Tight.{AreSeparated}
use Rattle.lucchesi_younger.specs.Rows.{row}
use Rattle.lucchesi_younger.proofs.SideSearch.{separated-unless}
use Rattle.lucchesi_younger.proofs.held.Held.row_has.Goals as goal

pub returns-clause-no : goal.returns-clause-no
returns-clause-no c =
    let h = c.args.self.now in
    let t = h.kernels in
    let K = c.in-Some.kernel in
    let is : row h.rows c.args.node ≡ Some K = get_or_from_slice_get h.rows c.args.node c.item.result.now None c.item.ensures ∙ c.in-Some.is in
    let known = h.each c.args.node K is in
    OnFalse_from c.has.result (AreSeparated t.graph t.join c.args.node c.args.other)
    (λ out. separated-unless t.graph t.join c.args.node c.args.other c.requires.other (known.outside c.args.other c.requires.other (sym c.has.ensures ∙ out)))
