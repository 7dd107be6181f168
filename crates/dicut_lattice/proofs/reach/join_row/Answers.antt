use Rattle.std.proofs.Common.{◌≡◌, ◌∙◌, sym, ap, subst, [], length, true}
use Rattle.std.proofs.lemmas.Option.{get_or_from_slice_get}
use Rattle.graph_core.specs.Side.{has}
use Rattle.dicut_lattice.specs.Reach.{leads, AreSquare}
use Rattle.dicut_lattice.proofs.Rows.{join-square, join-leads}
use Rattle.dicut_lattice.proofs.reach.join_row.Goals as goal

pub returns-clause-square : goal.returns-clause-square
returns-clause-square c =
    let rows = c.args.rows.now in
    subst (AreSquare (length rows)) (sym c.join_items.ensures) (join-square rows c.requires.square c.args.v c.args.k c.requires.v_in c.requires.k_in)

pub returns-clause-here : goal.returns-clause-here
returns-clause-here c w =
    let rows = c.args.rows.now in
    let has_k : leads rows c.args.v c.args.k ≡ true = ap (λ X. has X c.args.k) (get_or_from_slice_get rows c.args.v c.item.result.now [] c.item.ensures) ∙ sym c.has.ensures ∙ c.if-not-has.false in
    ap (λ new. leads new c.args.v w) c.join_items.ensures ∙ join-leads rows c.requires.square c.args.v c.args.k c.requires.v_in c.requires.k_in has_k w
