use Rattle.std.proofs.Common.{◌≡◌, length, leb, sym, subst, ◌∙◌}
use Rattle.std.proofs.lemmas.Bool.{both_ways}
use Rattle.std.proofs.lemmas.List.{length-map}
use Rattle.graph_core.specs.Side.{IsProper}
use Rattle.dicut_lattice.specs.Tight.{TightValue}
use Rattle.dicut_lattice.specs.Level.{IsLevel, ArePieces}
use Rattle.lucchesi_younger.specs.Kept.{level}
use Rattle.lucchesi_younger.proofs.Built.{proper-level, no-pieces}
use Rattle.lucchesi_younger.proofs.dual.pieces_at.Goals as goal

pub returns-then-not-is_proper-clause-pieces : goal.returns-then-not-is_proper-clause-pieces
returns-then-not-is_proper-clause-pieces c =
    let g = c.args.graph.now in
    let w = c.args.work.now in
    let L = level w.potential c.args.least in
    let long : length L ≡ length g.names = length-map w.potential (λ p. leb c.args.least p) ∙ c.requires.kept.potential_long in
    subst (λ P. ArePieces g w.join L P) (sym c.new.ensures)
    (no-pieces g c.known.ensures.makes.ends w (length g.lines) c.requires.kept L long
    (λ p. both_ways c.is_proper.result c.if-not-is_proper.true (c.is_proper.ensures.1 (subst (λ X. IsProper (length X) X) (sym c.in_ok-level.ensures) (subst (λ n. IsProper n L) (sym long) p)))))

pub pieces_of_level-requires : goal.pieces_of_level-requires
pieces_of_level-requires c =
    let g = c.args.graph.now in
    let w = c.args.work.now in
    let L = level w.potential c.args.least in
    let long : length L ≡ length g.names = length-map w.potential (λ p. leb c.args.least p) ∙ c.requires.kept.potential_long in
    let proper = subst (λ n. IsProper n L) long (subst (λ X. IsProper (length X) X) c.in_ok-level.ensures (c.is_proper.ensures.0 c.if-not-is_proper.false)) in
    subst (λ (t : TightValue). IsLevel t.graph t.join c.in_ok-level.level) (sym c.requires.tight)
    (subst (λ X. IsLevel g w.join X) (sym c.in_ok-level.ensures) (proper-level g c.known.ensures.makes.ends w (length g.lines) c.requires.kept c.args.least c.requires.some proper))

pub returns-clause-pieces : goal.returns-clause-pieces
returns-clause-pieces c =
    let g = c.args.graph.now in
    let w = c.args.work.now in
    let P = c.in_ok-pieces.pieces in
    subst (λ X. ArePieces g w.join X P) c.in_ok-level.ensures (subst (λ (t : TightValue). ArePieces t.graph t.join c.in_ok-level.level P) c.requires.tight c.in_ok-pieces.ensures.pieces)
