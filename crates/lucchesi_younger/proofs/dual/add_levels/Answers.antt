use Rattle.std.proofs.Common.{◌+◌, length, sym, subst, arith}
use Rattle.dicut_lattice.specs.Level.{ArePieces}
use Rattle.lucchesi_younger.specs.Kept.{IsBuilt}
use Rattle.lucchesi_younger.proofs.Built.{level-same, built-more}
use Rattle.lucchesi_younger.proofs.dual.add_levels.Goals as goal

pub levels-preserved : goal.levels-preserved
levels-preserved c =
    let g = c.args.graph.now in
    let w = c.args.work.now in
    let fits = c.known.ensures.makes.ends in
    let i = c.levels.at in
    let below = c.args.below in
    let P = c.in_ok-pieces.pieces in
    let same = level-same w.potential below (i + 1) (λ v high. let far = c.requires.none v high in omega arith) (omega arith) in
    subst (λ s. IsBuilt g w (i + 1) s) (sym c.in_ok-append.ensures)
    (built-more g fits w (length g.lines) c.requires.kept i c.levels.sides c.levels.invariant P (subst (λ L. ArePieces g w.join L P) (sym same) c.in_ok-pieces.ensures.pieces))
