use Rattle.std.proofs.Common.{◌≡◌, ◌∙◌, false, get_or, length, sym, subst, ◌+◌}
use Rattle.std.proofs.lemmas.Option.{slice_get-get_or}
use Rattle.graph_core.specs.Graph.{Fits, no_line}
use Rattle.graph_core.specs.Side.{has}
use Rattle.graph_core.proofs.Counting.{All-slice_get}
use Rattle.dicut_lattice.specs.Spread.{IsCommon}
use Rattle.dicut_lattice.proofs.Spreading.{common-more, common-skip}
use Rattle.dicut_lattice.proofs.kernel.meet_spreads.Goals.{then-has, else-has}
use Rattle.dicut_lattice.proofs.kernel.meet_spreads.Goals as goal

pub loop-skip-preserved : goal.loop-skip-preserved
loop-skip-preserved c =
    let g = c.args.reach.now in
    let arcs = c.args.arcs.now in
    let k = c.loop-skip.skip in
    let K = c.loop-skip.into in
    let line = get_or arcs k no_line in
    let at = slice_get-get_or arcs k no_line c.loop-skip-test.true in
    let known = c.loop-skip.invariant in
    elim c.if-has.branch [
      | then-has w ↦ rw (w.work-is, w.into-is) (record {
        long = w.spread.ensures.spreading.long ∙ sym c.requires.long;
        common = subst (IsCommon g arcs (k + 1) c.args.y) (sym w.meet.ensures.intersection) (common-more K w.spread.new.into known.common w.spread.ensures);
      })
      | else-has w ↦
          let fits = All-slice_get (Fits (length g.names)) arcs c.requires.fit k line at in
          let out : has K line.head ≡ false = sym c.has.ensures ∙ w.if-has.false in
          rw (w.work-is, w.into-is) (record { long = known.long; common = common-skip K line at fits.head out known.common })
    ]
