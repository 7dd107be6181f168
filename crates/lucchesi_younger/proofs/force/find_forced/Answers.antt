use Rattle.std.proofs.Common.{◌≡◌, true, length, subst, arith}
use Rattle.graph_core.specs.Graph.{Fits}
use Rattle.graph_core.specs.Side.{has}
use Rattle.graph_core.proofs.Counting.{All-slice_get}
use Rattle.lucchesi_younger.specs.Forcing.{IsUnforced}
use Rattle.lucchesi_younger.proofs.force.find_forced.Goals as goal

pub has-requires : goal.has-requires
has-requires c =
    let t = c.args.task.now in
    let fits = All-slice_get (Fits (length t.graph.now.names)) t.graph.now.lines c.known.ensures.makes.ends t.late t.line t.arc in
    omega (arith, fits.tail, c.in_ok-search.ensures.search.long)

pub scan_place-requires-clause-wanted : goal.scan_place-requires-clause-wanted
scan_place-requires-clause-wanted c =
    let t = c.args.task.now in
    let fits = All-slice_get (Fits (length t.graph.now.names)) t.graph.now.lines c.known.ensures.makes.ends t.late t.line t.arc in
    fits.tail

pub returns-clause-forced : goal.returns-clause-forced
returns-clause-forced c =
    let t = c.args.task.now in
    let reached = c.places.search.reached in
    let s = c.places.invariant.search in
    let end = c.places-test.false in
    let count = c.len.ensures in (
      s.long,
      subst (λ u. has reached u ≡ true) c.places.invariant.start (s.marked 0 s.some),
      c.places.invariant.fresh,
      λ u v in_u v_in out.
          let (i, i_in, is) = s.queued u in_u in
          subst (λ x. IsUnforced t.graph.now t.work.now t.late x v) is (s.full i v (omega arith) v_in out),
    )
