use Rattle.std.proofs.Common.{◌≡◌, get_or, length, subst, arith}
use Rattle.std.proofs.lemmas.Option.{slice_get-get_or}
use Rattle.graph_core.specs.Graph.{no_line}
use Rattle.dicut_lattice.specs.Spread.{IsCounted, HasPassed}
use Rattle.dicut_lattice.proofs.Spreading.{counted-more, passed-all, passed-skip, passed-stay, passed-step}
use Rattle.dicut_lattice.proofs.kernel.pass.Goals as goal
use Rattle.dicut_lattice.proofs.kernel.pass.Goals.{then-place-skip+then-go_back, else-place-skip, else-place-skip-via-then-place-skip+else-go_back, else-place-skip-via-else-place-skip}

pub loop-seen-preserved : goal.loop-seen-preserved
loop-seen-preserved c =
    let arcs = c.args.arcs.now in
    let place = c.counted-place.result in
    let line = get_or arcs place no_line in
    let at = slice_get-get_or arcs place no_line c.counted-place.ensures.within in
    let split = counted-more c.args.last (length arcs) c.loop-seen.seen place c.counted-place.ensures.is in
    let before = c.loop-seen.invariant in
    elim c.if-place-skip.branch [
      | then-place-skip+then-go_back w ↦ rw (w.into-is, w.grew-is) (passed-step split line before at w.if-place-skip.true (rw w.if-go_back.true at w.go_back.ensures))
      | else-place-skip w ↦ elim w.else-place-skip.branch [
        | else-place-skip-via-then-place-skip+else-go_back w' ↦ rw (w.into-is, w'.into-is, w.grew-is) (passed-stay split line before at (rw w'.if-go_back.false at w'.go_back.ensures))
        | else-place-skip-via-else-place-skip w' ↦ rw (w.into-is, w'.into-is, w.grew-is) (passed-skip split before w'.if-place-skip.false)
      ]
    ]

pub returns : goal.returns
returns c =
    let m = length c.args.arcs.now in
    let all : c.loop-seen.seen ≡ m = omega (arith, c.loop-seen.auto.seen-end, c.loop-seen-test.false) in
    passed-all c.args.last c.loop-seen.grew
    (subst (λ k. HasPassed c.args.reach.now c.args.arcs.now c.args.skip (IsCounted c.args.last m k) c.args.into.now c.loop-seen.grew c.loop-seen.into) all c.loop-seen.invariant)
