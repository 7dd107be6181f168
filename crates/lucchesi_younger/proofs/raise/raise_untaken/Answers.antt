use Rattle.std.proofs.Common.{◌≤◌, ℕ, false, sym, ap, subst, ◌∙◌, arith}
use Rattle.std.specs.Prelude.{slice_set, ◌+◌}
use Rattle.std.proofs.lemmas.Bool.{both_ways, not-true, not-false}
use Rattle.std.proofs.lemmas.Option.{get_or_from_slice_get}
use Rattle.lucchesi_younger.specs.Kept.{at, IsIn, AllKept}
use Rattle.lucchesi_younger.specs.Spent.{IsRaised, AreRisen}
use Rattle.lucchesi_younger.proofs.Costs.{dearer-free, raised-free}
use Rattle.lucchesi_younger.proofs.Spent.{still-within, risen-more, risen-same}
use Rattle.lucchesi_younger.specs.declared.work.Work.{Work}
use Rattle.lucchesi_younger.proofs.raise.raise_untaken.Goals.{then-not-line+then-not-item, else-not-line, else-not-line-via-then-not-line+else-not-item, else-not-line-via-else-not-line}
use Rattle.lucchesi_younger.proofs.raise.raise_untaken.Goals as goal

pub arcs-preserved : goal.arcs-preserved
arcs-preserved c =
    let g = c.args.graph.now in
    let join = c.args.work.now.join in
    let costs = c.args.costs.now in
    let old = c.args.work.now.costs in
    let i = c.arcs.number in
    let was = c.arcs.work in
    let known = c.arcs.invariant in
    let l = c.line.result in
    let taken = c.in_ok-taken.taken in
    let marks = c.in_ok-taken.ensures in
    elim c.if-not-line.branch [
      | then-not-line+then-not-item w ↦
          let new = w.raise_free.new.work in
          let wrote = w.raise_free.ensures in
          let cost = w.item-then-not-item.result.now in
          let is = get_or_from_slice_get costs i cost 0 w.item-then-not-item.ensures in
          let marked = get_or_from_slice_get taken i w.item.result.now false w.item.ensures in
          let out : IsIn join i → ⊥ = (λ h. both_ways w.item.result.now w.if-not-item.true (sym marked ∙ marks.all i h)) in
          let below : at was.costs i ≤ cost = omega (arith, known.within i, is) in
          let inside = c.arcs-test.true in
          let count = c.line_count-number-end.ensures.count in
          let raised = subst (λ x. IsRaised i (at costs i) was.costs x false) (sym wrote.costs) (subst (λ n. IsRaised i (at costs i) was.costs (slice_set was.costs i n) false) is
          (raised-free g was known.kept i (omega arith) (at costs i) (known.within i))) in
          record {
            kept = subst (λ x. AllKept g x) (sym w.work-is) (dearer-free g was known.kept i (omega arith) cost below (λ h. out (subst (λ js. IsIn js i) known.join h)) new wrote.join wrote.costs wrote.potential);
            within = subst (λ (x : Work). (j : ℕ) → at x.costs j ≤ at costs j) (sym w.work-is) (still-within costs was.costs new.costs i false known.within raised);
            risen = subst (λ (x : Work). AreRisen g.lines join costs (i + 1) old x.costs) (sym w.work-is) (risen-more g.lines join costs i old was.costs known.risen l c.line.ensures (not-true l.fixed w.if-not-line.true) out new.costs raised);
            join = ap (λ (x : Work). x.join) w.work-is ∙ wrote.join ∙ known.join;
          }
      | else-not-line w ↦
          record {
            kept = subst (λ x. AllKept g x) (sym w.work-is) known.kept;
            within = subst (λ (x : Work). (j : ℕ) → at x.costs j ≤ at costs j) (sym w.work-is) known.within;
            risen = subst (λ (x : Work). AreRisen g.lines join costs (i + 1) old x.costs) (sym w.work-is) (risen-same g.lines join costs i old was.costs known.risen l c.line.ensures (λ free out. elim w.else-not-line.branch [
              | else-not-line-via-then-not-line+else-not-item v ↦ out (marks.each i (get_or_from_slice_get taken i v.item.result.now false v.item.ensures ∙ v.if-not-item.false))
              | else-not-line-via-else-not-line v ↦ both_ways l.fixed free (not-false l.fixed v.if-not-line.false)
            ]));
            join = ap (λ (x : Work). x.join) w.work-is ∙ known.join;
          }
    ]
