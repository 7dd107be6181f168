use Rattle.std.proofs.Common.{◌≡◌, ◌+◌, ◌<◌, false, length, sum, ap, sym, subst, ◌∙◌, arith}
use Rattle.std.proofs.lemmas.Bool.{OnFalse_at, not-false}
use Rattle.std.proofs.lemmas.Option.{get_or_from_slice_get}
use Rattle.std.proofs.lemmas.List.Sums.{get_or-le-sum_by}
use Rattle.lucchesi_younger.specs.Kept.{at, AllKept}
use Rattle.lucchesi_younger.specs.Spent.{IsSpent, IsRaised}
use Rattle.lucchesi_younger.proofs.Costs.{sum-le-sum}
use Rattle.lucchesi_younger.proofs.Spent.{spent-raised, spent-more, spent-same}
use Rattle.lucchesi_younger.specs.declared.held.Held.{Held}
use Rattle.lucchesi_younger.specs.declared.work.Work.{Work}
use Rattle.lucchesi_younger.proofs.raise.raise_held.Goals.{then-not-line+in_ok-other+else-other, else-not-line}
use Rattle.lucchesi_younger.proofs.raise.raise_held.Goals as goal

pub raise_arc-requires-clause-room : goal.raise_arc-requires-clause-room
raise_arc-requires-clause-room c =
    let costs = c.args.costs.now in
    let i = c.arcs.number in
    let below : i < length costs = omega (arith, c.requires.long, c.line_count-number-end.ensures.count, c.arcs-test.true) in
    let is = get_or_from_slice_get costs i c.item.result.now 0 c.item.ensures in
    let now = sum-le-sum c.arcs.work.costs costs (c.arcs.invariant.kept.costs_long ∙ sym c.requires.long) c.arcs.invariant.spent.within in
    omega (arith, get_or-le-sum_by (λ n. n) costs i 0 below, c.requires.room)

pub returns-then-other-clause-spent : goal.returns-then-other-clause-spent
returns-then-other-clause-spent c =
    let costs = c.args.costs.now in
    let i = c.arcs.number in
    let is = get_or_from_slice_get costs i c.item.result.now 0 c.item.ensures in
    let raised = subst (λ n. IsRaised i n c.arcs.work.costs c.raise_arc.new.work.costs c.in_ok-other.other) (sym is) c.in_ok-other.ensures.raised in
    spent-raised c.args.graph.now.lines costs i c.arcs.work.costs c.arcs.invariant.spent c.raise_arc.new.work.costs c.in_ok-other.other raised

pub arcs-preserved : goal.arcs-preserved
arcs-preserved c =
    let g = c.args.graph.now in
    let costs = c.args.costs.now in
    let i = c.arcs.number in
    let was = c.arcs.work in
    let known = c.arcs.invariant in
    elim c.if-not-line.branch [
      | then-not-line+in_ok-other+else-other w ↦
          let new = w.raise_arc.new.work in
          let more = w.in_ok-other.ensures in
          let is = get_or_from_slice_get costs i w.item.result.now 0 w.item.ensures in
          let raised : IsRaised i (at costs i) was.costs new.costs false =
          subst (λ b. IsRaised i (at costs i) was.costs new.costs b) w.if-other.false (subst (λ n. IsRaised i n was.costs new.costs w.in_ok-other.other) (sym is) more.raised) in
          let within = known.spent.within i in
          let sums = raised.sums in
          let done : at new.costs i ≡ at costs i = raised.done in
          let same = ap (λ (x : Work). sum x.costs) w.work-is in
          record {
            kept = subst (λ x. AllKept g x) (sym w.work-is) more.kept;
            spent = subst (λ (x : Work). IsSpent g.lines costs (i + 1) x.costs) (sym w.work-is) (spent-more g.lines costs i was.costs known.spent new.costs raised);
            sums = omega (arith, known.sums);
            join = ap (λ (x : Work). x.join) w.work-is ∙ OnFalse_at {P = new.join ≡ was.join} w.if-other.false more.join ∙ known.join;
            held = ap (λ (h : Held). h.kernels) w.held-is ∙ OnFalse_at {P = w.raise_arc.new.held.kernels ≡ c.arcs.held.kernels} w.if-other.false more.held ∙ known.held;
          }
      | else-not-line w ↦
          let same = ap (λ (x : Work). sum x.costs) w.work-is in
          record {
            kept = subst (λ x. AllKept g x) (sym w.work-is) known.kept;
            spent = subst (λ (x : Work). IsSpent g.lines costs (i + 1) x.costs) (sym w.work-is)
                (spent-same g.lines costs i was.costs known.spent c.line.result c.line.ensures (not-false c.line.result.fixed w.if-not-line.false));
            sums = omega (arith, known.sums);
            join = ap (λ (x : Work). x.join) w.work-is ∙ known.join;
            held = ap (λ (h : Held). h.kernels) w.held-is ∙ known.held;
          }
    ]
