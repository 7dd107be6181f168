use Rattle.std.proofs.Common.{◌≡◌, ◌<◌, ◌++◌, ℕ, length, take, drop, get_or, sym, ap, ◌∙◌, arith, subst, inl, inr}
use Rattle.std.specs.Prelude.{slice_index}
use Rattle.std.proofs.lemmas.List.{with_items_is, get_or_default}
use Rattle.graph_core.specs.Graph.{no_line}
use Rattle.graph_core.specs.Labels.{joined}
use Rattle.nw_orientation.specs.Thin.{IsGrowing}
use Rattle.nw_orientation.proofs.ThinLaws.{growing-left, growing-more, forest-grown}
use Rattle.nw_orientation.proofs.thin.grow_forest.Goals.{then-not-marks-j+then-tail-head, else-not-marks-j, else-not-marks-j-via-then-not-marks-j+else-tail-head, else-not-marks-j-via-else-not-marks-j}
use Rattle.nw_orientation.proofs.thin.grow_forest.Goals as goal

pub loop-j-preserved : goal.loop-j-preserved
loop-j-preserved c =
    let n = c.args.n in
    let ls = c.args.lines.now in
    let old = c.loop-j.labels in
    let ms = c.loop-j.marks in
    let j = c.loop-j.j in
    let g = c.loop-j.invariant in
    let l = get_or ls j no_line in
    let f = c.requires.ends j no_line (omega arith) in
    let tail : slice_index old.items l.tail ≡ c.index-tail.result.now = get_or_default old.items l.tail 0 c.index-tail.result.now (omega (arith, f.tail, g.labels_long)) ∙ sym c.index-tail.ensures in
    let head : slice_index old.items l.head ≡ c.index-head.result.now = get_or_default old.items l.head 0 c.index-head.result.now (omega (arith, f.head, g.labels_long)) ∙ sym c.index-head.ensures in
    elim c.if-not-marks-j.branch [
      | then-not-marks-j+then-tail-head w ↦
          let new = w.relabel.new.labels in
          let long : length new ≡ length old.items = omega (arith, w.relabel.ensures.long, ap length w.deref_mut.ensures.value) in
          let whole : take old.len (new ++ drop (length new) old.items) ≡ new = with_items_is old new (long ∙ sym old.ok.0) in
          let labels : c.if-not-marks-j.labels.items ≡ new = ap (λ v. v.items) w.labels-is ∙ whole in
          let merged : (v : ℕ) → v < n → slice_index new v ≡ joined (slice_index old.items) (slice_index old.items l.tail) (slice_index old.items l.head) v =
          λ v lv. rw (tail, head) ((rw w.deref_mut.ensures.value at w.relabel.ensures.joined) v (omega (arith, g.labels_long))) in
          rw (labels, w.marks-is) (growing-more n ls c.requires.ends c.args.marks.now j old.items ms g (omega arith) new w.if-not-marks-j.true (long ∙ g.labels_long) merged)
      | else-not-marks-j w ↦ rw (w.labels-is, w.marks-is) (growing-left n ls c.requires.ends c.args.marks.now j old.items ms g (omega arith) (elim w.else-not-marks-j.branch [
        | else-not-marks-j-via-then-not-marks-j+else-tail-head w' ↦ inr (tail ∙ w'.if-tail-head.false ∙ sym head)
        | else-not-marks-j-via-else-not-marks-j w' ↦ inl w'.if-not-marks-j.false
      ]))
    ]

pub returns : goal.returns
returns c =
    let all : c.loop-j.j ≡ length c.args.lines.now = omega arith in
    forest-grown c.args.n c.args.lines.now c.args.marks.now c.loop-j.labels.items c.loop-j.marks c.requires.ends
    (subst (λ j. IsGrowing c.args.n c.args.lines.now c.args.marks.now j c.loop-j.labels.items c.loop-j.marks) all c.loop-j.invariant)
