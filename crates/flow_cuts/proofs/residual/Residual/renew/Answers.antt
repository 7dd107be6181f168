use Rattle.std.proofs.Common.{◌≡◌, ◌+◌, ℕ, List, Bool, ap, sym, ◌∙◌, length, arith, subst, zero-add, Vec, Global}
use Rattle.std.specs.Vec.{with_items}
use Rattle.std.proofs.lemmas.List.{with_items_is}
use Rattle.flow_cuts.specs.declared.network.Link.{Link}
use Rattle.flow_cuts.specs.Residual.{SameEnds, SameSums, AreLinksOf}
use Rattle.flow_cuts.specs.declared.network.Cap.{Cap}
use Rattle.flow_cuts.specs.Residual.{IsFlow}
use Rattle.flow_cuts.proofs.Pushes.{IsFlow-start}
use Rattle.flow_cuts.proofs.OpenWays.{IsAdjacency-same}
use Rattle.flow_cuts.proofs.residual.Residual.renew.Goals as goal

-- the links that a call wrote through the vector, and their ends
record IsWritten (v : Vec Link Global) (whole new : List Link) : Type 0 where
  items : (with_items v new).items ≡ new
  ends : SameEnds whole new
  sums : SameSums whole new

written : (v : Vec Link Global) (whole before new : List Link) → v.items ≡ whole → before ≡ v.items → SameEnds before new → SameSums before new → IsWritten v whole new
written v whole before new is was same both =
    let P : List Link → Type 0 = λ ls. SameEnds ls new in
    let Q : List Link → Type 0 = λ ls. SameSums ls new in
    let ends : SameEnds whole new = subst P (was ∙ is) same in
    record { items = with_items_is v new (ends.len ∙ sym (ap length is) ∙ sym v.ok.0); ends = ends; sums = subst Q (was ∙ is) both }

-- what was sent from the whole links on
has_flow : (n : ℕ) (inside outside : List Bool) (arcs : List Cap) (whole before new : List Link) (answer : ℕ) → before ≡ whole → AreLinksOf arcs whole →
    (IsFlow n inside outside arcs before 0 → IsFlow n inside outside arcs new (0 + answer)) → IsFlow n inside outside arcs new answer
has_flow n inside outside arcs whole before new answer is all sends =
    let P : List Link → Type 0 = AreLinksOf arcs in
    let Q : ℕ → Type 0 = IsFlow n inside outside arcs new in
    subst Q (zero-add answer) (sends (IsFlow-start n inside outside arcs before (subst P (sym is) all)))

pub find_sides-requires-clause-adjacency : goal.find_sides-requires-clause-adjacency
find_sides-requires-clause-adjacency c =
    let w = written c.copy_from_slice.new.self c.args.whole.now c.deref_mut.result.now c.send_by_levels-answer.new.links c.copy_from_slice.ensures.items c.deref_mut.ensures.value c.send_by_levels-answer.ensures.ends c.send_by_levels-answer.ensures.sums in
    rw (c.deref.ensures.value, w.items, c.requires.outside) (IsAdjacency-same _ c.args.whole.now c.send_by_levels-answer.new.links c.args.course.now.steps w.ends c.requires.adjacency)

pub returns-clause-ready : goal.returns-clause-ready
returns-clause-ready c =
    let w = written c.copy_from_slice.new.self c.args.whole.now c.deref_mut.result.now c.send_by_levels-answer.new.links c.copy_from_slice.ensures.items c.deref_mut.ensures.value c.send_by_levels-answer.ensures.ends c.send_by_levels-answer.ensures.sums in
    record {
      ends = rw w.items w.ends;
      sums = rw w.items w.sums;
      mirror = let e = with_items_is c.args.self.now.mirror c.find_sides.new.mirror (omega (arith, c.find_sides.auto.mirror, ap length c.deref_mut-3.ensures.value, c.args.self.now.mirror.ok.0)) in
          omega (arith, ap length e, c.find_sides.auto.mirror, ap length c.deref_mut-3.ensures.value, c.requires.ready.mirror);
      marks = omega (arith, c.find_sides.ensures.marks);
      queue = omega (arith, c.find_sides.ensures.queue);
      next = let e = with_items_is c.args.self.now.next c.send_by_levels-answer.new.next (omega (arith, c.send_by_levels-answer.auto.next, ap length c.deref_mut-2.ensures.value, c.args.self.now.next.ok.0)) in
          omega (arith, ap length e, c.send_by_levels-answer.ensures.next);
      near = omega (arith, c.find_sides.ensures.near);
      far = omega (arith, c.find_sides.ensures.far);
    }

pub returns-then-answer-stop-clause-run : goal.returns-then-answer-stop-clause-run
returns-then-answer-stop-clause-run c = λ arcs all.
    let w = written c.copy_from_slice.new.self c.args.whole.now c.deref_mut.result.now c.send_by_levels-answer.new.links c.copy_from_slice.ensures.items c.deref_mut.ensures.value c.send_by_levels-answer.ensures.ends c.send_by_levels-answer.ensures.sums in
    let flow = has_flow _ c.args.course.now.inside c.args.course.now.outside arcs c.args.whole.now c.deref_mut.result.now c.send_by_levels-answer.new.links c.send_by_levels-answer.result
    (c.deref_mut.ensures.value ∙ c.copy_from_slice.ensures.items) all (c.send_by_levels-answer.ensures.flow arcs 0) in
    record {
      most = c.send_by_levels-answer.ensures.most;
      flow = rw w.items flow;
      smallest = λ short. absurd (omega (arith, c.if-answer-stop.true));
      largest = λ short. absurd (omega (arith, c.if-answer-stop.true));
    }

pub returns-clause-run : goal.returns-clause-run
returns-clause-run c = λ arcs all.
    let w = written c.copy_from_slice.new.self c.args.whole.now c.deref_mut.result.now c.send_by_levels-answer.new.links c.copy_from_slice.ensures.items c.deref_mut.ensures.value c.send_by_levels-answer.ensures.ends c.send_by_levels-answer.ensures.sums in
    let flow = has_flow _ c.args.course.now.inside c.args.course.now.outside arcs c.args.whole.now c.deref_mut.result.now c.send_by_levels-answer.new.links c.send_by_levels-answer.result
    (c.deref_mut.ensures.value ∙ c.copy_from_slice.ensures.items) all (c.send_by_levels-answer.ensures.flow arcs 0) in
    record {
      most = c.send_by_levels-answer.ensures.most;
      flow = rw w.items flow;
      smallest = λ short. rw (← c.requires.outside) (c.find_sides.ensures.smallest c.args.course.now.inside arcs c.send_by_levels-answer.result
          (rw (c.deref.ensures.value, w.items, c.requires.outside) flow)
          (rw (c.deref.ensures.value, w.items, c.requires.outside) (c.send_by_levels-answer.ensures.searched short))
          (c.send_by_levels-answer.ensures.missed short));
      largest = λ short. rw (← c.requires.outside) (c.find_sides.ensures.largest c.args.course.now.inside arcs c.send_by_levels-answer.result (sym c.requires.outside)
          (rw (c.deref.ensures.value, w.items, c.requires.outside) flow)
          (rw (c.deref.ensures.value, w.items, c.requires.outside) (c.send_by_levels-answer.ensures.searched short))
          (c.send_by_levels-answer.ensures.missed short));
    }
