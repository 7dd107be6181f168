use Rattle.std.proofs.Common.{◌<◌, List, length, sym, subst, false}
use Rattle.std.specs.Prelude.{All, slice_set}
use Rattle.std.proofs.lemmas.Option.{slice_get_within}
use Rattle.lucchesi_younger.specs.Marks.{AreMarks, AreCleared, AreAdded}
use Rattle.lucchesi_younger.specs.Ways.{arcs_taken, arcs_left}
use Rattle.lucchesi_younger.proofs.Changed.{left-below, taken-below, made}
use Rattle.lucchesi_younger.specs.declared.work.Step.{Step}
use Rattle.lucchesi_younger.proofs.change.exchanged.Goals as goal

pub clear_left-requires : goal.clear_left-requires
clear_left-requires c =
    let t = c.args.task.now in
    let taken = c.in_ok-taken.taken in
    let marks = subst (λ m. AreMarks m t.work.now.join taken) c.line_count.ensures.count c.in_ok-taken.ensures in
    subst (λ (s : List Step). All (λ j. j < length (slice_set taken t.late false)) (arcs_left s)) (sym c.as_slice.ensures)
    (left-below t.graph.now t.work.now t.late t.line.tail t.line.head c.requires.kept c.args.steps.now c.requires.way taken marks)

pub add_taken-requires : goal.add_taken-requires
add_taken-requires c =
    let t = c.args.task.now in
    let taken = c.in_ok-taken.taken in
    let marks = subst (λ m. AreMarks m t.work.now.join taken) c.line_count.ensures.count c.in_ok-taken.ensures in
    subst (λ (s : List Step). All (λ j. j < length c.clear_left.new.marks) (arcs_taken s)) (sym c.as_slice-2.ensures)
    (taken-below t.graph.now t.work.now t.late t.line.tail t.line.head c.requires.kept c.args.steps.now c.requires.way taken marks c.clear_left.new.marks c.clear_left.ensures.long)

pub returns : goal.returns
returns c =
    let t = c.args.task.now in
    let taken = c.in_ok-taken.taken in
    let marks = subst (λ m. AreMarks m t.work.now.join taken) c.line_count.ensures.count c.in_ok-taken.ensures in
    made t.graph.now t.work.now t.late t.line.tail t.line.head c.requires.kept c.args.steps.now c.requires.way taken marks
    c.clear_left.new.marks c.add_taken.new.marks c.in_ok-join.join
    (subst (λ (s : List Step). AreCleared (arcs_left s) (slice_set taken t.late false) c.clear_left.new.marks) c.as_slice.ensures c.clear_left.ensures)
    (subst (λ (s : List Step). AreAdded (arcs_taken s) c.clear_left.new.marks c.add_taken.new.marks) c.as_slice-2.ensures c.add_taken.ensures)
    c.in_ok-join.ensures
    (slice_get_within t.graph.now.lines t.late t.line t.arc)
