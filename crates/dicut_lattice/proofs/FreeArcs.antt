-- Arcs that aren't fixed, and dijoins made of them.
use Rattle.std.specs.Prelude.{ℕ, ◌≡◌, ◌↔◌, Bool, true, false, not, ◌&&◌, List, filter, IsTrue, MatchOption, Option, Some, None, All}
use Rattle.std.specs.Option.{is_some}
use Rattle.std.proofs.Common.{sym, ap, ◌∙◌, arith}
use Rattle.std.proofs.lemmas.Bool.{not-false}
use Rattle.std.proofs.lemmas.List.Elements.{All-weaker}
use Rattle.graph_core.specs.Graph.{GraphValue}
use Rattle.graph_core.specs.Lines.{enters, entering}
use Rattle.graph_core.specs.Picked.{picked, ArePicks}
use Rattle.graph_core.specs.declared.graph.Line.{Line}
use Rattle.graph_core.proofs.Counting.{weight, none-pass, sum_by-agree, sum_by-zero}
use Rattle.graph_core.proofs.SizeLaws.{count-filter}
use Rattle.problem_defs.specs.Dijoin.{IsFeasible, Forbids}
use Rattle.dicut_lattice.specs.Uncovered.{NoneForbids, IsUncovered, AreCovered}

abbrev free : Line → Bool
free l = not l.fixed

both_fixed : (a f : Bool) → (not f && a) ≡ false → a ≡ true → f ≡ true
both_fixed a f h k = grind arith

fixed_both : (a f : Bool) → (a ≡ true → f ≡ true) → weight (not f && a) ≡ 0
fixed_both a f h = grind arith

module _ (g : GraphValue) where
  -- none of the arcs that aren't fixed enters U
  pub forbids-uncovered : (U : List Bool) → IsUncovered g (filter free g.lines) U → Forbids g U
  forbids-uncovered U un =
      let none = none-pass (λ l. free l && enters U l) g.lines (sym (count-filter (enters U) free g.lines) ∙ un.none) in
      record {
        closed = un.closed;
        fixed = All-weaker (λ l. (free l && enters U l) ≡ false) (λ l. enters U l ≡ true → l.fixed ≡ true) (λ l h in'. both_fixed (enters U l) l.fixed h in') g.lines none;
      }

  uncovered-forbids : (U : List Bool) → Forbids g U → entering U (filter free g.lines) ≡ 0
  uncovered-forbids U f =
      count-filter (enters U) free g.lines
      ∙ sum_by-agree (λ l. weight (free l && enters U l)) (λ _. 0) g.lines (All-weaker (λ l. enters U l ≡ true → l.fixed ≡ true) (λ l. weight (free l && enters U l) ≡ 0) (λ l h. fixed_both (enters U l) l.fixed h) g.lines f.fixed)
      ∙ sum_by-zero g.lines

  pub blocked-found : (found : Option (List Bool)) → MatchOption found (AreCovered g (filter free g.lines)) (IsUncovered g (filter free g.lines)) → MatchOption found (NoneForbids g) (Forbids g)
  blocked-found None all = λ U f. let c = all U f.closed in absurd (omega (arith, uncovered-forbids U f))
  blocked-found (Some U) un = forbids-uncovered U un

  -- it is told whether one of the arcs enters each closed side, by what was found
  pub covered-found : (arcs : List Line) (found : Option (List Bool)) (all : Bool) → MatchOption found (AreCovered g arcs) (IsUncovered g arcs) → is_some found ≡ not all → IsTrue all ↔ AreCovered g arcs
  covered-found arcs None all h e = (λ _. h, λ _. not-false all (sym e))
  covered-found arcs (Some U) all un e = (
    λ is. absurd (let no : true ≡ false = e ∙ ap not is in cc),
    λ each. absurd (let some = each U un.closed in let none = un.none in omega arith),
  )

  pub feasible-covered : (js : List ℕ) (all : Bool) → ArePicks g.lines js → All (λ l. l.fixed ≡ false) (picked g.lines js) → IsTrue all ↔ AreCovered g (picked g.lines js) → IsTrue all ↔ IsFeasible g js
  feasible-covered js all picks unfixed is = (λ yes'. record { picks = picks; free = unfixed; covers = is.0 yes' }, λ f. is.1 f.covers)
