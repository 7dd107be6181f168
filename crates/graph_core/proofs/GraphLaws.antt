-- What holds of every graph holds of one with more lines, and of one without numbers or costs.
use Rattle.std.specs.Prelude.{ℕ, ◌≡◌, ◌+◌, ◌≤◌, false, List, length, All, refl}
use Rattle.std.proofs.Common.{arith, get_or, length-append, lit≤}
use Rattle.std.proofs.lemmas.List.{length-map, length-replicate}
use Rattle.std.proofs.lemmas.List.Elements.{All-append, All-map, All-replicate, All-weaker}
use Rattle.std.proofs.lemmas.List.Folds.{sum_by-replicate}
use Rattle.graph_core.specs.declared.graph.Kind.{Kind}
use Rattle.graph_core.specs.declared.graph.Line.{Line}
use Rattle.graph_core.specs.Graph.{GraphValue, Fits, IsGraph, IsPriced, AreNumbers, line_of, lines_of, no_numbers, with_lines}

-- a line of cost 1, whatever it is
pub IsPriced-one : (kind : Kind) (l : Line) → l.cost ≡ 1 → IsPriced kind l
IsPriced-one kind l one = record { most = omega (arith, one); edge = λ _. one; fixed = λ _. one }

pub all-priced : (kind : Kind) (ls : List Line) → All (λ l. l.cost ≡ 1) ls → All (IsPriced kind) ls
all-priced kind ls ones = All-weaker (λ l. l.cost ≡ 1) (IsPriced kind) (IsPriced-one kind) ls ones

pub AreNumbers-none : (n : ℕ) → AreNumbers n (no_numbers n)
AreNumbers-none n = record {
  long = length-replicate n 0;
  most = All-replicate (λ x. x ≤ 8192) n 0 (lit≤ tt);
  total = omega (arith, sum_by-replicate (λ x. x) n 0);
}

-- the lines of pairs that fit may be appended, while there is room
pub IsGraph-with_lines : (g : GraphValue) (pairs : List (ℕ × ℕ)) → IsGraph g → All (λ p. Fits (length g.names) (line_of p)) pairs → length g.lines + length pairs ≤ 65536 → IsGraph (with_lines g (lines_of pairs))
IsGraph-with_lines g pairs h fit room = record {
  makes = record {
    some = h.makes.some;
    nodes = h.makes.nodes;
    few = rw (length-append g.lines (lines_of pairs), length-map pairs line_of) room;
    distinct = h.makes.distinct;
    ends = All-append (Fits (length g.names)) g.lines (lines_of pairs) h.makes.ends (All-map (Fits (length g.names)) line_of pairs fit);
    free = λ undirected. All-append (λ l. l.fixed ≡ false) g.lines (lines_of pairs) (h.makes.free undirected) (All-map (λ l. l.fixed ≡ false) line_of pairs (λ k d l. refl));
    priced = All-append (IsPriced g.kind) g.lines (lines_of pairs) h.makes.priced (All-map (IsPriced g.kind) line_of pairs (λ k d l. IsPriced-one g.kind (line_of (get_or pairs k d)) refl));
    numbered = h.makes.numbered;
  };
  named = h.named;
}
