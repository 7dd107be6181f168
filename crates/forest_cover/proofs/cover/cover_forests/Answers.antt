use Rattle.std.proofs.Common.{◌≡◌, ◌<◌, ◌≤◌, ◌^◌, [], length, replicate, true, sym, ap, ◌∙◌, subst, arith, lit<}
use Rattle.std.specs.Prelude.{sum_by}
use Rattle.std.proofs.lemmas.Option.{get_or_from_slice_get}
use Rattle.graph_core.specs.Side.{size, IsNonempty}
use Rattle.graph_core.proofs.SizeLaws.{size-all}
use Rattle.forest_cover.specs.Dense.{demand}
use Rattle.forest_cover.proofs.Covering.{covering, rows-within}
use Rattle.forest_cover.proofs.Denser.{denser, demand_is, demand_some, demand_most, some_class, nodes_two, all-nonempty}
use Rattle.forest_cover.proofs.cover.cover_forests.Goals as goal

pub improve-init : goal.improve-init
improve-init c =
    let n = length c.args.graph.now.names in
    let some : 1 ≤ length c.args.graph.now.lines = let ne = c.if-line_count-eq0.false in let e = c.line_count.ensures.count in omega arith in
    let two = nodes_two n c.args.graph.now.lines c.known.ensures.makes.ends some in
    let whole : c.in_ok-side.side ≡ replicate n true = c.in_ok-side.ensures ∙ ap (λ m. replicate m true) c.node_count.ensures in
    record {
      nonempty = subst (IsNonempty n) (sym whole) (all-nonempty n (omega arith));
      large = subst (λ X. 2 ≤ size X) (sym whole) (omega (arith, size-all n));
    }

pub lines_of-requires : goal.lines_of-requires
lines_of-requires c =
    let found = c.in_ok-rows.field-0 in
    let most = rows-within c.args.graph.now c.demand_of.result found.rows found.classes c.in_ok-rows.ensures in
    let room : 65536 < 2 ^ 64 = lit< tt in
    omega (arith, most, c.known.ensures.makes.few, room)

pub returns-then-lines_of-line_count-clause-certified : goal.returns-then-lines_of-line_count-clause-certified
returns-then-lines_of-line_count-clause-certified c =
    let g = c.args.graph.now in
    let found = c.in_ok-rows.field-0 in
    let all : sum_by length found.rows ≡ length g.lines = sym c.lines_of.ensures ∙ c.if-lines_of-line_count.true ∙ c.line_count-in-improve.ensures.count in
    record {
      feasible = covering g c.demand_of.result found.rows found.classes c.in_ok-rows.ensures all;
      dual_feasible = (c.improve.invariant.nonempty, c.improve.invariant.large);
      equal = c.in_ok-rows.ensures.many ∙ c.demand_of.ensures ∙ demand_is g.lines c.improve.side c.improve.invariant.large;
    }

pub densest-requires-clause-some : goal.densest-requires-clause-some
densest-requires-clause-some c =
    let g = c.args.graph.now in
    let found = c.in_ok-rows.field-0 in
    let most = rows-within g c.demand_of.result found.rows found.classes c.in_ok-rows.ensures in
    let ne = c.if-lines_of-line_count.false in
    let lines = c.lines_of.ensures in
    let count = c.line_count-in-improve.ensures.count in
    some_class (length g.names) g.lines c.known.ensures.makes.ends c.demand_of.result found.rows found.classes c.in_ok-rows.ensures (omega arith)

-- the class that is taken asks for more forests
asks_more : (c : goal.After-drop-rows-inside) → c.demand_of.result < demand c.args.graph.now.lines c.remove-side.result
asks_more c =
    let g = c.args.graph.now in
    let found = c.in_ok-rows.field-0 in
    let most = rows-within g c.demand_of.result found.rows found.classes c.in_ok-rows.ensures in
    let ne = c.if-lines_of-line_count.false in
    let lines = c.lines_of.ensures in
    let count = c.line_count-in-improve.ensures.count in
    let more = denser (length g.names) g.lines c.known.ensures.makes.ends c.demand_of.result found.rows found.classes c.in_ok-rows.ensures (omega arith) c.densest.result c.densest.ensures in
    subst (λ X. c.demand_of.result < demand g.lines X) (get_or_from_slice_get found.classes c.densest.result c.remove-side.result [] c.remove-side.ensures.item) more

pub improve-smaller : goal.improve-smaller
improve-smaller c = omega (arith, asks_more c, c.demand_of.ensures, demand_most c.args.graph.now.lines c.remove-side.result)

pub improve-preserved : goal.improve-preserved
improve-preserved c =
    let g = c.args.graph.now in
    let classes = c.in_ok-rows.field-0.classes in
    let side = get_or_from_slice_get classes c.densest.result c.remove-side.result [] c.remove-side.ensures.item in
    record {
      nonempty = subst (IsNonempty (length g.names)) side (c.in_ok-rows.ensures.partition.nonempty c.densest.result [] c.densest.ensures.below);
      large = demand_some g.lines c.remove-side.result (omega (arith, asks_more c));
    }
