use Rattle.std.proofs.Common.{◌≡◌, ◌+◌, ◌-◌, [], ◌∷◌, ◌++◌, length, refl, ap, ◌∙◌, subst, arith}
use Rattle.std.proofs.lemmas.List.{length_push}
use Rattle.edmonds_branchings.proofs.Packed.{IsPacking, packing_start, packing_more, packed}
use Rattle.edmonds_branchings.proofs.packing.pack_rooted.Goals as goal

pub loop-made-init : goal.loop-made-init
loop-made-init c =
    let all : c.args.k - 0 ≡ c.args.k = omega arith in
    rw (c.new-rows.ensures, c.in_ok-arcs.ensures, all) (record { many = refl; packing = packing_start c.requires.ready })

pub loop-made-preserved : goal.loop-made-preserved
loop-made-preserved c =
    let n = length c.args.graph.now.names in
    let rows = c.loop-made.rows in
    let one_less : c.args.k - c.loop-made.made - 1 ≡ c.args.k - (c.loop-made.made + 1) = omega arith in
    let more = packing_more c.loop-made.invariant.packing c.in_ok-row.ensures in
    rw c.in_ok-push.ensures.ok (record {
      many = length_push rows c.in_ok-row.row ∙ ap (λ m. m + 1) c.loop-made.invariant.many;
      packing = subst (λ rest. IsPacking n rest c.args.graph.now.lines c.args.roots.now c.make_branching.new.arcs.items (rows ++ c.in_ok-row.row ∷ [])) one_less more;
    })

pub returns : goal.returns
returns c = packed c.loop-made.invariant.packing (omega (arith, c.loop-made.invariant.many))
