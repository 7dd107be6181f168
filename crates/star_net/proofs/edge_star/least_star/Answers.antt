use Rattle.std.proofs.Common.{ℕ, ◌≡◌, ◌≤◌, ◌+◌, length, ap, ◌∙◌, sym, subst, arith}
use Rattle.std.specs.Prelude.{slice_index}
use Rattle.graph_core.specs.Families.{members_with}
use Rattle.graph_core.specs.Lines.{degree}
use Rattle.graph_core.specs.Side.{sum_over}
use Rattle.cut_fn.specs.Covered.{AreTight}
use Rattle.cut_fn.specs.Members.{AreDisjoint}
use Rattle.cut_fn.specs.Stars.{star_cut}
use Rattle.graph_core.proofs.ItemLaws.{counted_below}
use Rattle.flow_cuts.specs.StarValues.{with_counts}
use Rattle.star_net.proofs.TightFamilies.{few_counts, tight_family}
use Rattle.star_net.proofs.edge_star.least_star.Goals as goal

pub invariant_of-star : goal.invariant_of-star
invariant_of-star c =
    let s = c.in_ok-counts.ensures in
    let counts = c.in_ok-counts.field-0.counts.items in
    rw (c.from_vec.ensures, c.in_ok-copy.ensures) (record { long = s.long; few = omega (arith, few_counts c.args.k counts s.most c.requires.k, s.long, c.requires.size.nodes) })

pub disjoin-requires-clause-tight : goal.disjoin-requires-clause-tight
disjoin-requires-clause-tight c =
    let g = c.args.graph.now in
    let P = c.in_ok-counts.field-0.family in
    let counts = c.in_ok-counts.field-0.counts.items in
    let graph : c.new.result.graph ≡ g = ap (λ t. t.graph) c.new.ensures ∙ c.in_ok-copy.ensures in
    let count : c.new.result.count ≡ counts = ap (λ t. t.count) c.new.ensures ∙ c.from_vec.ensures in
    let same : star_cut c.new.result ≡ with_counts (λ X. degree X g.lines) counts = λ i X. degree X (graph i).lines + sum_over X (slice_index (count i)) in
    subst (λ m. AreTight m c.args.k (star_cut c.new.result) P) (sym (ap (λ t. length t.names) graph))
    (subst (λ f. AreTight (length g.names) c.args.k f P) (sym same) c.in_ok-counts.ensures.tight)

pub returns : goal.returns
returns c =
    let g = c.args.graph.now in
    let n = length g.names in
    let s = c.in_ok-counts.ensures in
    let counts = c.in_ok-counts.field-0.counts.items in
    let P = c.disjoin.new.family in
    let graph : c.new.result.graph ≡ g = ap (λ t. t.graph) c.new.ensures ∙ c.in_ok-copy.ensures in
    let names : length c.new.result.graph.names ≡ n = ap (λ t. length t.names) graph in
    let count : c.new.result.count ≡ counts = ap (λ t. t.count) c.new.ensures ∙ c.from_vec.ensures in
    let same : star_cut c.new.result ≡ with_counts (λ X. degree X g.lines) counts = λ i X. degree X (graph i).lines + sum_over X (slice_index (count i)) in
    let tight : AreTight n c.args.k (with_counts (λ X. degree X g.lines) counts) P =
    subst (λ f. AreTight n c.args.k f P) same (subst (λ m. AreTight m c.args.k (star_cut c.new.result) P) names c.disjoin.ensures.tight) in
    let disjoint : AreDisjoint n P = subst (λ m. AreDisjoint m P) names c.disjoin.ensures.disjoint in
    let holds : (v : ℕ) → 1 ≤ slice_index counts v → 1 ≤ members_with v P = λ v some.
    c.disjoin.ensures.kept v (subst (λ ws. 1 ≤ slice_index ws v) (sym count) some) (s.found v (counted_below counts v s.long some) some) in
    record {
      graph = c.in_ok-copy.ensures;
      covered = rw (c.in_ok-copy.ensures, c.from_vec.ensures) s.covered;
      family = rw c.from_vec.ensures (tight_family s.long tight disjoint holds);
    }
