use Rattle.std.proofs.Common.{◌≡◌, ◌-◌, ◌==◌, cond, false, length, sym, ap, ◌∙◌, arith}
use Rattle.std.proofs.lemmas.Bool.{ne_eqb}
use Rattle.problem_defs.specs.Augment.{half_bound}
use Rattle.augment_edges.proofs.StarLaws.{few_edges, can_be_split, split_feasible, split_meets_bound}
use Rattle.augment_edges.proofs.split.split_least_star.Goals as goal

pub even_star-even-requires : goal.even_star-even-requires
even_star-even-requires c =
    let few = few_edges c.in_ok-star.field-0 c.in_ok-star.ensures c.requires.suits.high c.requires.size in
    omega (arith, few)

pub split_all-requires : goal.split_all-requires
split_all-requires c =
    let made = c.even_star-even in
    can_be_split c.in_ok-star.field-0 c.in_ok-star.ensures made.result made.ensures.graph made.ensures.counts c.requires.two c.requires.suits.high c.requires.size

pub returns-clause-certified : goal.returns-clause-certified
returns-clause-certified c =
    let t = c.in_ok-star.field-0 in
    let tight = c.in_ok-star.ensures in
    let made = c.even_star-even in
    let pairs = c.in_ok-pairs.pairs in
    let k = c.args.k in
    let two = c.requires.two in
    let more : (k == 1) ≡ false = ne_eqb k 1 (λ e. absurd (omega arith)) in
    let meets = split_meets_bound t tight made.result made.ensures.graph made.ensures.counts pairs c.in_ok-pairs.ensures in
    record {
      feasible = split_feasible t tight made.result made.ensures.graph made.ensures.counts pairs c.in_ok-pairs.ensures;
      dual_feasible = (λ two. tight.family.disjoint, λ one. absurd (omega arith));
      equal = meets ∙ sym (ap (λ b. cond b (length t.family - 1) (half_bound k c.args.graph.now t.family)) more);
    }
