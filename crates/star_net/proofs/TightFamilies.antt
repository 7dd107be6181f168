-- Disjoint tight sides that hold each node with a count are a tight family; and counts of another list of arcs.
use Rattle.std.specs.Prelude.{ℕ, suc, ◌≡◌, ◌*◌, ◌≤◌, Bool, List, [], ◌∷◌, length, map, slice_index, sum}
use Rattle.std.proofs.Common.{subst, inl, inr, arith}
use Rattle.std.proofs.lemmas.Bool.{cases_lt}
use Rattle.std.proofs.lemmas.List.Sums.{sum_by-cons}
use Rattle.std.proofs.lemmas.List.Elements.{All-weaker}
use Rattle.graph_core.specs.Families.{members_with}
use Rattle.graph_core.specs.Lines.{degree}
use Rattle.graph_core.specs.Side.{IsProper}
use Rattle.graph_core.specs.declared.graph.Kind.TheVariants.{Undirected}
use Rattle.graph_core.specs.declared.graph.Line.{Line}
use Rattle.graph_core.proofs.HeadLaws.{node-le-sum}
use Rattle.cut_fn.specs.Covered.{IsTight, AreTight}
use Rattle.cut_fn.specs.Members.{AreDisjoint}
use Rattle.cut_fn.proofs.Families.{tight_with}
use Rattle.cut_fn.proofs.StarSums.{counts_lack, lack_le}
use Rattle.flow_cuts.specs.GraphArcs.{arcs_of}
use Rattle.flow_cuts.specs.NewNode.{arc_by}
use Rattle.flow_cuts.proofs.ArcLaws.{capacity-arcs_of}
use Rattle.flow_cuts.proofs.NewNodes.{capacity-arcs_by}
use Rattle.problem_defs.specs.Ways.{count_for}
use Rattle.problem_defs.specs.declared.cert.Way.{Way}
use Rattle.flow_cuts.specs.StarValues.{with_counts}
use Rattle.star_net.specs.Lowered.{capacity_over, IsLowered}
use Rattle.star_net.specs.TightFamily.{IsTightFamily}

pub tight_family : {n k : ℕ} {h : List Bool → ℕ} {counts : List ℕ} {P : List (List Bool)} → length counts ≡ n → AreTight n k (with_counts h counts) P → AreDisjoint n P
    → ((v : ℕ) → 1 ≤ slice_index counts v → 1 ≤ members_with v P) → IsTightFamily n k h counts P
tight_family {n} {k} {h} {counts} {P} long tight disjoint holds =
    let proper = All-weaker (IsTight n k (with_counts h counts)) (IsProper n) (λ X t. t.proper) P tight.each in
    let lacks = counts_lack h counts P long tight (λ v l some. omega (arith, disjoint.at v l, holds v some)) in
    record {
      disjoint = record { proper = proper; disjoint = disjoint.at };
      tight = tight;
      holds = holds;
      lacks = lacks;
      least = λ other long' covered. omega (arith, lacks, lack_le h other P long' covered proper disjoint.at);
    }

-- few counts
pub few_counts : (most : ℕ) (counts : List ℕ) → ((v : ℕ) → slice_index counts v ≤ most) → most ≤ 32 → sum counts ≤ 32 * length counts
few_counts most [] h small = omega arith
few_counts most (c ∷ counts) h small = omega (arith, h 0, few_counts most counts (λ v. h (suc v)) small, sum_by-cons (λ x. x) c counts)

-- a tight family's counts are at most k, and so few
pub family_most : {n k : ℕ} {h : List Bool → ℕ} {counts : List ℕ} {P : List (List Bool)} → IsTightFamily n k h counts P → (v : ℕ) → slice_index counts v ≤ k
family_most {n} {k} {h} {counts} {P} family v =
    elim (cases_lt 0 (slice_index counts v)) [
      | inl some ↦ (let (X, t, i) = tight_with P family.tight.each v (family.holds v (omega arith)) in omega (arith, t.value, node-le-sum (slice_index counts) X v i))
      | inr none ↦ omega arith
    ]

pub family_few : {n k : ℕ} {h : List Bool → ℕ} {counts : List ℕ} {P : List (List Bool)} → IsTightFamily n k h counts P → k ≤ 32 → sum counts ≤ 32 * length counts
family_few {n} {k} {h} {counts} family small = few_counts k counts (family_most family) small

-- the same count of lines in other words
lowered_agree : {n k v : ℕ} {h h' : List Bool → ℕ} {counts : List ℕ} {family : List (List Bool)} → ((X : List Bool) → h X ≡ h' X) → IsLowered n k h v counts family → IsLowered n k h' v counts family
lowered_agree {n} {k} {v} {h} {h'} {counts} {family} e s = subst (λ (g : List Bool → ℕ). IsLowered n k g v counts family) (λ i X. e X i) s

pub edges_lowered : {n k v : ℕ} {counts : List ℕ} {family : List (List Bool)} (ls : List Line) → IsLowered n k (capacity_over (arcs_of Undirected ls)) v counts family → IsLowered n k (λ X. degree X ls) v counts family
edges_lowered ls s = lowered_agree (λ X. capacity-arcs_of Undirected X ls) s

pub arcs_lowered : {n k v : ℕ} {counts : List ℕ} {family : List (List Bool)} (way : Way) (ls : List Line) → IsLowered n k (capacity_over (map (arc_by way) ls)) v counts family → IsLowered n k (count_for way ls) v counts family
arcs_lowered way ls s = lowered_agree (λ X. capacity-arcs_by way X ls) s
