-- Costs that are raised arc by arc.
use Rattle.std.specs.Prelude.{ℕ, ◌≡◌, ◌+◌, ◌≤◌, Bool, true, false, List}
use Rattle.std.proofs.Common.{ap, ◌∙◌, subst, arith, ⊎_elim}
use Rattle.std.proofs.lemmas.Bool.{cases_eq, both_ways}
use Rattle.graph_core.specs.declared.graph.Line.{Line}
use Rattle.lucchesi_younger.specs.Kept.{at, IsArc, IsIn}
use Rattle.lucchesi_younger.specs.Spent.{IsSpent, IsRaised, AreRisen}
use Rattle.lucchesi_younger.proofs.Joins.{one-arc}

pub still-within : (costs now new : List ℕ) (i : ℕ) (other : Bool) → ((j : ℕ) → at now j ≤ at costs j) → IsRaised i (at costs i) now new other → (j : ℕ) → at new j ≤ at costs j
still-within costs now new i other within r j = ⊎_elim (λ e. rw e r.most) (λ ne. (let was = within j in omega (arith, r.others j ne))) (cases_eq j i)

module _ (ls : List Line) (costs : List ℕ) (i : ℕ) (now : List ℕ) (s : IsSpent ls costs i now) where
  module _ (new : List ℕ) where
    pub spent-raised : (other : Bool) → IsRaised i (at costs i) now new other → IsSpent ls costs i new
    spent-raised other r = record {
      below = λ j l less arc free. r.others j (λ e. omega arith) ∙ s.below j l less arc free;
      within = still-within costs now new i other s.within r;
    }

    pub spent-more : IsRaised i (at costs i) now new false → IsSpent ls costs (i + 1) new
    spent-more r = record {
      below = λ j l less arc free. ⊎_elim (λ e. rw e r.done) (λ ne. r.others j ne ∙ s.below j l (omega arith) arc free) (cases_eq j i);
      within = still-within costs now new i false s.within r;
    }

  pub spent-same : (l : Line) → IsArc ls i l → l.fixed ≡ true → IsSpent ls costs (i + 1) now
  spent-same l arc fixed = record {
    below = λ j k less here free. ⊎_elim
        (λ e. absurd (both_ways k.fixed free (ap (λ (x : Line). x.fixed) (one-arc ls i k l (subst (λ x. IsArc ls x k) e here) arc) ∙ fixed)))
        (λ ne. s.below j k (omega arith) here free)
        (cases_eq j i);
    within = s.within;
  }

module _ (ls : List Line) (join costs : List ℕ) (i : ℕ) (old now : List ℕ) (r : AreRisen ls join costs i old now) (l : Line) (arc : IsArc ls i l) where
  same_fixed : (j : ℕ) (k : Line) → j ≡ i → IsArc ls j k → l.fixed ≡ k.fixed
  same_fixed j k e here = ap (λ (x : Line). x.fixed) (one-arc ls i l k arc (subst (λ x. IsArc ls x k) e here))

  -- arc i rises
  pub risen-more : l.fixed ≡ false → (IsIn join i → ⊥) → (new : List ℕ) → IsRaised i (at costs i) now new false → AreRisen ls join costs (i + 1) old new
  risen-more free out new up = record {
    risen = λ j k less here free_k out_j. ⊎_elim (λ e. rw e up.done) (λ ne. up.others j ne ∙ r.risen j k (omega arith) here free_k out_j) (cases_eq j i);
    fixed = λ j k here fixed. up.others j (λ e. both_ways l.fixed free (same_fixed j k e here ∙ fixed)) ∙ r.fixed j k here fixed;
    taken = λ j in'. up.others j (λ e. out (subst (λ x. IsIn join x) e in')) ∙ r.taken j in';
  }

  -- or it stays
  pub risen-same : (l.fixed ≡ false → (IsIn join i → ⊥) → ⊥) → AreRisen ls join costs (i + 1) old now
  risen-same stays = record {
    risen = λ j k less here free out. ⊎_elim
        (λ e. absurd (stays (same_fixed j k e here ∙ free) (subst (λ x. IsIn join x → ⊥) e out)))
        (λ ne. r.risen j k (omega arith) here free out)
        (cases_eq j i);
    fixed = r.fixed;
    taken = r.taken;
  }
