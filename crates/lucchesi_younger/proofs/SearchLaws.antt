-- A search begins, grows and comes to its end.
use Rattle.std.specs.Prelude.{ℕ, ◌≡◌, ◌+◌, ◌<◌, Bool, true, false, List, [], ◌∷◌, ◌++◌, length, replicate, slice_set, slice_index_or, refl}
use Rattle.std.proofs.Common.{sym, ap, ◌∙◌, subst, arith, inl, inr, ◌⊎◌, ⊎_elim}
use Rattle.std.proofs.lemmas.Bool.{cases_eq, cases_lt, both_ways, false_from_ne_true}
use Rattle.std.proofs.lemmas.List.{get_or_append_left, get_or_push, length_push, length-set, length-replicate, get_or-set_other, get_or_read}
use Rattle.std.proofs.lemmas.Option.{slice_get_within}
use Rattle.graph_core.specs.Graph.{GraphValue}
use Rattle.graph_core.specs.Side.{has}
use Rattle.graph_core.proofs.PutLaws.{size-put, put_here, put_kept}
use Rattle.graph_core.proofs.SideLaws.{has-none, has-below}
use Rattle.graph_core.proofs.SizeLaws.{size-none}
use Rattle.dicut_lattice.specs.Tight.{IsAllowed}
use Rattle.lucchesi_younger.specs.Kept.{at}
use Rattle.lucchesi_younger.specs.Forcing.{Forces, Jumps, IsUnforced}
use Rattle.lucchesi_younger.specs.Ways.{Leads, IsWay}
use Rattle.lucchesi_younger.specs.Search.{IsSearch, IsEntered, Grows, IsArcUnforced, IsArcStep, PastArcs, PastJump, PastJumps, IsBack, node, visit}
use Rattle.lucchesi_younger.proofs.WayLaws.{way_push}
use Rattle.std.proofs.lemmas.List.Elements.{All-nil, All-push, All-weaker}
use Rattle.lucchesi_younger.specs.declared.work.By.{By}
use Rattle.lucchesi_younger.specs.declared.work.By.TheVariants.{Left, Jumped}
use Rattle.lucchesi_younger.specs.declared.work.Step.{Step}
use Rattle.lucchesi_younger.specs.declared.work.Visit.{Visit}
use Rattle.lucchesi_younger.specs.declared.work.Work.{Work}

pub visit_read : (visits : List Visit) (i : ℕ) (x : Visit) → i < length visits → x ≡ slice_index_or visits i x → x ≡ visit visits i
visit_read visits i x l e = get_or_read visits i x l e (record { step = record { by = Jumped; from = 0; to = 0 }; back = 0 })

-- after a node is put, another one that is in was in
put_cases : (X : List Bool) (v u : ℕ) → has (slice_set X v true) u ≡ true → (u ≡ v) ⊎ (has X u ≡ true)
put_cases X v u h = ⊎_elim (λ e. inl e) (λ ne. inr (sym (get_or-set_other X v u true false ne) ∙ h)) (cases_eq u v)

put_out : (X : List Bool) (v u : ℕ) → has (slice_set X v true) u ≡ false → has X u ≡ false
put_out X v u h = false_from_ne_true (has X u) (λ in'. both_ways (has (slice_set X v true) u) h (put_kept X v u in'))

pub grows_trans : (r r' r'' : List Bool) (v v' v'' : List Visit) → Grows r r' v v' → Grows r' r'' v' v'' → Grows r r'' v v''
grows_trans r r' r'' v v' v'' a b =
    let first = a.longer in
    let next = b.longer in
    record { longer = omega arith; same = λ i l. b.same i (omega arith) ∙ a.same i l; stays = λ x h. a.stays x (b.stays x h) }

module _ (g : GraphValue) (w : Work) (late : ℕ) where
  pub search_start : (st : Step) → st.by ≡ Left late → st.to < length g.names → IsSearch g w late (slice_set (replicate (length g.names) false) st.to true) (record { step = st; back = 0 } ∷ []) 0
  search_start st by below =
      let n = length g.names in
      let none = has-none n in
      let blank = length-replicate n false in
      let size_is = size-put (replicate n false) st.to (omega arith) (none st.to) in
      record {
        long = length-set (replicate n false) st.to true ∙ blank;
        count = omega (arith, size-none (replicate n false) none);
        some = omega arith;
        root = by;
        marked = λ i l. let first : i ≡ 0 = omega arith in rw first (put_here (replicate n false) st.to (omega arith));
        queued = λ v h. ⊎_elim (λ e. (0, omega arith, sym e)) (λ old. absurd (both_ways (has (replicate n false) v) (none v) old)) (put_cases (replicate n false) st.to v h);
        entered = λ i pos l. absurd (omega arith);
        full = λ i v l. absurd (omega arith);
      }

  make_entered : (vs : List Visit) (i : ℕ) (x : Visit) → visit vs i ≡ x → x.back < i → x.step.from ≡ node vs x.back → Leads g w late x.step x.step.to → ((k : ℕ) → k < x.back → IsUnforced g w late (node vs k) x.step.to) → IsEntered g w late vs i
  make_entered vs i x e =
      subst (λ (y : Visit). y.back < i → y.step.from ≡ node vs y.back → Leads g w late y.step y.step.to → ((k : ℕ) → k < y.back → IsUnforced g w late (node vs k) y.step.to) → IsEntered g w late vs i) e
      (λ a b c d. record { earlier = a; from = b; leads = c; first = d })

  module _ (reached : List Bool) (visits : List Visit) (here : ℕ) (s : IsSearch g w late reached visits here) where
    -- a node that wasn't reached
    module _ (st : Step) (l : here < length visits) (leads : Leads g w late st st.to) (from : st.from ≡ node visits here) (fresh : has reached st.to ≡ false) where
      abbrev reached' : List Bool
      reached' = slice_set reached st.to true

      abbrev new : Visit
      new = record { step = st; back = here }

      abbrev visits' : List Visit
      visits' = visits ++ new ∷ []

      to_in : st.to < length reached
      to_in = rw s.long leads.to_in

      old : (i : ℕ) → i < length visits → visit visits' i ≡ visit visits i
      old i h = get_or_append_left visits (new ∷ []) (record { step = record { by = Jumped; from = 0; to = 0 }; back = 0 }) i h

      last : (i : ℕ) → i ≡ length visits → visit visits' i ≡ new
      last i e = get_or_push visits new (record { step = record { by = Jumped; from = 0; to = 0 }; back = 0 }) i (sym e)

      split : (i : ℕ) → i < length visits' → (i < length visits) ⊎ (i ≡ length visits)
      split i h = let e = length_push visits new in ⊎_elim (λ a. inl a) (λ a. inr (omega arith)) (cases_lt i (length visits))

      node_old : (i : ℕ) → i < length visits → node visits' i ≡ node visits i
      node_old i h = ap (λ (x : Visit). x.step.to) (old i h)

      node_new : (i : ℕ) → i ≡ length visits → node visits' i ≡ st.to
      node_new i e = ap (λ (x : Visit). x.step.to) (last i e)

      entered_old : (i : ℕ) → 0 < i → i < length visits → IsEntered g w late visits' i
      entered_old i pos h =
          let was = s.entered i pos h in
          let earlier = was.earlier in
          let nodes : node visits' i ≡ node visits i = node_old i h in
          make_entered visits' i (visit visits i) (old i h) was.earlier (was.from ∙ sym (node_old (visit visits i).back (omega arith))) was.leads
          (λ k below. subst (λ u. IsUnforced g w late u (node visits i)) (sym (node_old k (omega arith))) (was.first k below))

      entered_new : IsEntered g w late visits' (length visits)
      entered_new =
          make_entered visits' (length visits) new (last (length visits) refl) l (from ∙ sym (node_old here l)) leads
          (λ k below. subst (λ u. IsUnforced g w late u st.to) (sym (node_old k (omega arith))) (s.full k st.to below leads.to_in fresh))

      pub search_push : IsSearch g w late reached' visits' here
      search_push = record {
        long = length-set reached st.to true ∙ s.long;
        count = (let c = s.count in omega (arith, size-put reached st.to to_in fresh, length_push visits new));
        some = omega (arith, length_push visits new);
        root = ap (λ (x : Visit). x.step.by) (old 0 s.some) ∙ s.root;
        marked = λ i h. ⊎_elim
            (λ a. rw (node_old i a) (put_kept reached st.to (node visits i) (s.marked i a)))
            (λ e. rw (node_new i e) (put_here reached st.to to_in))
            (split i h);
        queued = λ v h. ⊎_elim
            (λ e. (length visits, omega (arith, length_push visits new), node_new (length visits) refl ∙ sym e))
            (λ a. let (i, i_in, is) = s.queued v a in (i, omega (arith, length_push visits new), node_old i i_in ∙ is))
            (put_cases reached st.to v h);
        entered = λ i pos h. ⊎_elim
            (λ a. entered_old i pos a)
            (λ e. subst (λ x. IsEntered g w late visits' x) (sym e) entered_new)
            (split i h);
        full = λ i v below v_in out. rw (node_old i (omega arith)) (s.full i v below v_in (put_out reached st.to v out));
      }

      -- the same, by what was written
      pub search_pushed : (r : List Bool) (vs : List Visit) → r ≡ reached' → vs ≡ visits' → IsSearch g w late r vs here
      search_pushed r vs er ev = subst (λ x. IsSearch g w late x vs here) (sym er) (subst (λ x. IsSearch g w late reached' x here) (sym ev) search_push)

      pub past_pushed : (j : ℕ) → IsArcStep g w late j st.from st → (r : List Bool) → r ≡ reached' → (v : ℕ) → has r v ≡ false → IsArcUnforced g w late j (node visits here) v
      past_pushed j h r er v out =
          subst (λ u. IsArcUnforced g w late j u v) from
          (h.other v (λ e. both_ways (has r v) out (ap (has r) e ∙ (λ i. has (er i) st.to) ∙ put_here reached st.to to_in)))

    -- a visit's node is one
    pub node_in : (i : ℕ) → i < length visits → node visits i < length g.names
    node_in i l = let e = s.long in let below = has-below reached (node visits i) (s.marked i l) in omega arith

    -- an allowed jump to a node that isn't reached
    pub jump_leads : here < length visits → (u to : ℕ) → u ≡ node visits here → to < length g.names → has reached to ≡ false → at w.potential u ≡ at w.potential to → IsAllowed g w.join to u → Leads g w late (record { by = Jumped; from = u; to = to }) to
    jump_leads l u to is to_in fresh equal allowed = record {
      from_in = rw is (node_in here l);
      to_in = to_in;
      apart = λ e. both_ways (has reached to) fresh (ap (has reached) (sym e ∙ is) ∙ s.marked here l);
      to = refl;
      forces = record { equal = equal; allowed = allowed };
    }

    -- one place more is done
    pub search_next : ((v : ℕ) → v < length g.names → has reached v ≡ false → IsUnforced g w late (node visits here) v) → IsSearch g w late reached visits (here + 1)
    search_next full = record {
      long = s.long;
      count = s.count;
      some = s.some;
      root = s.root;
      marked = s.marked;
      queued = s.queued;
      entered = s.entered;
      full = λ i v below v_in out. ⊎_elim (λ e. rw e (full v v_in out)) (λ ne. s.full i v (omega arith) v_in out) (cases_eq i here);
    }

    -- where no arc and no jump forces a node
    pub unforced : PastArcs g w late (node visits here) reached (length g.lines) → (v : ℕ) → has reached v ≡ false → PastJump g w (node visits here) v → IsUnforced g w late (node visits here) v
    unforced arcs v out jump = record {
      takes = λ j h. (arcs j v (slice_get_within g.lines j h.line h.arc) out).takes h;
      leaves = λ j h. (arcs j v (slice_get_within g.lines j h.line h.arc) out).leaves h;
      apart = jump;
    }

    jumped : (i : ℕ) (by : By) (u v : ℕ) → by ≡ Jumped → Forces g w late by u v → Jumps g w u v
    jumped i by u v e f = subst (λ b. Forces g w late b u v) e f

    -- a jump after a jump is a jump
    pub past_jump : here < length visits → (visit visits here).step.by ≡ Jumped → (v : ℕ) → v < length g.names → has reached v ≡ false → PastJump g w (node visits here) v
    past_jump l by v v_in out same =
        let pos : 0 < here = ⊎_elim (λ a. a) (λ z. absurd (let e : here ≡ 0 = omega arith in let two : Left late ≡ Jumped = sym s.root ∙ ap (λ i. (visit visits i).step.by) (sym e) ∙ by in cc)) (cases_lt 0 here) in
        let e = s.entered here pos l in
        let f = jumped here (visit visits here).step.by (visit visits here).step.from (node visits here) by e.leads.forces in
        let back = (visit visits here).back in
        let level : at w.potential (node visits back) ≡ at w.potential v = ap (at w.potential) (sym e.from) ∙ f.equal ∙ same in
        let (U, sep) = (s.full back v e.earlier v_in out).apart level in
        (U, record { tight = sep.tight; holds = f.allowed U sep.tight (ap (has U) e.from ∙ sep.holds); misses = sep.misses })

  -- one arc more
  pub past_more : (j u u' : ℕ) (r r' : List Bool) → u' ≡ u → ((v : ℕ) → has r' v ≡ false → has r v ≡ false) → PastArcs g w late u r j → ((v : ℕ) → has r' v ≡ false → IsArcUnforced g w late j u' v) → PastArcs g w late u r' (j + 1)
  past_more j u u' r r' same stays past here i v below out =
      ⊎_elim
      (λ e. subst (λ k. IsArcUnforced g w late k u v) (sym e) (subst (λ x. IsArcUnforced g w late j x v) same (here v out)))
      (λ ne. past i v (omega arith) (stays v out))
      (cases_eq i j)

  -- one node more
  pub jumps_more : (x u u' : ℕ) (r r' : List Bool) → u' ≡ u → ((v : ℕ) → has r' v ≡ false → has r v ≡ false) → PastJumps g w u r x → (has r' x ≡ false → PastJump g w u' x) → PastJumps g w u r' (x + 1)
  jumps_more x u u' r r' same stays past here v below out =
      ⊎_elim
      (λ e. subst (λ k. PastJump g w u k) (sym e) (subst (λ y. PastJump g w y x) same (here (subst (λ k. has r' k ≡ false) e out))))
      (λ ne. past v (omega arith) (stays v out))
      (cases_eq v x)

  pub way_none : (visits : List Visit) (place : ℕ) (steps : List Step) → place < length visits → steps ≡ [] → IsBack g w late visits place place steps
  way_none visits place steps below e =
      subst (λ s. IsBack g w late visits place place s) (sym e)
      (record { below = below; way = refl; far = All-nil (λ r. (k : ℕ) → k < place → IsUnforced g w late (node visits k) r.to) })

  -- one step back
  pub way_back : (reached : List Bool) (visits : List Visit) (done : ℕ) → IsSearch g w late reached visits done → (place back : ℕ) (steps : List Step) → 0 < back → IsBack g w late visits place back steps
      → IsBack g w late visits place (visit visits back).back (steps ++ (visit visits back).step ∷ [])
  way_back reached visits done s place back steps pos b =
      let e = s.entered back pos b.below in
      let earlier = e.earlier in
      let below = b.below in
      let b' = (visit visits back).back in
      let st = (visit visits back).step in
      let near = All-weaker (λ r. (k : ℕ) → k < back → IsUnforced g w late (node visits k) r.to) (λ r. (k : ℕ) → k < b' → IsUnforced g w late (node visits k) r.to) (λ r h k l. h k (omega arith)) steps b.far in
      let from = All-weaker (λ r. (k : ℕ) → k < back → IsUnforced g w late (node visits k) r.to) (λ r. IsUnforced g w late st.from r.to) (λ r h. subst (λ u. IsUnforced g w late u r.to) (sym e.from) (h b' earlier)) steps b.far in
      record {
        below = omega arith;
        way = subst (λ u. IsWay g w late u (node visits place) (steps ++ st ∷ [])) e.from (way_push g w late steps (node visits back) (node visits place) st b.way e.leads from);
        far = All-push (λ r. (k : ℕ) → k < b' → IsUnforced g w late (node visits k) r.to) steps st near e.first;
      }
