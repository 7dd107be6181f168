use Rattle.std.proofs.Common.{◌≡◌, length, get_or, take, drop, ◌++◌, None, sym, ap, ◌∙◌, subst}
use Rattle.std.proofs.lemmas.List.{length-replicate}
use Rattle.matroid_union.specs.Parts.{own_of, rows_of}
use Rattle.matroid_union.specs.Union.{IsUnion}
use Rattle.matroid_union.proofs.Rows.{none_of, union_done, whole_slice}
use Rattle.matroid_union.proofs.parts.union.Goals as goal

pub pack-requires-clause-none : goal.pack-requires-clause-none
pack-requires-clause-none g c = λ i. ap (λ v. get_or v i None) (c.deref_mut.ensures.value ∙ c.in_ok-owner.ensures) ∙ none_of c.size.result i

pub returns-clause-union : goal.returns-clause-union
returns-clause-union g c =
    let all : length c.in_ok-owner.owner.items ≡ g.M.Matroid.count c.args.matroid.now = ap length c.in_ok-owner.ensures ∙ length-replicate c.size.result None ∙ c.size.ensures in
    let len : c.in_ok-owner.owner.len ≡ length c.in_ok-owner.owner.items = sym c.deref_mut.ensures.len ∙ ap length c.deref_mut.ensures.value in
    let same_length : length c.pack.new.owner ≡ length c.in_ok-owner.owner.items = c.pack.auto.owner ∙ ap length c.deref_mut.ensures.value in
    let whole : take c.in_ok-owner.owner.len (c.pack.new.owner ++ drop (length c.pack.new.owner) c.in_ok-owner.owner.items) ≡ c.pack.new.owner = whole_slice c.in_ok-owner.owner.len c.pack.new.owner c.in_ok-owner.owner.items len same_length in
    let list : c.deref.result.now ≡ c.pack.new.owner = c.deref.ensures.value ∙ whole in
    let rows : rows_of (g.M.Matroid.count c.args.matroid.now) (own_of c.pack.new.owner) c.args.k ≡ c.in_ok-parts.parts =
    ap (λ n. rows_of n (own_of c.pack.new.owner) c.args.k) (sym (same_length ∙ all)) ∙ ap (λ o. rows_of (length o) (own_of o) c.args.k) (sym list) ∙ sym c.in_ok-parts.ensures in
    subst (λ r. IsUnion (g.M.Matroid.count c.args.matroid.now) (g.M.Matroid.free c.args.matroid.now) c.args.k r c.in_ok-reached.reached) rows
    (union_done (g.M.Matroid.count c.args.matroid.now) (g.M.Matroid.free c.args.matroid.now) (g.met.M.Matroid.laws c.args.matroid.now) c.args.k (own_of c.pack.new.owner) c.in_ok-reached.reached c.in_ok-reached.ensures.packing c.in_ok-reached.ensures.dead c.in_ok-reached.ensures.rest)

pub all_rows-requires-clause-below : goal.all_rows-requires-clause-below
all_rows-requires-clause-below g c =
    let len : c.in_ok-owner.owner.len ≡ length c.in_ok-owner.owner.items = sym c.deref_mut.ensures.len ∙ ap length c.deref_mut.ensures.value in
    let same_length : length c.pack.new.owner ≡ length c.in_ok-owner.owner.items = c.pack.auto.owner ∙ ap length c.deref_mut.ensures.value in
    let list : c.deref.result.now ≡ c.pack.new.owner = c.deref.ensures.value ∙ whole_slice c.in_ok-owner.owner.len c.pack.new.owner c.in_ok-owner.owner.items len same_length in
    λ i p h. c.in_ok-reached.ensures.packing.below i p (ap (λ o. own_of o i) (sym list) ∙ h)
