use Rattle.std.proofs.Common.{◌≡◌, ◌<◌, ◌≤◌, ◌-◌, ◌∷◌, [], ℕ, List, true, false, length, get_or, refl, ap, sym, subst, ◌∙◌, true≢false, arith}
use Rattle.std.proofs.lemmas.List.{length-replicate}
use Rattle.graph_core.proofs.SideLaws.{has-none}
use Rattle.graph_core.specs.Side.{has}
use Rattle.certificate_text.specs.WordsLeft.{words_left}
use Rattle.certificate_text.specs.SideRead.{SideRead}
use Rattle.certificate_text.proofs.FieldLaws.{side-start, side-skips, side-step, side-done, side-lack}
use Rattle.certificate_text.proofs.fields.side.Goals as goal

heads-same : {x y : List ℕ} {xs ys : List (List ℕ)} → x ∷ xs ≡ y ∷ ys → x ≡ y
heads-same e = cc

pub loop-word-init : goal.loop-word-init
loop-word-init c =
    let n = c.node_count.result in
    (side-start c.args.graph.now.names (words_left c.args.words) c.in_ok-side.side (ap length c.in_ok-side.ensures ∙ length-replicate n false ∙ c.node_count.ensures) (λ u. ap (λ X. has X u) c.in_ok-side.ensures ∙ has-none n u), omega arith)

pub loop-word-preserved : goal.loop-word-preserved
loop-word-preserved c =
    let names = c.args.graph.now.names in
    let all = words_left c.args.words in
    let v = c.in-Some-node_from.v in
    let (read, below) = c.loop-word.invariant in
    let next = c.in-Some-node_from.ensures.some in
    let left : words_left c.loop-word.left ≡ c.in-Some.word.now ∷ words_left c.in-Some.behind = c.in-Some.ensures in
    let apart = c.known.ensures.makes.distinct in
    let other : (u : ℕ) → c.loop-word.from ≤ u → u < v → (more : List (List ℕ)) → words_left c.loop-word.left ≡ get_or names u [] ∷ more → ⊥ = λ u from within more e. let heads : get_or names u [] ∷ more ≡ c.in-Some.word.now ∷ words_left c.in-Some.behind = sym e ∙ left in let same : get_or names u [] ≡ c.in-Some.word.now = heads-same heads in next.missing u from within same in
    let read = side-skips names all (v - c.loop-word.from) c.loop-word.from v c.loop-word.side (words_left c.loop-word.left) (omega (arith, next.from)) apart (omega (arith, next.below)) other read in
    let split = left ∙ ap (λ w. w ∷ words_left c.in-Some.behind) (sym next.found) in
    let step = side-step names all v c.loop-word.side (words_left c.loop-word.left) (words_left c.in-Some.behind) (get_or names v []) true apart next.below refl read split (λ never. absurd (true≢false never)) in
    (rw c.put.ensures step, omega (arith, next.below))

pub returns-in_default-node_from : goal.returns-in_default-node_from
returns-in_default-node_from c = λ Y long e.
    let names = c.args.graph.now.names in
    let (read, below) = c.loop-word.invariant in
    let left : words_left c.loop-word.left ≡ c.in-Some.word.now ∷ words_left c.in-Some.behind = c.in-Some.ensures in
    side-lack names (words_left c.args.words) c.loop-word.from c.loop-word.side c.in-Some.word.now (words_left c.in-Some.behind) c.known.ensures.makes.distinct below c.in_default-node_from.ensures.none
    (subst (SideRead names (words_left c.args.words) c.loop-word.from c.loop-word.side) left read) Y long e

pub returns : goal.returns
returns c =
    let (read, below) = c.loop-word.invariant in
    (read.long, side-done c.args.graph.now.names (words_left c.args.words) c.loop-word.from c.loop-word.side (words_left c.loop-word.left) c.known.ensures.makes.distinct below read c.in_default.ensures)
