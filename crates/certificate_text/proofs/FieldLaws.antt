-- What is read of the words of a line.
use Rattle.std.proofs.Common.{◌≡◌, ◌≢◌, ℕ, zero, suc, ◌+◌, ◌-◌, ◌<◌, ◌≤◌, ◌^◌, Bool, true, false, cond, List, [], ◌∷◌, ◌++◌, length, take, drop, get_or, length-drop, refl, sym, ap, subst, ◌∙◌, append_assoc, append-nil, add-one, All, arith}
use Rattle.std.specs.Prelude.{AllPairs}
use Rattle.std.specs.Fmt.{decimal}
use Rattle.std.proofs.Math.ListN.{set, length-set}
use Rattle.std.proofs.Math.Seq.{drop-cons, take-length, drop-length}
use Rattle.std.proofs.lemmas.List.{take-set, get_or-set_same, get_or-set_other, set-get_or, get_or-drop}
use Rattle.std.proofs.lemmas.Fmt.{decimal_injective}
use Rattle.std.proofs.lemmas.List.Elements.{All-head, All-tail}
use Rattle.graph_core.specs.Side.{has}
use Rattle.certificate_text.specs.Words.{numbers, names_in}
use Rattle.certificate_text.specs.SideRead.{SideRead}
use Rattle.certificate_text.proofs.SpellLaws.{first-in}
use Rattle.certificate_text.proofs.WriteLaws.{names-more}

-- no line numbers are written by words one of which writes none
pub numbers-lack : (m : ℕ) (js front : List ℕ) (word : List ℕ) (more : List (List ℕ)) → ((j : ℕ) → j < m → decimal (j + 1) ≡ word → ⊥) → All (λ j. j < m) js → numbers js ≡ numbers front ++ word ∷ more → ⊥
numbers-lack m [] [] word more lack all e = cc
numbers-lack m [] (k ∷ front) word more lack all e = cc
numbers-lack m (j ∷ js) [] word more lack all e = lack j (All-head (λ j. j < m) j js all) cc
numbers-lack m (j ∷ js) (k ∷ front) word more lack all e =
    let rest : numbers js ≡ numbers front ++ word ∷ more = cc in
    numbers-lack m js front word more lack (All-tail (λ j. j < m) j js all) rest

pub only-k : (n k : ℕ) (ws : List (List ℕ)) → n < 2 ^ 64 → k ≤ 32 → decimal n ∷ [] ≡ ws → decimal k ∷ [] ≡ ws → n ≡ k
only-k n k ws fit small a b =
    let same : decimal n ≡ decimal k = cc in
    decimal_injective n k fit (omega (arith, small)) same

-- ---- a side, node by node

not-behind : (names : List (List ℕ)) (v : ℕ) (X : List Bool) (more : List (List ℕ)) → AllPairs (λ a b. a ≢ b) names → v < length names → names_in (drop (suc v) names) X ≡ get_or names v [] ∷ more → ⊥
not-behind names v X more apart l e =
    let (j, within, same) = first-in (drop (suc v) names) X (get_or names v []) more e in
    let there : get_or names (suc v + j) [] ≡ get_or names v [] = sym (get_or-drop (suc v) names j []) ∙ same in
    let inside : suc v + j < length names = omega (arith, within, length-drop (suc v) names) in
    apart v (suc v + j) [] (omega arith) inside (sym there)

names-cons : (n : List ℕ) (names : List (List ℕ)) (y : Bool) (Y : List Bool) → names_in (n ∷ names) (y ∷ Y) ≡ cond y (n ∷ names_in names Y) (names_in names Y)
names-cons n names true Y = refl
names-cons n names false Y = refl

pub side-step : (names all : List (List ℕ)) (v : ℕ) (X : List Bool) (left behind : List (List ℕ)) (name : List ℕ) (here : Bool) → AllPairs (λ a b. a ≢ b) names → v < length names → name ≡ get_or names v [] → SideRead names all v X left → left ≡ cond here (name ∷ []) [] ++ behind
    → (here ≡ false → (more : List (List ℕ)) → left ≡ name ∷ more → ⊥) → SideRead names all (v + 1) (set X v here) behind
side-step names all v X left behind name here apart l is r split other = record {
  long = length-set X v here ∙ r.long;
  front = r.front ∙ ap (λ ws. names_in (take v names) (take v X) ++ ws) (split ∙ ap (λ w. cond here (w ∷ []) [] ++ behind) is) ∙ sym (append_assoc (names_in (take v names) (take v X)) (cond here (get_or names v [] ∷ []) []) behind) ∙ ap (λ ws. ws ++ behind) (sym grown);
  only = λ Y long e. rw add-one (by Y (get_or Y v false) here split other (sym (opened Y long) ∙ r.only Y long e));
  later = λ u above. get_or-set_other X v u here false (omega arith) ∙ r.later u (omega arith);
}
  where
    in_side : v < length X
    in_side = omega (arith, l, r.long)

    grown : names_in (take (v + 1) names) (take (v + 1) (set X v here)) ≡ names_in (take v names) (take v X) ++ cond here (get_or names v [] ∷ []) []
    grown =
        let long : v < length (set X v here) = omega (arith, in_side, length-set X v here) in
        let fresh = names-more names (set X v here) v l long in
        rw add-one (fresh ∙ (λ i. names_in (take v names) (take-set X v here i) ++ cond (get_or-set_same X v here false in_side i) (get_or names v [] ∷ []) []))

    opened : (Y : List Bool) → length Y ≡ length names → names_in (drop v names) (drop v Y) ≡ cond (get_or Y v false) (name ∷ names_in (drop (suc v) names) (drop (suc v) Y)) (names_in (drop (suc v) names) (drop (suc v) Y))
    opened Y long =
        let inside : v < length Y = omega (arith, l, long) in
        (λ i. names_in (drop-cons names v [] l i) (drop-cons Y v false inside i)) ∙ names-cons (get_or names v []) (drop (suc v) names) (get_or Y v false) (drop (suc v) Y)
        ∙ ap (λ n. cond (get_or Y v false) (n ∷ names_in (drop (suc v) names) (drop (suc v) Y)) (names_in (drop (suc v) names) (drop (suc v) Y))) (sym is)

    by : (Y : List Bool) (y here : Bool) → left ≡ cond here (name ∷ []) [] ++ behind → (here ≡ false → (more : List (List ℕ)) → left ≡ name ∷ more → ⊥) → cond y (name ∷ names_in (drop (suc v) names) (drop (suc v) Y)) (names_in (drop (suc v) names) (drop (suc v) Y)) ≡ left → names_in (drop (suc v) names) (drop (suc v) Y) ≡ behind
    by Y true true split other e = cc
    by Y true false split other e = absurd (other refl (names_in (drop (suc v) names) (drop (suc v) Y)) (sym e))
    by Y false true split other e = absurd (not-behind names v (drop (suc v) Y) behind apart l (e ∙ split ∙ ap (λ n. n ∷ behind) is))
    by Y false false split other e = e ∙ split

pub side-start : (names all : List (List ℕ)) (X : List Bool) → length X ≡ length names → ((u : ℕ) → has X u ≡ false) → SideRead names all 0 X all
side-start names all X long blank = record { long = long; front = refl; only = λ Y _ e. e; later = λ u _. blank u }

-- a node whose name doesn't come next isn't in the side
side-skip : (names all : List (List ℕ)) (v : ℕ) (X : List Bool) (left : List (List ℕ)) → AllPairs (λ a b. a ≢ b) names → v < length names → ((more : List (List ℕ)) → left ≡ get_or names v [] ∷ more → ⊥) → SideRead names all v X left → SideRead names all (v + 1) X left
side-skip names all v X left apart l other r =
    let same : set X v false ≡ X = ap (set X v) (sym (r.later v (omega arith))) ∙ set-get_or X v false in
    subst (λ Y. SideRead names all (v + 1) Y left) same (side-step names all v X left left (get_or names v []) false apart l refl r refl (λ _. other))

pub side-skips : (names all : List (List ℕ)) (d v w : ℕ) (X : List Bool) (left : List (List ℕ)) → w ≡ v + d → AllPairs (λ a b. a ≢ b) names → w ≤ length names → ((u : ℕ) → v ≤ u → u < w → (more : List (List ℕ)) → left ≡ get_or names u [] ∷ more → ⊥) → SideRead names all v X left → SideRead names all w X left
side-skips names all zero v w X left far apart l other r = subst (λ u. SideRead names all u X left) (omega (arith, far)) r
side-skips names all (suc d) v w X left far apart l other r =
    side-skips names all d (v + 1) w X left (omega (arith, far)) apart l (λ u from. other u (omega (arith, from)))
    (side-skip names all v X left apart (omega (arith, far, l)) (other v (omega arith) (omega (arith, far))) r)

-- where no word is left, the side has been read
pub side-done : (names all : List (List ℕ)) (v : ℕ) (X : List Bool) (left : List (List ℕ)) → AllPairs (λ a b. a ≢ b) names → v ≤ length names → SideRead names all v X left → left ≡ [] → names_in names X ≡ all
side-done names all v X left apart l r none =
    let read = side-skips names all (length names - v) v (length names) X left (omega (arith, l)) apart (omega arith) (λ u _ _ more e. absurd (cc (none, e))) r in
    sym (read.front ∙ ap (λ ws. names_in (take (length names) names) (take (length names) X) ++ ws) none ∙ append-nil (names_in (take (length names) names) (take (length names) X)) ∙ ap (λ ns. names_in ns (take (length names) X)) (take-length names) ∙ ap (λ n. names_in names (take n X)) (sym r.long) ∙ ap (names_in names) (take-length X))

-- where the next word names no later node, no side has all the names
pub side-lack : (names all : List (List ℕ)) (v : ℕ) (X : List Bool) (word : List ℕ) (more : List (List ℕ)) → AllPairs (λ a b. a ≢ b) names → v ≤ length names → ((u : ℕ) → v ≤ u → u < length names → get_or names u [] ≢ word) → SideRead names all v X (word ∷ more) → (Y : List Bool) → length Y ≡ length names → names_in names Y ≡ all → ⊥
side-lack names all v X word more apart l missing r Y long e =
    let read = side-skips names all (length names - v) v (length names) X (word ∷ more) (omega (arith, l)) apart (omega arith) (λ u from within _ same. missing u from within (sym cc)) r in
    absurd (cc (read.only Y long e, ap (λ ns. names_in ns (drop (length names) Y)) (drop-length names)))
