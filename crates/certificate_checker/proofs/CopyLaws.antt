-- Tables of lines counted up to a limit.
use Rattle.std.proofs.Math.Seq.{take-suc}
use Rattle.std.proofs.lemmas.Nat.{div_below}
use Rattle.std.proofs.Math.Nat.{mod-lt}
use Rattle.std.proofs.lemmas.List.{length-take-le}
use Rattle.std.proofs.lemmas.List.Elements.{All-nil, All-cons, All-append}
use Rattle.std.proofs.lemmas.List.Sums.{sum_by-append, sum_by-cons}
use Rattle.std.proofs.Common.{take, add-one, length-append, ℕ, zero, suc, ◌≡◌, ◌+◌, ◌*◌, ◌/◌, ◌%◌, ◌<◌, ◌≤◌, ◌++◌, ◌⊎◌, inl, inr, Bool, true, false, not, ◌&&◌, List, [], ◌∷◌, length, get_or, set, replicate, refl, sym, ap, ◌∙◌, subst, arith}
use Rattle.graph_core.specs.Side.{has}
use Rattle.graph_core.specs.Lines.{differ, crosses, enters, degree, entering}
use Rattle.graph_core.specs.declared.graph.Kind.{Kind}
use Rattle.graph_core.specs.declared.graph.Kind.TheVariants.{Undirected, Directed}
use Rattle.graph_core.specs.declared.graph.Line.{Line}
use Rattle.graph_core.proofs.Counting.{weight}
use Rattle.flow_cuts.specs.Network.{across, leaving}
use Rattle.flow_cuts.specs.declared.network.Cap.{Cap}
use Rattle.problem_defs.specs.Orient.{turn, turned}
use Rattle.certificate_checker.specs.Copies.{weighed, leaving_by, Writes, cut_count, line_count, CountsMore, AgreeUpTo, Counts}

across_none : (a b : Bool) → across a b 0 ≡ 0
across_none true true = refl
across_none true false = refl
across_none false b = refl

-- an empty table
weighed-none : (w : ℕ → ℕ → ℕ) (m : ℕ) → ((place : ℕ) → w place 0 ≡ 0) → weighed w (replicate m 0) ≡ 0
weighed-none w zero none = refl
weighed-none w (suc m) none = omega (arith, none 0, weighed-none (λ place. w (suc place)) m (λ place. none (suc place)))

pub leaving-none : (n m : ℕ) (X : List Bool) → leaving_by n X (replicate m 0) ≡ 0
leaving-none n m X = weighed-none (λ place c. across (has X (place / n)) (has X (place % n)) c) m (λ place. across_none (has X (place / n)) (has X (place % n)))

-- one number of the table is another
weighed-set : (w : ℕ → ℕ → ℕ) (table : List ℕ) (j c : ℕ) → j < length table → weighed w (set table j c) + w j (get_or table j 0) ≡ weighed w table + w j c
weighed-set w [] j c short = absurd (omega arith)
weighed-set w (x ∷ table) zero c short = omega arith
weighed-set w (x ∷ table) (suc j) c short = let rest = weighed-set (λ place. w (suc place)) table j c (omega arith) in omega arith

-- and no more than the whole
weighed-ge : (w : ℕ → ℕ → ℕ) (table : List ℕ) (j : ℕ) → j < length table → w j (get_or table j 0) ≤ weighed w table
weighed-ge w [] j short = absurd (omega arith)
weighed-ge w (x ∷ table) zero short = omega arith
weighed-ge w (x ∷ table) (suc j) short = let rest = weighed-ge (λ place. w (suc place)) table j (omega arith) in omega arith

-- one number more at the end
pub weighed-push : (w : ℕ → ℕ → ℕ) (table : List ℕ) (c : ℕ) → weighed w (table ++ c ∷ []) ≡ weighed w table + w (length table) c
weighed-push w [] c = omega arith
weighed-push w (x ∷ table) c = let rest = weighed-push (λ place. w (suc place)) table c in omega arith

across_one : (a b : Bool) (c : ℕ) → across a b (c + 1) ≡ across a b c + across a b 1
across_one true true c = refl
across_one true false c = omega arith
across_one false b c = refl

across_whole : (a b : Bool) (c : ℕ) → (across a b 1 ≡ 0) ⊎ (across a b c ≡ c)
across_whole true true c = inl refl
across_whole true false c = inr refl
across_whole false b c = inl refl

-- a line from u to v is counted, where fewer than k are
module _ (n k u v : ℕ) (old new : List ℕ) (f : List Bool → ℕ) (short : u * n + v < length old) (row : (u * n + v) / n ≡ u) (column : (u * n + v) % n ≡ v) (counts : Counts n k old f) where
  pub counts-one : get_or old (u * n + v) 0 < k → new ≡ set old (u * n + v) (get_or old (u * n + v) 0 + 1) → Counts n k new (λ X. f X + across (has X u) (has X v) 1)
  counts-one few is X =
      let place = u * n + v in
      let c = get_or old place 0 in
      let w : ℕ → ℕ → ℕ = λ p m. across (has X (p / n)) (has X (p % n)) m in
      let at : (m : ℕ) → w place m ≡ across (has X u) (has X v) m = λ m t. across (has X (row t)) (has X (column t)) m in
      let changed : leaving_by n X new + w place c ≡ leaving_by n X old + w place (c + 1) = rw is (weighed-set w old place (c + 1) short) in
      let before = at c in
      let after = at (c + 1) in
      let more = across_one (has X u) (has X v) c in
      elim (counts X) [
        | inl same ↦ inl (omega arith)
        | inr (many, enough) ↦ inr (omega arith, omega arith)
      ]

  pub counts-full : k ≤ get_or old (u * n + v) 0 → Counts n k old (λ X. f X + across (has X u) (has X v) 1)
  counts-full full X =
      let place = u * n + v in
      let w : ℕ → ℕ → ℕ = λ p m. across (has X (p / n)) (has X (p % n)) m in
      let at : w place (get_or old place 0) ≡ across (has X u) (has X v) (get_or old place 0) = λ t. across (has X (row t)) (has X (column t)) (get_or old place 0) in
      let here : w place (get_or old place 0) ≤ leaving_by n X old = weighed-ge w old place short in
      elim (counts X) [
        | inl same ↦ elim (across_whole (has X u) (has X v) (get_or old place 0)) [
          | inl out ↦ inl (omega arith)
          | inr whole ↦ inr (omega arith, omega arith)
        ]
        | inr (many, enough) ↦ inr (omega arith, omega arith)
      ]

pub crosses-across : (a b : Bool) → across a b 1 + across b a 1 ≡ weight (differ a b)
crosses-across true true = refl
crosses-across true false = refl
crosses-across false true = refl
crosses-across false false = refl

pub enters-across : (a b : Bool) → across b a 1 ≡ weight (b && not a)
enters-across true true = refl
enters-across true false = refl
enters-across false true = refl
enters-across false false = refl

-- the same function
pub counts-same : (n k : ℕ) (table : List ℕ) (f g : List Bool → ℕ) → ((X : List Bool) → f X ≡ g X) → Counts n k table f → Counts n k table g
counts-same n k table f g same counts X = subst (λ m. AgreeUpTo k (leaving_by n X table) m) (same X) (counts X)

-- the table goes on by the number at a place
module _ (n : ℕ) (table : List ℕ) (j : ℕ) (some : 1 ≤ n) (long : length table ≡ n * n) (short : j < length table) where
  next : (X : List Bool) → leaving_by n X (take (j + 1) table) ≡ leaving_by n X (take j table) + across (has X (j / n)) (has X (j % n)) (get_or table j 0)
  next X =
      let w : ℕ → ℕ → ℕ = λ place c. across (has X (place / n)) (has X (place % n)) c in
      let more : take (j + 1) table ≡ take j table ++ (get_or table j 0 ∷ []) = rw add-one (take-suc table j 0 short) in
      ap (leaving_by n X) more ∙ weighed-push w (take j table) (get_or table j 0) ∙ (λ t. leaving_by n X (take j table) + w (length-take-le j table (omega arith) t) (get_or table j 0))

  longer : length (take (j + 1) table) ≡ j + 1
  longer = length-take-le (j + 1) table (omega arith)

  pub writes-none : (arcs : List Cap) → get_or table j 0 ≡ 0 → Writes n arcs (take j table) → Writes n arcs (take (j + 1) table)
  writes-none arcs none w = record {
    few = let was = w.few in omega (arith, longer, length-take-le j table (omega arith));
    ends = w.ends;
    capacity = λ X. w.capacity X ∙ sym (next X ∙ (λ t. leaving_by n X (take j table) + across (has X (j / n)) (has X (j % n)) (none t)) ∙ ap (λ m. leaving_by n X (take j table) + m) (across_none (has X (j / n)) (has X (j % n))) ∙ omega arith);
  }

  pub writes-push : (arcs : List Cap) (c : ℕ) → c ≡ get_or table j 0 → Writes n arcs (take j table) → Writes n (arcs ++ record { tail = j / n; head = j % n; cap = c } ∷ []) (take (j + 1) table)
  writes-push arcs c is w =
      let a : Cap = record { tail = j / n; head = j % n; cap = c } in
      let tail : j / n < n = div_below j n n some (rw (← long) short) in
      let head : j % n < n = mod-lt j (omega arith) in
      record {
        few = let was = w.few in omega (arith, longer, length-take-le j table (omega arith), length-append arcs (a ∷ []));
        ends = All-append (λ b. (b.tail < n) × (b.head < n)) arcs (a ∷ []) w.ends (All-cons (λ b. (b.tail < n) × (b.head < n)) a [] (tail, head) (All-nil (λ b. (b.tail < n) × (b.head < n))));
        capacity = λ X.
            let all = sum_by-append (leaving X) arcs (a ∷ []) in
            let one = sum_by-cons (leaving X) a [] in
            let same : leaving X a ≡ across (has X (j / n)) (has X (j % n)) (get_or table j 0) = λ t. across (has X (j / n)) (has X (j % n)) (is t) in
            let was = w.capacity X in
            omega (arith, next X);
      }

-- a line, counted as its kind wants it
pub line-both : (X : List Bool) (u v : ℕ) → across (has X u) (has X v) 1 + across (has X v) (has X u) 1 ≡ line_count Undirected X u v
line-both X u v = crosses-across (has X u) (has X v)

pub line-turned : (X : List Bool) (u v : ℕ) → across (has X v) (has X u) 1 ≡ line_count Directed X u v
line-turned X u v = enters-across (has X u) (has X v)

module _ (n k : ℕ) where
  pub more-same : (old new : List ℕ) (g h : List Bool → ℕ) → ((X : List Bool) → g X ≡ h X) → CountsMore n k old new g → CountsMore n k old new h
  more-same old new g h same more f counts = counts-same n k new (λ X. f X + g X) (λ X. f X + h X) (λ X. ap (λ m. f X + m) (same X)) (more f counts)

  pub more-both : (old now new : List ℕ) (g h : List Bool → ℕ) → CountsMore n k old now g → CountsMore n k now new h → CountsMore n k old new (λ X. g X + h X)
  more-both old now new g h first second f counts = counts-same n k new (λ X. f X + g X + h X) (λ X. f X + (g X + h X)) (λ X. omega arith) (second (λ X. f X + g X) (first f counts))

-- under other names of n and k
pub more-at : (n n' k k' : ℕ) (old new : List ℕ) (g : List Bool → ℕ) → n ≡ n' → k ≡ k' → CountsMore n k old new g → CountsMore n' k' old new g
more-at n n' k k' old new g en ek more = subst (λ i. CountsMore i k' old new g) en (subst (λ i. CountsMore n i old new g) ek more)

-- lines, one by one
pub count-next : (kind : Kind) (X : List Bool) (ls : List Line) (l : Line) → cut_count kind X (ls ++ l ∷ []) ≡ cut_count kind X ls + line_count kind X l.tail l.head
count-next Undirected X ls l = sum_by-append (λ x. weight (crosses X x)) ls (l ∷ []) ∙ ap (λ m. degree X ls + m) (sum_by-cons (λ x. weight (crosses X x)) l [] ∙ omega arith)
count-next Directed X ls l = sum_by-append (λ x. weight (enters X x)) ls (l ∷ []) ∙ ap (λ m. entering X ls + m) (sum_by-cons (λ x. weight (enters X x)) l [] ∙ omega arith)

pub count-append : (kind : Kind) (X : List Bool) (ls more : List Line) → cut_count kind X (ls ++ more) ≡ cut_count kind X ls + cut_count kind X more
count-append Undirected X ls more = sum_by-append (λ x. weight (crosses X x)) ls more
count-append Directed X ls more = sum_by-append (λ x. weight (enters X x)) ls more

pub turned-next : (ls : List Line) (heads : List Bool) (j : ℕ) (l : Line) → j < length ls → j < length heads → get_or ls j l ≡ l
    → turned (take (j + 1) ls) (take (j + 1) heads) ≡ turned (take j ls) (take j heads) ++ turn l (get_or heads j false) ∷ []
turned-next ls heads j l short each is = rw add-one (go ls heads j short each is)
  where
    go : (ls : List Line) (heads : List Bool) (j : ℕ) → j < length ls → j < length heads → get_or ls j l ≡ l → turned (take (suc j) ls) (take (suc j) heads) ≡ turned (take j ls) (take j heads) ++ turn l (get_or heads j false) ∷ []
    go [] heads j short each is = absurd (omega arith)
    go (x ∷ ls) [] j short each is = absurd (omega arith)
    go (x ∷ ls) (h ∷ heads) zero short each is = ap (λ y. turn y h ∷ []) is
    go (x ∷ ls) (h ∷ heads) (suc j) short each is = ap (λ rest. turn x h ∷ rest) (go ls heads j (omega arith) (omega arith) is)

-- a turned line more
pub more-turned : (n k : ℕ) (old now new : List ℕ) (ls : List Line) (heads : List Bool) (j : ℕ) (l : Line) (h : Bool) → j < length ls → j < length heads → get_or ls j l ≡ l → get_or heads j false ≡ h
    → CountsMore n k old now (λ X. cut_count Directed X (turned (take j ls) (take j heads))) → CountsMore n k now new (λ X. line_count Directed X (turn l h).tail (turn l h).head)
    → CountsMore n k old new (λ X. cut_count Directed X (turned (take (j + 1) ls) (take (j + 1) heads)))
more-turned n k old now new ls heads j l h short each is head before step =
    let next : turned (take (j + 1) ls) (take (j + 1) heads) ≡ turned (take j ls) (take j heads) ++ turn l h ∷ [] = turned-next ls heads j l short each is ∙ (λ t. turned (take j ls) (take j heads) ++ turn l (head t) ∷ []) in
    more-same n k old new (λ X. cut_count Directed X (turned (take j ls) (take j heads)) + line_count Directed X (turn l h).tail (turn l h).head) (λ X. cut_count Directed X (turned (take (j + 1) ls) (take (j + 1) heads)))
    (λ X. sym (ap (cut_count Directed X) next ∙ count-next Directed X (turned (take j ls) (take j heads)) (turn l h)))
    (more-both n k old now new (λ X. cut_count Directed X (turned (take j ls) (take j heads))) (λ X. line_count Directed X (turn l h).tail (turn l h).head) before step)
