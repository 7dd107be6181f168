-- How a side grows by pairs that cross it.
use Rattle.std.proofs.Common.{◌≡◌, ℕ, zero, suc, ◌+◌, ◌<◌, ◌≤◌, Bool, true, false, ◌&&◌, List, [], ◌∷◌, ◌++◌, length, refl, sym, ap, ◌∙◌, take, subst, arith}
use Rattle.std.specs.Prelude.{◌||◌, remove}
use Rattle.std.specs.Bool.{OnTrue, OnFalse}
use Rattle.std.proofs.lemmas.List.Sums.{sum_by-cons, sum_by-append}
use Rattle.std.proofs.lemmas.List.Elements.{All-more, All-append}
use Rattle.graph_core.specs.Side.{has, size, IsOnly}
use Rattle.graph_core.proofs.PutLaws.{size-only}
use Rattle.graph_core.proofs.Counting.{weight}
use Rattle.graph_core.proofs.FamilyLaws.{count_by-le}
use Rattle.graph_core.specs.Pairs.{pair_at}
use Rattle.certificate_checker.specs.TreeSides.{inside, AreUncrossed, AddsOther, IsGrown, IsReach}

pub grown-same : (pairs : List (ℕ × ℕ × ℕ)) (X : List Bool) → IsGrown pairs X X
grown-same pairs X = record { long = refl; keeps = λ w h. h; paid = omega arith }

pub grown-on : (pairs : List (ℕ × ℕ × ℕ)) (X Y Z : List Bool) → IsGrown pairs X Y → IsGrown pairs Y Z → IsGrown pairs X Z
grown-on pairs X Y Z a b = record {
  long = b.long ∙ a.long;
  keeps = λ w h. b.keeps w (a.keeps w h);
  paid = let p = a.paid in let q = b.paid in omega arith;
}

both-le : (a b c d : Bool) → (a ≡ true → c ≡ true) → (b ≡ true → d ≡ true) → weight (a && b) ≤ weight (c && d)
both-le true true c d f g = rw (f refl, g refl) (omega arith)
both-le true false c d f g = omega arith
both-le false b c d f g = omega arith

pub inside-le : (X Y : List Bool) → ((w : ℕ) → has X w ≡ true → has Y w ≡ true) → (pairs : List (ℕ × ℕ × ℕ)) → inside X pairs ≤ inside Y pairs
inside-le X Y keeps pairs = count_by-le (λ p. has X p.0 && has X p.1) (λ p. has Y p.0 && has Y p.1) (λ p. both-le (has X p.0) (has X p.1) (has Y p.0) (has Y p.1) (keeps p.0) (keeps p.1)) pairs

inside-more : (X Y : List Bool) → ((w : ℕ) → has X w ≡ true → has Y w ≡ true) → (pairs : List (ℕ × ℕ × ℕ)) (i : ℕ) → i < length pairs
    → (has X (pair_at pairs i).0 && has X (pair_at pairs i).1) ≡ false → (has Y (pair_at pairs i).0 && has Y (pair_at pairs i).1) ≡ true → inside X pairs + 1 ≤ inside Y pairs
inside-more X Y keeps [] i l out in_both = absurd (omega arith)
inside-more X Y keeps (p ∷ pairs) zero l out in_both =
    omega (
      arith,
      sum_by-cons (λ (q : ℕ × ℕ × ℕ). weight (has X q.0 && has X q.1)) p pairs,
      sum_by-cons (λ (q : ℕ × ℕ × ℕ). weight (has Y q.0 && has Y q.1)) p pairs,
      ap weight out,
      ap weight in_both,
      inside-le X Y keeps pairs,
    )
inside-more X Y keeps (p ∷ pairs) (suc i) l out in_both =
    omega (
      arith,
      sum_by-cons (λ (q : ℕ × ℕ × ℕ). weight (has X q.0 && has X q.1)) p pairs,
      sum_by-cons (λ (q : ℕ × ℕ × ℕ). weight (has Y q.0 && has Y q.1)) p pairs,
      both-le (has X p.0) (has X p.1) (has Y p.0) (has Y p.1) (keeps p.0) (keeps p.1),
      inside-more X Y keeps pairs i (omega arith) out in_both,
    )

pub grown-other : (pairs : List (ℕ × ℕ × ℕ)) (X Y : List Bool) (i : ℕ) → i < length pairs → AddsOther (pair_at pairs i).0 (pair_at pairs i).1 X Y → IsGrown pairs X Y
grown-other pairs X Y i l a = record {
  long = a.long;
  keeps = a.keeps;
  paid = let one = a.one in let more = inside-more X Y a.keeps pairs i l a.crossed (λ z. a.first z && a.second z) in omega arith;
}

pub grown-both : (before behind : List (ℕ × ℕ × ℕ)) (X Y Z : List Bool) → IsGrown before X Y → IsGrown behind Y Z → IsGrown (before ++ behind) X Z
grown-both before behind X Y Z a b = record {
  long = b.long ∙ a.long;
  keeps = λ w h. b.keeps w (a.keeps w h);
  paid =
      let p = a.paid in
      let q = b.paid in
      omega (
        arith,
        sum_by-append (λ (q : ℕ × ℕ × ℕ). weight (has X q.0 && has X q.1)) before behind,
        sum_by-append (λ (q : ℕ × ℕ × ℕ). weight (has Z q.0 && has Z q.1)) before behind,
        inside-le X Y a.keeps behind,
        inside-le Y Z b.keeps before,
      );
}

pub grown-step : (pairs : List (ℕ × ℕ × ℕ)) (X Y Z : List Bool) (i : ℕ) (added : Bool) → IsGrown pairs X Y → i < length pairs → OnTrue added (AddsOther (pair_at pairs i).0 (pair_at pairs i).1 Y Z)
    → OnFalse added ((Z ≡ Y) × (has Y (pair_at pairs i).0 ≡ has Y (pair_at pairs i).1)) → IsGrown pairs X Z
grown-step pairs X Y Z i true grown l across along = grown-on pairs X Y Z grown (grown-other pairs Y Z i l across)
grown-step pairs X Y Z i false grown l across along = subst (IsGrown pairs X) (sym along.0) grown

-- a pass that has come to pair i
pub record IsSpread (pairs : List (ℕ × ℕ × ℕ)) (X Y : List Bool) (i : ℕ) (added : Bool) : Type 0 where
  pub grown : IsGrown pairs X Y
  pub more : OnTrue added (size X < size Y)
  pub done : OnFalse added ((Y ≡ X) × AreUncrossed Y (take i pairs))

pub spread-first : (pairs : List (ℕ × ℕ × ℕ)) (X : List Bool) → IsSpread pairs X X 0 false
spread-first pairs X = record { grown = grown-same pairs X; more = tt; done = (refl, λ k d l. absurd (omega arith)) }

size-so_far : (pairs : List (ℕ × ℕ × ℕ)) (X Y : List Bool) (i : ℕ) (added : Bool) → IsSpread pairs X Y i added → size X ≤ size Y
size-so_far pairs X Y i true s = let m = s.more in omega arith
size-so_far pairs X Y i false s = let e : size Y ≡ size X = ap size s.done.0 in omega arith

pub spread-across : (pairs : List (ℕ × ℕ × ℕ)) (X Y Z : List Bool) (i : ℕ) (added : Bool) → IsSpread pairs X Y i added → i < length pairs
    → AddsOther (pair_at pairs i).0 (pair_at pairs i).1 Y Z → IsSpread pairs X Z (i + 1) true
spread-across pairs X Y Z i added s l a = record {
  grown = grown-on pairs X Y Z s.grown (grown-other pairs Y Z i l a);
  more = let one = a.one in let so_far = size-so_far pairs X Y i added s in omega arith;
  done = tt;
}

spread-done : (pairs : List (ℕ × ℕ × ℕ)) (X Y : List Bool) (i : ℕ) (added : Bool) → OnFalse added ((Y ≡ X) × AreUncrossed Y (take i pairs)) → i < length pairs
    → has Y (pair_at pairs i).0 ≡ has Y (pair_at pairs i).1 → OnFalse added ((Y ≡ X) × AreUncrossed Y (take (i + 1) pairs))
spread-done pairs X Y i true done l e = tt
spread-done pairs X Y i false done l e = (done.0, All-more (λ p. has Y p.0 ≡ has Y p.1) pairs i (0, 0, 0) l done.1 e)

pub spread-along : (pairs : List (ℕ × ℕ × ℕ)) (X Y Z : List Bool) (i : ℕ) (added : Bool) → IsSpread pairs X Y i added → i < length pairs
    → Z ≡ Y → has Y (pair_at pairs i).0 ≡ has Y (pair_at pairs i).1 → IsSpread pairs X Z (i + 1) added
spread-along pairs X Y Z i added s l same e = subst (λ S. IsSpread pairs X S (i + 1) added) (sym same) (record {
  grown = s.grown;
  more = s.more;
  done = spread-done pairs X Y i added s.done l e;
})

-- a pass over the pairs before, and one over those behind
pub grow-done : (before behind : List (ℕ × ℕ × ℕ)) (X Y Z : List Bool) (first second : Bool)
    → OnFalse first ((Y ≡ X) × AreUncrossed Y before) → OnFalse second ((Z ≡ Y) × AreUncrossed Z behind) → OnFalse (first || second) (AreUncrossed Z (before ++ behind))
grow-done before behind X Y Z true second a b = tt
grow-done before behind X Y Z false true a b = tt
grow-done before behind X Y Z false false a b = All-append (λ p. has Z p.0 ≡ has Z p.1) before behind (subst (λ S. AreUncrossed S before) (sym b.0) a.1) b.1

pub reach-made : (n : ℕ) (X Z : List Bool) (pairs : List (ℕ × ℕ × ℕ)) (j : ℕ) → length X ≡ n → IsOnly X (pair_at pairs j).0 → IsGrown (remove pairs j) X Z → AreUncrossed Z (remove pairs j) → IsReach n pairs j Z
reach-made n X Z pairs j long first grown uncrossed = record {
  long = grown.long ∙ long;
  holds = grown.keeps (pair_at pairs j).0 first.here;
  uncrossed = uncrossed;
  paid = let paid = grown.paid in omega (arith, size-only X (pair_at pairs j).0 first);
}
