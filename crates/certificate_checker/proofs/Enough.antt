-- New lines with two ends each, and sides that are proper.
use Rattle.std.proofs.Common.{get_or, ℕ, ◌≢◌, ◌<◌, Bool, List, [], ◌∷◌, length, All, refl, subst}
use Rattle.std.proofs.lemmas.List.Elements.{All-nil, All-cons, All-head, All-tail, All-weaker}
use Rattle.graph_core.specs.Graph.{Fits, line_of, lines_of}
use Rattle.graph_core.specs.Side.{IsProper}
use Rattle.problem_defs.specs.Shaped.{AreNodes, AreSides}

-- a side is proper among as many nodes as it is long
pub proper-own : (n : ℕ) (P : List (List Bool)) → All (IsProper n) P → All (λ X. IsProper (length X) X) P
proper-own n P proper = All-weaker (IsProper n) (λ X. IsProper (length X) X) (λ X p. record { long = refl; some_in = p.some_in; some_out = p.some_out }) P proper

pub own-proper : (n : ℕ) (P : List (List Bool)) → AreSides n P → All (λ X. IsProper (length X) X) P → All (IsProper n) P
own-proper n P long own k d l = subst (λ m. IsProper m (get_or P k d)) (long k d l) (own k d l)

-- pairs of different nodes are lines that fit
pub apart-fit : (n : ℕ) (pairs : List (ℕ × ℕ)) → AreNodes n pairs → All (λ p. p.0 ≢ p.1) pairs → All (Fits n) (lines_of pairs)
apart-fit n [] nodes apart = All-nil (Fits n)
apart-fit n (p ∷ pairs) nodes apart =
    let here = All-head (λ q. (q.0 < n) × (q.1 < n)) p pairs nodes in
    All-cons (Fits n) (line_of p) (lines_of pairs) (record { tail = here.0; head = here.1; apart = All-head (λ q. q.0 ≢ q.1) p pairs apart })
    (apart-fit n pairs (All-tail (λ q. (q.0 < n) × (q.1 < n)) p pairs nodes) (All-tail (λ q. q.0 ≢ q.1) p pairs apart))

pub fit-apart : (n : ℕ) (pairs : List (ℕ × ℕ)) → All (Fits n) (lines_of pairs) → All (λ p. p.0 ≢ p.1) pairs
fit-apart n [] fit = All-nil (λ p. p.0 ≢ p.1)
fit-apart n (p ∷ pairs) fit =
    let here = All-head (Fits n) (line_of p) (lines_of pairs) fit in
    All-cons (λ q. q.0 ≢ q.1) p pairs here.apart (fit-apart n pairs (All-tail (Fits n) (line_of p) (lines_of pairs) fit))
