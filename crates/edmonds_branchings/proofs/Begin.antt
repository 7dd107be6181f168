-- The begin of a round.
use Rattle.std.specs.Prelude.{ℕ, ◌≡◌, ◌≢◌, ◌+◌, ◌<◌, Bool, true, false, List, [], length, replicate, slice_set}
use Rattle.std.proofs.Common.{sym, ap, ◌∙◌, subst, arith}
use Rattle.std.proofs.lemmas.List.{length-set, length-replicate, get_or-set_other}
use Rattle.std.proofs.lemmas.List.Elements.{All-nil}
use Rattle.graph_core.specs.Side.{has, size}
use Rattle.graph_core.proofs.Counting.{weight}
use Rattle.graph_core.proofs.FamilyLaws.{size-nonempty}
use Rattle.graph_core.proofs.SideLaws.{has-none}
use Rattle.graph_core.proofs.SizeLaws.{size-none}
use Rattle.graph_core.specs.declared.graph.Line.{Line}
use Rattle.flow_cuts.specs.declared.network.Cap.{Cap}
use Rattle.edmonds_branchings.specs.Network.{IsLeft}
use Rattle.edmonds_branchings.specs.Round.{HasCapacity, IsRound, AreRefused}
use Rattle.edmonds_branchings.specs.Row.{IsRow}
use Rattle.edmonds_branchings.proofs.Row.{IsInner}
use Rattle.graph_core.proofs.PutLaws.{put_here, size-put}

-- the last node alone is covered
pub record IsBegun (n : ℕ) (T : List Bool) : Type 0 where
  pub long : length T ≡ n + 1
  pub one : size T ≡ 1
  pub last : has T n ≡ true
  pub others : (v : ℕ) → v ≢ n → has T v ≡ false

pub begun : (n : ℕ) (T : List Bool) → T ≡ slice_set (replicate (n + 1) false) n true → IsBegun n T
begun n T is =
    let none = replicate (n + 1) false in
    let all : length none ≡ n + 1 = length-replicate (n + 1) false in
    let P : List Bool → Type 0 = IsBegun n in
    subst P (sym is) (record {
      long = length-set none n true ∙ all;
      one = omega (arith, size-put none n (omega arith) (has-none (n + 1) n), size-none (replicate (n + 1) false) (has-none (n + 1)));
      last = put_here none n (omega arith);
      others = λ v ne. get_or-set_other none n v true false ne ∙ has-none (n + 1) v;
    })

pub none_refused : (n k : ℕ) (arcs : List Cap) (R : List Bool) (m : ℕ) → R ≡ replicate m false → AreRefused n k arcs R
none_refused n k arcs R m is j h = absurd (cc (ap (λ S. has S j) is ∙ has-none m j, h))

pub round_begun : {n k : ℕ} {arcs : List Cap} {T : List Bool} → HasCapacity n k arcs → IsBegun n T → IsRound n k arcs T
round_begun h b = record { long = b.long; last = b.last; most = λ X x. omega (arith, h X x); apart = λ X x a. h X x }

pub row_begun : {n : ℕ} {ls : List Line} {arcs : List Cap} {T : List Bool} → IsLeft n ls arcs → IsBegun n T → IsRow n ls arcs arcs T []
row_begun {n} {ls} {arcs} {T} left b = record {
  left = left;
  numbers = All-nil (λ j. j < length ls);
  once = λ j l. omega arith;
  inner = All-nil (IsInner T);
  heads = λ v. omega arith;
  acyclic = λ X x. size-nonempty X x.some_in;
  begin = λ v l. omega (arith, ap weight (b.others v (λ e. absurd (omega arith))));
}
