use Rattle.std.proofs.Common.{◌≡◌, length, sym, ap, ◌∙◌, subst}
use Rattle.std.proofs.lemmas.Result.{IfOk-weaker}
use Rattle.graph_core.specs.Pairs.{pairs_of}
use Rattle.cut_fn.specs.Stars.{star_of}
use Rattle.split_directed.specs.Pairs.{SplitInto}
use Rattle.split_directed.specs.State.{IsCoveredStar}
use Rattle.split_directed.proofs.WrittenPairs.{written_out}
use Rattle.split_directed.proofs.all.split_all.Goals as goal

pub returns : goal.returns
returns c =
    let star = c.args.star.now in
    let s = star_of star in
    let n = length star.graph.names in
    let covered : IsCoveredStar n c.args.k s = record { fits = c.known.ensures.makes.ends; into_long = star.into_long; out_long = star.out_long; enters = c.requires.enters; leaves = c.requires.leaves } in
    let Into = SplitInto n c.args.k s in
    IfOk-weaker c.written_out.result (λ pairs. pairs ≡ pairs_of c.as_slice.result.now) Into
    (λ pairs e. subst Into (sym (e ∙ ap pairs_of c.as_slice.ensures)) (written_out c.in_ok-rows.rows covered c.in_ok-rows.ensures)) c.written_out.ensures
