use Rattle.std.proofs.Common.{◌≡◌, sym, ap, ◌∙◌, subst}
use Rattle.std.proofs.lemmas.Result.{IfOk-weaker}
use Rattle.graph_core.specs.Pairs.{pairs_of}
use Rattle.split_undirected.specs.Split.{IsSplit}
use Rattle.split_undirected.proofs.RowLaws.{is_split}
use Rattle.split_undirected.proofs.single.split_all.Goals as goal

pub returns : goal.returns
returns c =
    let star = c.args.star.now in
    let Off = IsSplit c.args.k star in
    IfOk-weaker c.written_out.result (λ pairs. pairs ≡ pairs_of c.as_slice.result.now) Off
    (λ pairs e. subst Off (sym (e ∙ ap pairs_of c.as_slice.ensures)) (is_split star c.in_ok-rows.ensures)) c.written_out.ensures
