use Rattle.std.proofs.Common.{◌≡◌, ◌<◌, ◌≤◌, ◌++◌, ◌∷◌, take, length, ◌∙◌, arith, rules}
use Rattle.std.specs.Prelude.{codes}
use Rattle.std.specs.List.{join_with_byte}
use Rattle.std.proofs.lemmas.List.{take_all}
use Rattle.std.proofs.lemmas.Result.{on_ok_weaker}
use Rattle.certificate_text.specs.Words.{names_in}
use Rattle.certificate_text.proofs.WriteLaws.{set-more, line-closed}
use Rattle.certificate_text.proofs.spell.push_set.Goals as goal

pub loop-v-preserved : goal.loop-v-preserved
loop-v-preserved c =
    let g = c.args.graph.now in
    let X = c.args.side.now in
    let v = c.loop-v.v in
    let old = c.args.text.now.items in
    let a : v < length g.names = search rules in
    let b : v < length X = omega (arith, a, c.requires) in
    let now : c.loop-v.text.items ≡ old ++ join_with_byte 32 (codes "set" ∷ names_in (take v g.names) (take v X)) = c.loop-v.invariant in
    set-more g X v old c.loop-v.text.items c.push_member.new.text.items a b now c.in_ok-push_member.ensures

pub returns : goal.returns
returns c =
    let names = c.args.graph.now.names in
    let X = c.args.side.now in
    let v = c.loop-v.v in
    let old = c.args.text.now.items in
    let a : length names ≤ v = omega arith in
    let b : length X ≤ v = omega arith in
    let whole = c.loop-v.invariant ∙ (λ i. old ++ join_with_byte 32 (codes "set" ∷ names_in (take_all v names a i) (take_all v X b i))) in
    on_ok_weaker c.push_text-2.result (line-closed old (join_with_byte 32 (codes "set" ∷ names_in names X)) c.loop-v.text.items c.push_text-2.new.text.items whole) c.push_text-2.ensures
