use Rattle.std.proofs.Common.{◌≡◌, ◌+◌, ◌-◌, ◌*◌, ◌++◌, [], ◌∷◌, map, refl, sym, ap, ◌∙◌, arith, append_assoc, append-nil}
use Rattle.std.specs.List.{range_with_len}
use Rattle.std.proofs.lemmas.List.FromFn.{map-range_with_len_more}
use Rattle.connect_gen.specs.Draws.{next_state, state}
use Rattle.connect_gen.specs.Generated.{tree_line, further_line}
use Rattle.connect_gen.proofs.DrawLaws.{state-none, state-more}
use Rattle.connect_gen.proofs.generated.lines.Goals as goal

pub loop-i-init : goal.loop-i-init
loop-i-init c = record {
  state = c.from.ensures ∙ sym (state-none c.args.number);
  lines = c.in_ok-lines.ensures.items;
}

pub loop-i-preserved : goal.loop-i-preserved
loop-i-preserved c =
    let i = c.loop-i.i in
    let f = tree_line c.args.number in
    let some = c.loop-i.auto.i in
    let step : i + 1 - 1 ≡ i - 1 + 1 = omega arith in
    let stands : i + 1 - 1 ≡ i = omega arith in
    let next : next_state (state c.args.number (i - 1)) ≡ state c.args.number i = state-more c.args.number (i - 1) i (omega arith) in
    let now : next_state c.loop-i.draws.state ≡ state c.args.number i = ap next_state c.loop-i.invariant.state ∙ next in
    let line_is : c.line.result ≡ f i = cc (now, c.line.ensures, c.draw.ensures.value) in
    let more = map-range_with_len_more f 1 (i - 1) i (omega arith) in
    record {
      state = c.draw.ensures.state ∙ now ∙ ap (state c.args.number) (sym stands);
      lines = cc (more, step, line_is, c.in_ok-push.ensures.items, c.loop-i.invariant.lines);
    }

pub loop-j-init : goal.loop-j-init
loop-j-init c =
    let ended : c.loop-i.i ≡ c.args.nodes = omega arith in
    let zero_on : c.args.nodes - 1 + 2 * 0 ≡ c.args.nodes - 1 = omega arith in
    record {
      state = c.loop-i.invariant.state ∙ ap (λ i. state c.args.number (i - 1)) ended ∙ ap (state c.args.number) (sym zero_on);
      lines =
          c.loop-i.invariant.lines
          ∙ ap (λ i. map (tree_line c.args.number) (range_with_len 1 (i - 1))) ended
          ∙ sym (append-nil (map (tree_line c.args.number) (range_with_len 1 (c.args.nodes - 1))));
    }

pub loop-j-preserved : goal.loop-j-preserved
loop-j-preserved c =
    let number = c.args.number in
    let nodes = c.args.nodes in
    let j = c.loop-j._j in
    let f = further_line number nodes in
    let tree = map (tree_line number) (range_with_len 1 (nodes - 1)) in
    let one : next_state (state number (nodes - 1 + 2 * j)) ≡ state number (nodes + 2 * j) = state-more number (nodes - 1 + 2 * j) (nodes + 2 * j) (omega arith) in
    let two : next_state (state number (nodes + 2 * j)) ≡ state number (nodes + 2 * j + 1) = state-more number (nodes + 2 * j) (nodes + 2 * j + 1) refl in
    let now_one : next_state c.loop-j.draws.state ≡ state number (nodes + 2 * j) = ap next_state c.loop-j.invariant.state ∙ one in
    let now_two : next_state (next_state c.loop-j.draws.state) ≡ state number (nodes + 2 * j + 1) = ap next_state now_one ∙ two in
    let line_is : c.draw_chord.result ≡ f j = cc (c.draw_chord.ensures.line, now_one, now_two) in
    let more = map-range_with_len_more f 0 j j (omega arith) in
    let stands : nodes - 1 + 2 * (j + 1) ≡ nodes + 2 * j + 1 = omega arith in
    record {
      state = c.draw_chord.ensures.state ∙ now_two ∙ ap (state number) (sym stands);
      lines = cc (more, line_is, append_assoc tree (map f (range_with_len 0 j)) (f j ∷ []), c.in_ok-push-2.ensures.items, c.loop-j.invariant.lines);
    }

pub returns : goal.returns
returns c =
    let ended : c.loop-j._j ≡ 3 * c.args.nodes = omega arith in
    c.loop-j.invariant.lines ∙ ap (λ n. map (tree_line c.args.number) (range_with_len 1 (c.args.nodes - 1)) ++ map (further_line c.args.number c.args.nodes) (range_with_len 0 n)) ended
