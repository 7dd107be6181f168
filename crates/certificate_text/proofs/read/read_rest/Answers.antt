use Rattle.std.proofs.Common.{◌≡◌, ◌+◌, ◌-◌, ◌≤◌, ◌++◌, ◌∷◌, ◌⊎◌, [], None, Some, length, length-append, sym, ap, subst, ◌∙◌, inl, inr, arith, rules}
use Rattle.std.specs.Option.{option_and_then}
use Rattle.problem_defs.specs.declared.cert.Body.{Body}
use Rattle.certificate_text.specs.declared.line.CertLine.{CertLine}
use Rattle.certificate_text.specs.Words.{spelled}
use Rattle.certificate_text.specs.Valid.{IsValid}
use Rattle.certificate_text.specs.Forms.{has_form}
use Rattle.certificate_text.specs.Taking.{take_line}
use Rattle.certificate_text.specs.Places.{view}
use Rattle.certificate_text.specs.BadLine.{whole_lines}
use Rattle.certificate_text.specs.Gather.{with_line, body_of}
use Rattle.certificate_text.specs.Front.{IsAtFront}
use Rattle.certificate_text.specs.Loop.{Reading}
use Rattle.certificate_text.proofs.ReadLaws.{bad-next, bad-unread, bad-lost, reading-start, reading-next, reading-done}
use Rattle.certificate_text.proofs.CodeLaws.{reading-long}
use Rattle.certificate_text.proofs.read.read_rest.Goals as goal

pub returns-in_default-found-clause-bad : goal.returns-in_default-found-clause-bad
returns-in_default-found-clause-bad c =
    let inv = c.loop-front.invariant in
    let whole : whole_lines c.loop-front.rest.now ≡ c.in-Some.front.now ∷ whole_lines c.in-Some.behind.now = search rules in
    let none : (y : CertLine) → IsValid c.args.graph.now y → spelled c.args.graph.now y ≡ c.in-Some.front.now → ⊥ = rw c.in_default-found.is at c.in-Ok.ensures in
    bad-unread c.args.graph.now c.args.bytes.now c.args.ask inv.0 (view c.args.second) c.loop-front.rest.now c.loop-front.count (view c.loop-front.one) (view c.loop-front.two) c.loop-front.content c.in-Some.front.now c.in-Some.behind.now c.known.ensures inv.3 whole none

pub returns-then-are_lost-clause-bad : goal.returns-then-are_lost-clause-bad
returns-then-are_lost-clause-bad c =
    let inv = c.loop-front.invariant in
    let g = c.args.graph.now in
    let x = c.in-Some-found.line in
    let whole : whole_lines c.loop-front.rest.now ≡ c.in-Some.front.now ∷ whole_lines c.in-Some.behind.now = search rules in
    let said : IsValid g x × (spelled g x ≡ c.in-Some.front.now) = rw c.in-Some-found.is at c.in-Ok.ensures in
    let lost : (view c.next_place-one.result ≡ None) × (view c.next_place-two.result ≡ None) = c.are_lost.ensures.0 (search rules) in
    bad-lost g c.args.bytes.now c.args.ask inv.0 (view c.args.second) c.loop-front.rest.now c.loop-front.count (view c.loop-front.one) (view c.loop-front.two) c.loop-front.content c.in-Some.front.now c.in-Some.behind.now x c.known.ensures inv.2 inv.3 whole said.0 said.1 (sym c.next_place-one.ensures ∙ lost.0) (sym c.next_place-two.ensures ∙ lost.1)

pub returns-then-is_ended-clause-ok : goal.returns-then-is_ended-clause-ok
returns-then-is_ended-clause-ok c =
    let inv = c.loop-front.invariant in
    let g = c.args.graph.now in
    let x = c.in-Some-found.line in
    let cut : c.loop-front.rest.now ≡ c.in-Some.front.now ++ 10 ∷ c.in-Some.behind.now = search rules in
    let said : IsValid g x × (spelled g x ≡ c.in-Some.front.now) = rw c.in-Some-found.is at c.in-Ok.ensures in
    let ended : (view c.next_place-one.result ≡ Some []) ⊎ (view c.next_place-two.result ≡ Some []) = c.is_ended.ensures.0 (search rules) in
    let ended' : (option_and_then (λ left. take_line (has_form g) left x) (view c.loop-front.one) ≡ Some []) ⊎ (option_and_then (λ left. take_line (has_form g) left x) (view c.loop-front.two) ≡ Some []) =
    elim ended [ inl d ↦ inl (sym c.next_place-one.ensures ∙ d) | inr d ↦ inr (sym c.next_place-two.ensures ∙ d) ] in
    let long : length c.loop-front.rest.now ≡ length c.in-Some.front.now + length (10 ∷ c.in-Some.behind.now) = ap length cut ∙ length-append c.in-Some.front.now (10 ∷ c.in-Some.behind.now) in
    let few : length c.in-Some.behind.now ≤ length c.args.bytes.now = omega (arith, long, inv.4) in
    let n = length c.args.bytes.now - length c.in-Some.behind.now in
    let counted : n + length c.in-Some.behind.now ≡ length c.args.bytes.now = omega (arith, few) in
    let found = reading-done g c.args.bytes.now c.args.ask inv.0 (view c.args.second) c.loop-front.rest.now c.loop-front.count (view c.loop-front.one) (view c.loop-front.two) c.loop-front.content c.in-Some.front.now c.in-Some.behind.now x c.known.ensures inv.2 inv.3 cut said.0 said.1 ended' n counted in
    let body : body_of g c.args.ask (with_line c.loop-front.content x) ≡ c.in-Ok-make_body.body = ap (body_of g c.args.ask) (sym c.in-Ok-take.ensures) ∙ sym c.in-Ok-make_body.ensures in
    subst (λ (b : Body). IsAtFront g c.args.bytes.now (record { ask = c.args.ask; body = b }) n) body found

pub loop-front-preserved : goal.loop-front-preserved
loop-front-preserved c =
    let inv = c.loop-front.invariant in
    let g = c.args.graph.now in
    let x = c.in-Some-found.line in
    let cut : c.loop-front.rest.now ≡ c.in-Some.front.now ++ 10 ∷ c.in-Some.behind.now = search rules in
    let said : IsValid g x × (spelled g x ≡ c.in-Some.front.now) = rw c.in-Some-found.is at c.in-Ok.ensures in
    let going : (option_and_then (λ left. take_line (has_form g) left x) (view c.loop-front.one) ≡ None) × (option_and_then (λ left. take_line (has_form g) left x) (view c.loop-front.two) ≡ None) → ⊥ =
    λ none. let t = c.are_lost.ensures.1 (c.next_place-one.ensures ∙ none.0, c.next_place-two.ensures ∙ none.1) in search rules in
    let undone : (option_and_then (λ left. take_line (has_form g) left x) (view c.loop-front.one) ≡ Some []) ⊎ (option_and_then (λ left. take_line (has_form g) left x) (view c.loop-front.two) ≡ Some []) → ⊥ =
    λ done.
    let ended : (view c.next_place-one.result ≡ Some []) ⊎ (view c.next_place-two.result ≡ Some []) = elim done [ inl d ↦ inl (c.next_place-one.ensures ∙ d) | inr d ↦ inr (c.next_place-two.ensures ∙ d) ] in
    let t = c.is_ended.ensures.1 ended in search rules in
    let next = reading-next g c.args.bytes.now c.args.ask inv.0 (view c.args.second) c.loop-front.rest.now c.loop-front.count (view c.loop-front.one) (view c.loop-front.two) c.loop-front.content c.in-Some.front.now c.in-Some.behind.now x inv.2 inv.3 cut said.0 said.1 undone going in
    let next' : Reading g c.args.bytes.now c.args.ask inv.0 (view c.args.second) c.in-Some.behind.now (c.loop-front.count + 1) (view c.next_place-one.result) (view c.next_place-two.result) c.take.new.content = rw (c.next_place-one.ensures, c.next_place-two.ensures, c.in-Ok-take.ensures) next in
    (inv.0, inv.1, inv.2, next', reading-long g c.args.bytes.now c.args.ask inv.0 (view c.args.second) c.in-Some.behind.now (c.loop-front.count + 1) (view c.next_place-one.result) (view c.next_place-two.result) c.take.new.content next')

pub returns-clause-bad : goal.returns-clause-bad
returns-clause-bad c =
    let inv = c.loop-front.invariant in
    let whole : whole_lines c.loop-front.rest.now ≡ [] = search rules in
    bad-next c.args.graph.now c.args.bytes.now c.args.ask inv.0 (view c.args.second) c.loop-front.rest.now c.loop-front.count (view c.loop-front.one) (view c.loop-front.two) c.loop-front.content c.known.ensures inv.3 (rw whole tt)

pub loop-front-init : goal.loop-front-init
loop-front-init c =
    let g = c.args.graph.now in
    let bytes = c.args.bytes.now in
    let after = c.args.after.now in
    let row = c.requires.rows_are.0 in
    let two = view c.args.second in
    let start : Reading g bytes c.args.ask row two after 2 (view c.args.first) two c.empty_content-content.result = rw (c.requires.rows_are.1, c.empty_content-content.ensures) (reading-start g bytes c.args.ask row two after c.requires.begun) in
    (row, c.requires.rows_are.1, c.requires.rows_are.2, start, reading-long g bytes c.args.ask row two after 2 (view c.args.first) two c.empty_content-content.result start)

pub loop-front-smaller : goal.loop-front-smaller
loop-front-smaller c =
    let cut : c.loop-front.rest.now ≡ c.in-Some.front.now ++ 10 ∷ c.in-Some.behind.now = search rules in
    omega (arith, ap length cut ∙ length-append c.in-Some.front.now (10 ∷ c.in-Some.behind.now))
