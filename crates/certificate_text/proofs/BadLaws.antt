-- The least bad line.
use Rattle.std.proofs.Common.{◌≡◌, ℕ, ◌+◌, ◌≤◌, List, [], ◌∷◌, ◌++◌, map, length, take, drop, refl, sym, ap, subst, ◌∙◌, append_assoc, append-nil, length-append, arith}
use Rattle.std.proofs.lemmas.List.{length-map, map-append, take-append-le, take-append-drop}
use Rattle.std.proofs.Math.Seq.{take-append-add}
use Rattle.graph_core.specs.Graph.{GraphValue, IsGraph}
use Rattle.problem_defs.specs.declared.cert.Cert.{Cert}
use Rattle.certificate_text.specs.declared.line.CertLine.{CertLine}
use Rattle.certificate_text.specs.declared.line.CertLine.TheVariants as line
use Rattle.certificate_text.specs.Words.{spelled}
use Rattle.certificate_text.specs.Valid.{ValidAll}
use Rattle.certificate_text.specs.Lines.{lines}
use Rattle.problem_defs.specs.Shaped.{IsShaped}
use Rattle.certificate_text.specs.MayBegin.{BeginsLines, NoEnd}
use Rattle.certificate_text.specs.Text.{byte_lines}
use Rattle.certificate_text.specs.BadLine.{Begins, whole_lines, IsBad}
use Rattle.certificate_text.specs.Reading.{HasRead, MayNotCome, Stops}
use Rattle.certificate_text.proofs.FormLaws.{valid-split}
use Rattle.certificate_text.proofs.ValidLaws.{valid-lines}
use Rattle.certificate_text.proofs.BeginLaws.{allowed-begins, begins-allowed}
use Rattle.certificate_text.proofs.TextLaws.{compare, whole-text, ends-lines, no_end-at}
use Rattle.certificate_text.proofs.TextLaws.Compared.{front, longer}

-- a line that a certificate has next may come
stop-longer : (g : GraphValue) (xs : List CertLine) (rest : List (List ℕ)) (cert : Cert) (y : CertLine) (ys : List CertLine) (more : List (List ℕ)) → IsGraph g → IsShaped g cert → Stops g xs rest → lines g cert ≡ xs ++ y ∷ ys → rest ≡ spelled g y ∷ more → ⊥
stop-longer g xs rest cert y ys more is w stops p q =
    let valid = (valid-split g xs (y ∷ ys) (subst (ValidAll g) p (valid-lines g cert is w))).1 in
    let may : MayNotCome g xs (spelled g y) = subst (Stops g xs) q stops in
    let regrouped : lines g cert ≡ (xs ++ y ∷ []) ++ ys = p ∙ sym (append_assoc xs (y ∷ []) ys) in
    may y valid.0 refl (begins-allowed g (xs ++ y ∷ []) ys cert w regrouped)

-- a certificate isn't among lines that have no end
unended-front : (g : GraphValue) (cert : Cert) (xs ys : List CertLine) → NoEnd xs → xs ≡ lines g cert ++ ys → ⊥
unended-front g cert xs ys none e =
    let ends = ends-lines g cert in
    let same : xs ≡ ends.front ++ line.End ∷ ys = e ∙ ap (λ l. l ++ ys) ends.is ∙ append_assoc ends.front (line.End ∷ []) ys in
    no_end-at ends.front ys (subst NoEnd same none)

-- no certificate has lines spelled as those that were read and the next one
no-certificate : (g : GraphValue) (xs : List CertLine) (w rest : List (List ℕ)) (cert : Cert) → IsGraph g → IsShaped g cert → ValidAll g xs → NoEnd xs → Stops g xs rest → map (spelled g) (lines g cert) ++ w ≡ map (spelled g) xs ++ rest → ⊥
no-certificate g xs w rest cert is wr valid none stops e =
    elim (compare g (lines g cert) xs w rest is (valid-lines g cert is wr) valid e) [
      | front ys p ↦ unended-front g cert xs ys none p
      | longer y ys more p q ↦ stop-longer g xs rest cert y ys more is wr stops p q
    ]

-- a part of a beginning is a beginning
begins-take : (g : GraphValue) (xs : List CertLine) (n : ℕ) (rest : List (List ℕ)) → BeginsLines g xs → n ≤ length xs → Begins g (take n (map (spelled g) xs ++ rest))
begins-take g xs n rest b within =
    let all = map (spelled g) xs in
    let within' : n ≤ length all = omega (arith, within, length-map xs (spelled g)) in
    let cut : take n (all ++ rest) ≡ take n all = take-append-le n all rest within' in
    let whole : byte_lines g b.cert ≡ all ++ map (spelled g) b.more = ap (map (spelled g)) b.is ∙ map-append (spelled g) xs b.more in
    let parts : all ++ map (spelled g) b.more ≡ take n all ++ (drop n all ++ map (spelled g) b.more) = ap (λ l. l ++ map (spelled g) b.more) (sym (take-append-drop n all)) ∙ append_assoc (take n all) (drop n all) (map (spelled g) b.more) in
    subst (Begins g) (sym cut) (record { cert = b.cert; shaped = b.shaped; more = drop n all ++ map (spelled g) b.more; is = whole ∙ parts })

-- with one more line it is no beginning
no-more : (g : GraphValue) (xs : List CertLine) (rest : List (List ℕ)) → IsGraph g → ValidAll g xs → NoEnd xs → Stops g xs rest → length xs + 1 ≤ length (map (spelled g) xs ++ rest) → Begins g (take (length xs + 1) (map (spelled g) xs ++ rest)) → ⊥
no-more g xs [] is valid none stops within b = absurd (omega (arith, within, length-append (map (spelled g) xs) [], length-map xs (spelled g)))
no-more g xs (l ∷ more) is valid none stops within b =
    let all = map (spelled g) xs in
    let long : length all ≡ length xs = length-map xs (spelled g) in
    let cut : take (length xs + 1) (all ++ l ∷ more) ≡ all ++ l ∷ [] = ap (λ n. take (n + 1) (all ++ l ∷ more)) (sym long) ∙ take-append-add all (l ∷ more) 1 in
    let same : map (spelled g) (lines g b.cert) ++ [] ≡ all ++ l ∷ b.more = append-nil (byte_lines g b.cert) ∙ b.is ∙ ap (λ x. x ++ b.more) cut ∙ append_assoc all (l ∷ []) b.more in
    no-certificate g xs [] (l ∷ b.more) b.cert is b.shaped valid none stops same

pub is-bad : (g : GraphValue) (bytes : List ℕ) (xs : List CertLine) (rest : List ℕ) → IsGraph g → HasRead g bytes xs rest → Stops g xs (whole_lines rest) → IsBad g bytes (length xs + 1)
is-bad g bytes xs rest is read stops =
    let all = map (spelled g) xs in
    let whole : whole_lines bytes ≡ all ++ whole_lines rest = ap whole_lines read.split ∙ whole-text g xs rest is read.valid in
    let begins = allowed-begins g xs is read.valid read.allowed in
    let long : length (whole_lines bytes) ≡ length xs + length (whole_lines rest) = ap length whole ∙ length-append all (whole_lines rest) ∙ ap (λ n. n + length (whole_lines rest)) (length-map xs (spelled g)) in
    let here : length xs + 1 ≤ length (all ++ whole_lines rest) → Begins g (take (length xs + 1) (all ++ whole_lines rest)) → ⊥ = no-more g xs (whole_lines rest) is read.valid read.unended stops in
    record {
      no_text = λ cert other w e. no-certificate g xs (whole_lines other) (whole_lines rest) cert is w read.valid read.unended stops (sym (whole-text g (lines g cert) other is (valid-lines g cert is w)) ∙ ap whole_lines (sym e) ∙ whole);
      counted = omega arith;
      before = λ n l. rw whole (begins-take g xs n (whole_lines rest) begins (omega (arith, l)));
      within = omega (arith, long);
      here = subst (λ ls. length xs + 1 ≤ length ls → Begins g (take (length xs + 1) ls) → ⊥) (sym whole) here;
    }
