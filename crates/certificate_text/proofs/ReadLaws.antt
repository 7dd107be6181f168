-- The steps of the reader.
use Rattle.std.proofs.Common.{◌≡◌, ℕ, ◌+◌, Bool, true, false, List, [], ◌∷◌, ◌++◌, map, length, refl, sym, ap, subst, ◌∙◌, append_assoc, append-nil, inl, inr, ◌⊎◌, Option, None, Some, length-append, arith}
use Rattle.std.specs.Option.{option_and_then}
use Rattle.std.proofs.lemmas.List.{map-append}
use Rattle.std.proofs.lemmas.Grind.{flat_map-append}
use Rattle.graph_core.specs.Graph.{GraphValue, IsGraph}
use Rattle.problem_defs.specs.declared.ask.Ask.{Ask}
use Rattle.problem_defs.specs.declared.cert.Body.{Body}
use Rattle.problem_defs.specs.declared.cert.Cert.{Cert}
use Rattle.certificate_text.specs.declared.line.CertLine.{CertLine}
use Rattle.certificate_text.specs.declared.line.CertLine.TheVariants as line
use Rattle.certificate_text.specs.declared.row.Slot.{Slot}
use Rattle.certificate_text.specs.declared.row.Piece.{Piece}
use Rattle.certificate_text.specs.declared.gather.Gathered.{Gathered}
use Rattle.certificate_text.specs.Table.{rows}
use Rattle.certificate_text.specs.Taking.{slots, HasForm, take_line, take_lines}
use Rattle.certificate_text.specs.Words.{spelled}
use Rattle.certificate_text.specs.Valid.{IsValid}
use Rattle.certificate_text.specs.Forms.{has_form}
use Rattle.certificate_text.specs.Lines.{body_lines}
use Rattle.certificate_text.specs.Accepts.{SomeRow, EachRow, Accepts}
use Rattle.certificate_text.specs.MayBegin.{GoesOn, is_end, NoEnd}
use Rattle.certificate_text.specs.Text.{unlines, text}
use Rattle.certificate_text.specs.BadLine.{whole_lines, IsBad}
use Rattle.certificate_text.specs.Gather.{nothing, with_line, gather, body_of}
use Rattle.certificate_text.specs.Reading.{HasRead, MayNotCome, Stops}
use Rattle.certificate_text.specs.Loop.{AreSlotsOf, option_list, Reading}
use Rattle.certificate_text.specs.Front.{IsAtFront}
use Rattle.certificate_text.proofs.TakingLaws.{take_lines-append}
use Rattle.certificate_text.proofs.FormLaws.{valid-join}
use Rattle.certificate_text.proofs.RowLaws.{has-body, body-back}
use Rattle.certificate_text.proofs.SpellLaws.{spelled-same}
use Rattle.certificate_text.proofs.BeginLaws.{take_lines-tail}
use Rattle.certificate_text.proofs.EndLaws.{EndsLast, ends-tail, end-is-last, rows-end}
use Rattle.certificate_text.proofs.BadLaws.{is-bad}

-- ---- one line more

gather-push : (c : Gathered) (xs : List CertLine) (x : CertLine) → gather c (xs ++ x ∷ []) ≡ with_line (gather c xs) x
gather-push c [] x = refl
gather-push c (y ∷ xs) x = gather-push (with_line c y) xs x

then-some : (o : Option (List Slot)) → option_and_then (λ s. Some s) o ≡ o
then-some None = refl
then-some (Some s) = refl

take_one : (f : HasForm) (x : CertLine) (o : Option (List Slot)) → option_and_then (λ left. take_lines f left (x ∷ [])) o ≡ option_and_then (λ left. take_line f left x) o
take_one f x None = refl
take_one f x (Some left) = then-some (take_line f left x)

take_lines-push : (f : HasForm) (row : List Slot) (xs : List CertLine) (x : CertLine) → take_lines f row (xs ++ x ∷ []) ≡ option_and_then (λ left. take_line f left x) (take_lines f row xs)
take_lines-push f row xs x = take_lines-append f row xs (x ∷ []) ∙ take_one f x (take_lines f row xs)

take_lines-push_option : (f : HasForm) (second : Option (List Slot)) (xs : List CertLine) (x : CertLine) → option_and_then (λ row. take_lines f row (xs ++ x ∷ [])) second ≡ option_and_then (λ left. take_line f left x) (option_and_then (λ row. take_lines f row xs) second)
take_lines-push_option f None xs x = refl
take_lines-push_option f (Some row) xs x = take_lines-push f row xs x

pub unlines-push : (g : GraphValue) (xs : List CertLine) (x : CertLine) (bytes rest l more : List ℕ) → bytes ≡ unlines (map (spelled g) xs) ++ rest → rest ≡ l ++ 10 ∷ more → spelled g x ≡ l → bytes ≡ unlines (map (spelled g) (xs ++ x ∷ [])) ++ more
unlines-push g xs x bytes rest l more split cut same =
    let front = unlines (map (spelled g) xs) in
    let whole : unlines (map (spelled g) (xs ++ x ∷ [])) ≡ front ++ (l ++ 10 ∷ []) =
    ap unlines (map-append (spelled g) xs (x ∷ [])) ∙ flat_map-append (λ y. y ++ 10 ∷ []) (map (spelled g) xs) (spelled g x ∷ []) ∙ ap (λ y. front ++ y) (append-nil (spelled g x ++ 10 ∷ []) ∙ ap (λ y. y ++ 10 ∷ []) same) in
    split ∙ ap (λ r. front ++ r) (cut ∙ sym (append_assoc l (10 ∷ []) more)) ∙ sym (append_assoc front (l ++ 10 ∷ []) more) ∙ ap (λ y. y ++ more) (sym whole)

-- ---- rows as slots

to-slots : (P : List Slot → Type 0) (m : ℕ) (rs : List (List Piece)) → SomeRow (λ row. P (slots m row)) rs → SomeRow P (map (slots m) rs)
to-slots P m [] some = some
to-slots P m (row ∷ rs) (inl here) = inl here
to-slots P m (row ∷ rs) (inr more) = inr (to-slots P m rs more)

from-slots : (P : List Slot → Type 0) (m : ℕ) (rs : List (List Piece)) → SomeRow P (map (slots m) rs) → SomeRow (λ row. P (slots m row)) rs
from-slots P m [] some = some
from-slots P m (row ∷ rs) (inl here) = inl here
from-slots P m (row ∷ rs) (inr more) = inr (from-slots P m rs more)

-- the lines that a place has taken
abbrev Goes : HasForm → List CertLine → List Slot → Type 0
Goes f xs row = (left : List Slot) × (take_lines f row xs ≡ Some left)

some-goes : (g : GraphValue) (a : Ask) (first : List Slot) (second : Option (List Slot)) (xs : List CertLine) → AreSlotsOf g a first second → GoesOn g a xs → take_lines (has_form g) first xs ≡ None → option_and_then (λ row. take_lines (has_form g) row xs) second ≡ None → ⊥
some-goes g a first second xs are goes none none' = by second none' (subst (SomeRow (Goes (has_form g) xs)) are (to-slots (Goes (has_form g) xs) (length g.lines) (rows a) goes))
  where
    by : (second : Option (List Slot)) → option_and_then (λ row. take_lines (has_form g) row xs) second ≡ None → SomeRow (Goes (has_form g) xs) (first ∷ option_list second) → ⊥
    by None n (inl (left, e)) = cc
    by None n (inr e) = e
    by (Some row) n (inl (left, e)) = cc
    by (Some row) n (inr (inl (left, e))) = cc
    by (Some row) n (inr (inr e)) = e

goes-some : (g : GraphValue) (a : Ask) (first : List Slot) (second : Option (List Slot)) (xs : List CertLine) → AreSlotsOf g a first second → ((take_lines (has_form g) first xs ≡ None) × (option_and_then (λ row. take_lines (has_form g) row xs) second ≡ None) → ⊥) → GoesOn g a xs
goes-some g a first second xs are not-lost = from-slots (Goes (has_form g) xs) (length g.lines) (rows a) (subst (SomeRow (Goes (has_form g) xs)) (sym are) (by second (take_lines (has_form g) first xs) refl not-lost))
  where
    other : (second : Option (List Slot)) (o : Option (List Slot)) → option_and_then (λ row. take_lines (has_form g) row xs) second ≡ o → (o ≡ None → ⊥) → SomeRow (Goes (has_form g) xs) (option_list second)
    other None None t nope = absurd (nope refl)
    other None (Some left) t nope = cc
    other (Some row) None t nope = absurd (nope refl)
    other (Some row) (Some left) t nope = inl (left, t)

    by : (second : Option (List Slot)) (o : Option (List Slot)) → take_lines (has_form g) first xs ≡ o → ((o ≡ None) × (option_and_then (λ row. take_lines (has_form g) row xs) second ≡ None) → ⊥) → SomeRow (Goes (has_form g) xs) (first ∷ option_list second)
    by second (Some left) t nope = inl (left, t)
    by second None t nope = inr (other second (option_and_then (λ row. take_lines (has_form g) row xs) second) refl (λ n. nope (refl, n)))

accepts-done : (g : GraphValue) (a : Ask) (first : List Slot) (second : Option (List Slot)) (xs : List CertLine) → AreSlotsOf g a first second → (take_lines (has_form g) first xs ≡ Some []) ⊎ (option_and_then (λ row. take_lines (has_form g) row xs) second ≡ Some []) → Accepts g a xs
accepts-done g a first second xs are done = from-slots (λ row. take_lines (has_form g) row xs ≡ Some []) (length g.lines) (rows a) (subst (SomeRow (λ row. take_lines (has_form g) row xs ≡ Some [])) (sym are) (by second done))
  where
    by : (second : Option (List Slot)) → (take_lines (has_form g) first xs ≡ Some []) ⊎ (option_and_then (λ row. take_lines (has_form g) row xs) second ≡ Some []) → SomeRow (λ row. take_lines (has_form g) row xs ≡ Some []) (first ∷ option_list second)
    by second (inl e) = inl e
    by None (inr e) = cc
    by (Some row) (inr e) = inr (inl e)

-- ---- the four ends of the loop's body

pub bad-next : (g : GraphValue) (bytes : List ℕ) (a : Ask) (first : List Slot) (second : Option (List Slot)) (rest : List ℕ) (count : ℕ) (one two : Option (List Slot)) (content : Gathered) → IsGraph g → (r : Reading g bytes a first second rest count one two content) → Stops g (line.Title ∷ line.Command a ∷ r.lines) (whole_lines rest) → IsBad g bytes (count + 1)
bad-next g bytes a first second rest count one two content is r stops =
    let n : length (line.Title ∷ line.Command a ∷ r.lines) + 1 ≡ count + 1 = omega (arith, r.counted) in
    subst (IsBad g bytes) n (is-bad g bytes (line.Title ∷ line.Command a ∷ r.lines) rest is r.read stops)

-- the next line is no line of a certificate
pub bad-unread : (g : GraphValue) (bytes : List ℕ) (a : Ask) (first : List Slot) (second : Option (List Slot)) (rest : List ℕ) (count : ℕ) (one two : Option (List Slot)) (content : Gathered) (l more : List ℕ) → IsGraph g → Reading g bytes a first second rest count one two content → whole_lines rest ≡ l ∷ whole_lines more
    → ((y : CertLine) → IsValid g y → spelled g y ≡ l → ⊥) → IsBad g bytes (count + 1)
bad-unread g bytes a first second rest count one two content l more is r whole none =
    bad-next g bytes a first second rest count one two content is r (subst (Stops g (line.Title ∷ line.Command a ∷ r.lines)) (sym whole) (λ y valid same allowed. none y valid same))

-- the next line may not come
pub bad-lost : (g : GraphValue) (bytes : List ℕ) (a : Ask) (first : List Slot) (second : Option (List Slot)) (rest : List ℕ) (count : ℕ) (one two : Option (List Slot)) (content : Gathered) (l more : List ℕ) (x : CertLine) → IsGraph g → AreSlotsOf g a first second → Reading g bytes a first second rest count one two content → whole_lines rest ≡ l ∷ whole_lines more
    → IsValid g x → spelled g x ≡ l → option_and_then (λ left. take_line (has_form g) left x) one ≡ None → option_and_then (λ left. take_line (has_form g) left x) two ≡ None → IsBad g bytes (count + 1)
bad-lost g bytes a first second rest count one two content l more x is are r whole valid same lost lost' =
    let none = take_lines-push (has_form g) first r.lines x ∙ ap (option_and_then (λ left. take_line (has_form g) left x)) (sym r.one_is) ∙ lost in
    let none' = take_lines-push_option (has_form g) second r.lines x ∙ ap (option_and_then (λ left. take_line (has_form g) left x)) (sym r.two_is) ∙ lost' in
    let stops : MayNotCome g (line.Title ∷ line.Command a ∷ r.lines) l = λ y ok spelled-so allowed.
    let it : y ≡ x = spelled-same g y x is ok valid (spelled-so ∙ sym same) in
    let (title, (b, command, goes)) = allowed in
    let here : a ≡ b = cc in
    let goes' = subst (λ z. GoesOn g a (r.lines ++ z ∷ [])) it (subst (λ c. GoesOn g c (r.lines ++ y ∷ [])) (sym here) goes) in
    some-goes g a first second (r.lines ++ x ∷ []) are goes' none none' in
    bad-next g bytes a first second rest count one two content is r (subst (Stops g (line.Title ∷ line.Command a ∷ r.lines)) (sym whole) stops)

end-only : (x : CertLine) → is_end x ≡ true → x ≡ line.End
end-only line.End e = refl
end-only x e = cc

-- a place that takes an end is then at its row's end
ends-there : (g : GraphValue) (o : Option (List Slot)) (after : List Slot) → ((left : List Slot) → o ≡ Some left → EndsLast g left) → option_and_then (λ left. take_line (has_form g) left line.End) o ≡ Some after → after ≡ []
ends-there g None after ends e = cc
ends-there g (Some left) after ends e = end-is-last g left after (ends left refl) e

place-ends : (g : GraphValue) (row : List Slot) (zs : List CertLine) → EndsLast g row → (left : List Slot) → take_lines (has_form g) row zs ≡ Some left → EndsLast g left
place-ends g row zs ends left e = take_lines-tail (EndsLast g) (has_form g) (ends-tail g) row left zs ends e

places-end : (g : GraphValue) (second : Option (List Slot)) (zs : List CertLine) → EachRow (EndsLast g) (option_list second) → (left : List Slot) → option_and_then (λ row. take_lines (has_form g) row zs) second ≡ Some left → EndsLast g left
places-end g None zs ends left e = cc
places-end g (Some row) zs ends left e = place-ends g row zs ends.0 left e

-- a line after which a row goes on, and none is done, is no end
not-end : (g : GraphValue) (one two : Option (List Slot)) (x : CertLine) → ((left : List Slot) → one ≡ Some left → EndsLast g left) → ((left : List Slot) → two ≡ Some left → EndsLast g left)
    → ((option_and_then (λ left. take_line (has_form g) left x) one ≡ Some []) ⊎ (option_and_then (λ left. take_line (has_form g) left x) two ≡ Some []) → ⊥)
    → ((option_and_then (λ left. take_line (has_form g) left x) one ≡ None) × (option_and_then (λ left. take_line (has_form g) left x) two ≡ None) → ⊥) → is_end x ≡ false
not-end g one two x ends ends' undone going = by (is_end x) refl
  where
    second : (o : Option (List Slot)) → option_and_then (λ left. take_line (has_form g) left x) two ≡ o → x ≡ line.End → option_and_then (λ left. take_line (has_form g) left x) one ≡ None → ⊥
    second None t it none = going (none, t)
    second (Some after) t it none =
        let here : option_and_then (λ left. take_line (has_form g) left line.End) two ≡ Some after = ap (λ y. option_and_then (λ left. take_line (has_form g) left y) two) (sym it) ∙ t in
        let empty : after ≡ [] = ends-there g two after ends' here in
        undone (inr (t ∙ ap (λ s. Some s) empty))

    first : (o : Option (List Slot)) → option_and_then (λ left. take_line (has_form g) left x) one ≡ o → x ≡ line.End → ⊥
    first None t it = second (option_and_then (λ left. take_line (has_form g) left x) two) refl it t
    first (Some after) t it =
        let here : option_and_then (λ left. take_line (has_form g) left line.End) one ≡ Some after = ap (λ y. option_and_then (λ left. take_line (has_form g) left y) one) (sym it) ∙ t in
        let empty : after ≡ [] = ends-there g one after ends here in
        undone (inl (t ∙ ap (λ s. Some s) empty))

    by : (b : Bool) → is_end x ≡ b → is_end x ≡ false
    by true t = absurd (first (option_and_then (λ left. take_line (has_form g) left x) one) refl (end-only x t))
    by false t = t

no_end-push : (xs : List CertLine) (x : CertLine) → NoEnd xs → is_end x ≡ false → NoEnd (xs ++ x ∷ [])
no_end-push [] x none e = (e, tt)
no_end-push (y ∷ xs) x none e = (none.0, no_end-push xs x none.1 e)

-- the first two lines were read, and no other
pub reading-start : (g : GraphValue) (bytes : List ℕ) (a : Ask) (first : List Slot) (second : Option (List Slot)) (rest : List ℕ) → HasRead g bytes (line.Title ∷ line.Command a ∷ []) rest → Reading g bytes a first second rest 2 (Some first) second nothing
reading-start g bytes a first second rest read = record { lines = []; read = read; counted = refl; one_is = refl; two_is = sym (then-some second); content_is = refl }

pub reading-next : (g : GraphValue) (bytes : List ℕ) (a : Ask) (first : List Slot) (second : Option (List Slot)) (rest : List ℕ) (count : ℕ) (one two : Option (List Slot)) (content : Gathered) (l more : List ℕ) (x : CertLine) → AreSlotsOf g a first second → Reading g bytes a first second rest count one two content → rest ≡ l ++ 10 ∷ more
    → IsValid g x → spelled g x ≡ l
    → ((option_and_then (λ left. take_line (has_form g) left x) one ≡ Some []) ⊎ (option_and_then (λ left. take_line (has_form g) left x) two ≡ Some []) → ⊥)
    → ((option_and_then (λ left. take_line (has_form g) left x) one ≡ None) × (option_and_then (λ left. take_line (has_form g) left x) two ≡ None) → ⊥)
    → Reading g bytes a first second more (count + 1) (option_and_then (λ left. take_line (has_form g) left x) one) (option_and_then (λ left. take_line (has_form g) left x) two) (with_line content x)
reading-next g bytes a first second rest count one two content l more x are r cut valid same undone going =
    let ends = subst (EachRow (EndsLast g)) are (rows-end g a) in
    let one' : take_lines (has_form g) first (r.lines ++ x ∷ []) ≡ option_and_then (λ left. take_line (has_form g) left x) one = take_lines-push (has_form g) first r.lines x ∙ ap (option_and_then (λ left. take_line (has_form g) left x)) (sym r.one_is) in
    let two' : option_and_then (λ row. take_lines (has_form g) row (r.lines ++ x ∷ [])) second ≡ option_and_then (λ left. take_line (has_form g) left x) two = take_lines-push_option (has_form g) second r.lines x ∙ ap (option_and_then (λ left. take_line (has_form g) left x)) (sym r.two_is) in
    let unended = not-end g one two x (λ left e. place-ends g first r.lines ends.0 left (sym r.one_is ∙ e)) (λ left e. places-end g second r.lines ends.1 left (sym r.two_is ∙ e)) undone going in
    let goes = goes-some g a first second (r.lines ++ x ∷ []) are (λ none. going (sym one' ∙ none.0, sym two' ∙ none.1)) in
    record {
      lines = r.lines ++ x ∷ [];
      read = record {
        split = unlines-push g (line.Title ∷ line.Command a ∷ r.lines) x bytes rest l more r.read.split cut same;
        valid = (tt, (r.read.valid.1.0, valid-join g r.lines (x ∷ []) r.read.valid.1.1 (valid, tt)));
        allowed = (refl, (a, refl, goes));
        unended = (refl, (refl, no_end-push r.lines x r.read.unended.1.1 unended));
      };
      counted = omega (arith, r.counted, length-append r.lines (x ∷ []));
      one_is = sym one';
      two_is = sym two';
      content_is = ap (λ c. with_line c x) r.content_is ∙ sym (gather-push nothing r.lines x);
    }

-- a row is at its end: the lines are those of a certificate
pub reading-done : (g : GraphValue) (bytes : List ℕ) (a : Ask) (first : List Slot) (second : Option (List Slot)) (rest : List ℕ) (count : ℕ) (one two : Option (List Slot)) (content : Gathered) (l more : List ℕ) (x : CertLine) → IsGraph g → AreSlotsOf g a first second → Reading g bytes a first second rest count one two content → rest ≡ l ++ 10 ∷ more
    → IsValid g x → spelled g x ≡ l
    → (option_and_then (λ left. take_line (has_form g) left x) one ≡ Some []) ⊎ (option_and_then (λ left. take_line (has_form g) left x) two ≡ Some [])
    → (c : ℕ) → c + length more ≡ length bytes → IsAtFront g bytes (record { ask = a; body = body_of g a (with_line content x) }) c
reading-done g bytes a first second rest count one two content l more x is are r cut valid same done c counted =
    let zs = r.lines ++ x ∷ [] in
    let f = λ (d : (take_lines (has_form g) first zs ≡ Some []) ⊎ (option_and_then (λ row. take_lines (has_form g) row zs) second ≡ Some [])). accepts-done g a first second zs are d in
    let one' : take_lines (has_form g) first zs ≡ option_and_then (λ left. take_line (has_form g) left x) one = take_lines-push (has_form g) first r.lines x ∙ ap (option_and_then (λ left. take_line (has_form g) left x)) (sym r.one_is) in
    let two' : option_and_then (λ row. take_lines (has_form g) row zs) second ≡ option_and_then (λ left. take_line (has_form g) left x) two = take_lines-push_option (has_form g) second r.lines x ∙ ap (option_and_then (λ left. take_line (has_form g) left x)) (sym r.two_is) in
    let takes : Accepts g a zs = elim done [ inl d ↦ f (inl (one' ∙ d)) | inr d ↦ f (inr (two' ∙ d)) ] in
    let valid-zs = valid-join g r.lines (x ∷ []) r.read.valid.1.1 (valid, tt) in
    let b = has-body g a zs valid-zs takes in
    let gathered : with_line content x ≡ gather nothing (body_lines g a b.body) = ap (λ k. with_line k x) r.content_is ∙ sym (gather-push nothing r.lines x) ∙ ap (gather nothing) (sym b.lines_are) in
    let same-body : body_of g a (with_line content x) ≡ b.body = ap (body_of g a) gathered ∙ body-back g a b.body is b.belongs b.in_range in
    let found : Cert = record { ask = a; body = b.body } in
    let split : bytes ≡ text g found ++ more = unlines-push g (line.Title ∷ line.Command a ∷ r.lines) x bytes rest l more r.read.split cut same ∙ ap (λ ys. unlines (map (spelled g) (line.Title ∷ line.Command a ∷ ys)) ++ more) (sym b.lines_are) in
    let here : IsAtFront g bytes found c = record {
      shaped = record { k = r.read.valid.1.0.0; suits = r.read.valid.1.0.1; belongs = b.belongs; in_range = b.in_range; numbers_fit = b.numbers_fit };
      rest = more;
      is = split;
      count_is = omega (arith, counted, ap length split, length-append (text g found) more);
    } in
    subst (λ (y : Body). IsAtFront g bytes (record { ask = a; body = y }) c) (sym same-body) here
