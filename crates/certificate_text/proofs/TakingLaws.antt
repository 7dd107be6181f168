-- Laws of what a row takes, whatever the forms are.
use Rattle.std.proofs.Common.{◌≡◌, ℕ, zero, suc, Bool, true, false, cond, List, [], ◌∷◌, ◌++◌, length, refl, ap, subst, ◌∙◌, Option, None, Some}
use Rattle.std.specs.Option.{option_and_then}
use Rattle.std.proofs.lemmas.Bool.{cond-true, cond-false}
use Rattle.certificate_text.specs.declared.line.CertLine.{CertLine}
use Rattle.certificate_text.specs.declared.row.Form.{Form}
use Rattle.certificate_text.specs.declared.row.Slot.{Slot}
use Rattle.certificate_text.specs.declared.row.Slot.TheVariants.{Must, May}
use Rattle.certificate_text.specs.Taking.{musts, HasForm, take_line, take_lines}

pub take_lines-append : (has_form : HasForm) (left : List Slot) (xs ys : List CertLine) → take_lines has_form left (xs ++ ys) ≡ option_and_then (λ after. take_lines has_form after ys) (take_lines has_form left xs)
take_lines-append has_form left [] ys = refl
take_lines-append has_form left (x ∷ xs) ys = by (λ after. take_lines-append has_form after xs ys) (take_line has_form left x)
  where
    by : ((after : List Slot) → take_lines has_form after (xs ++ ys) ≡ option_and_then (λ s. take_lines has_form s ys) (take_lines has_form after xs)) → (o : Option (List Slot)) → option_and_then (λ after. take_lines has_form after (xs ++ ys)) o ≡ option_and_then (λ after. take_lines has_form after ys) (option_and_then (λ after. take_lines has_form after xs) o)
    by again None = refl
    by again (Some after) = again after

-- lines of one form, the first at this place
abbrev pub FitFrom : HasForm → Form → ℕ → List CertLine → Type 0
FitFrom has_form f place [] = Unit {0}
FitFrom has_form f place (x ∷ xs) = (has_form f place x ≡ true) × FitFrom has_form f (suc place) xs

-- lines of one form, the place of which doesn't matter
abbrev pub FitAll : HasForm → Form → List CertLine → Type 0
FitAll has_form f [] = Unit {0}
FitAll has_form f (x ∷ xs) = (has_form f 0 x ≡ true) × FitAll has_form f xs

-- ---- lines that fit are taken

pub must-taken : (has_form : HasForm) (f : Form) (place : ℕ) (left : List Slot) (x : CertLine) (xs : List CertLine) → has_form f place x ≡ true → take_lines has_form (Must f place ∷ left) (x ∷ xs) ≡ take_lines has_form left xs
must-taken has_form f place left x xs e = ap (option_and_then (λ after. take_lines has_form after xs)) (cond-true _ (Some left) None e)

pub musts-taken : (has_form : HasForm) (f : Form) (place : ℕ) (left : List Slot) (xs ys : List CertLine) → FitFrom has_form f place xs → take_lines has_form (musts f place (length xs) ++ left) (xs ++ ys) ≡ take_lines has_form left ys
musts-taken has_form f place left [] ys fit = refl
musts-taken has_form f place left (x ∷ xs) ys fit = must-taken has_form f place (musts f (suc place) (length xs) ++ left) x (xs ++ ys) fit.0 ∙ musts-taken has_form f (suc place) left xs ys fit.1

pub may-taken : (has_form : HasForm) (f : Form) (left : List Slot) (xs ys : List CertLine) → FitAll has_form f xs → take_lines has_form (May f ∷ left) (xs ++ ys) ≡ take_lines has_form (May f ∷ left) ys
may-taken has_form f left [] ys fit = refl
may-taken has_form f left (x ∷ xs) ys fit = ap (option_and_then (λ after. take_lines has_form after (xs ++ ys))) (cond-true _ (Some (May f ∷ left)) (take_line has_form left x) fit.0) ∙ may-taken has_form f left xs ys fit.1

pub may-skip : (has_form : HasForm) (f : Form) (left : List Slot) (x : CertLine) (xs : List CertLine) → has_form f 0 x ≡ false → take_lines has_form (May f ∷ left) (x ∷ xs) ≡ take_lines has_form left (x ∷ xs)
may-skip has_form f left x xs e = ap (option_and_then (λ after. take_lines has_form after xs)) (cond-false _ (Some (May f ∷ left)) (take_line has_form left x) e)

-- ---- what is taken to the end is made of lines that fit

pub record MustParts (has_form : HasForm) (f : Form) (place : ℕ) (left : List Slot) (ys : List CertLine) : Type 0 where
  pub first : CertLine
  pub rest : List CertLine
  pub is : ys ≡ first ∷ rest
  pub fit : has_form f place first ≡ true
  pub goes_on : take_lines has_form left rest ≡ Some []

pub must-parts : (has_form : HasForm) (f : Form) (place : ℕ) (left : List Slot) (ys : List CertLine) → take_lines has_form (Must f place ∷ left) ys ≡ Some [] → MustParts has_form f place left ys
must-parts has_form f place left [] e = cc
must-parts has_form f place left (y ∷ ys) e = by (has_form f place y) refl e
  where
    by : (b : Bool) → has_form f place y ≡ b → option_and_then (λ after. take_lines has_form after ys) (cond b (Some left) None) ≡ Some [] → MustParts has_form f place left (y ∷ ys)
    by true t e = record { first = y; rest = ys; is = refl; fit = t; goes_on = e }
    by false t e = cc

pub record MayParts (has_form : HasForm) (f : Form) (left : List Slot) (ys : List CertLine) : Type 0 where
  pub front : List CertLine
  pub rest : List CertLine
  pub is : ys ≡ front ++ rest
  pub fit : FitAll has_form f front
  pub goes_on : take_lines has_form left rest ≡ Some []

pub may-parts : (has_form : HasForm) (f : Form) (left : List Slot) (ys : List CertLine) → take_lines has_form (May f ∷ left) ys ≡ Some [] → MayParts has_form f left ys
may-parts has_form f left [] e = cc
may-parts has_form f left (y ∷ ys) e = by (λ h. may-parts has_form f left ys h) (has_form f 0 y) refl e
  where
    by : (take_lines has_form (May f ∷ left) ys ≡ Some [] → MayParts has_form f left ys) → (b : Bool) → has_form f 0 y ≡ b → option_and_then (λ after. take_lines has_form after ys) (cond b (Some (May f ∷ left)) (take_line has_form left y)) ≡ Some [] → MayParts has_form f left (y ∷ ys)
    by again true t e =
        let more = again e in
        record { front = y ∷ more.front; rest = more.rest; is = ap (λ l. y ∷ l) more.is; fit = (t, more.fit); goes_on = more.goes_on }
    by again false t e = record { front = []; rest = y ∷ ys; is = refl; fit = tt; goes_on = e }

pub record MustsParts (has_form : HasForm) (f : Form) (place count : ℕ) (left : List Slot) (ys : List CertLine) : Type 0 where
  pub front : List CertLine
  pub rest : List CertLine
  pub is : ys ≡ front ++ rest
  pub long : length front ≡ count
  pub fit : FitFrom has_form f place front
  pub goes_on : take_lines has_form left rest ≡ Some []

pub musts-parts : (has_form : HasForm) (f : Form) (place count : ℕ) (left : List Slot) (ys : List CertLine) → take_lines has_form (musts f place count ++ left) ys ≡ Some [] → MustsParts has_form f place count left ys
musts-parts has_form f place zero left ys e = record { front = []; rest = ys; is = refl; long = refl; fit = tt; goes_on = e }
musts-parts has_form f place (suc count) left ys e =
    let one = must-parts has_form f place (musts f (suc place) count ++ left) ys e in
    let more = musts-parts has_form f (suc place) count left one.rest one.goes_on in
    record {
      front = one.first ∷ more.front;
      rest = more.rest;
      is = one.is ∙ ap (λ l. one.first ∷ l) more.is;
      long = ap suc more.long;
      fit = (one.fit, more.fit);
      goes_on = more.goes_on;
    }

-- ---- what is left can be completed

-- a line for each slot that must have one
abbrev pub fill : (Form → ℕ → CertLine) → List Slot → List CertLine
fill sample [] = []
fill sample (Must f place ∷ left) = sample f place ∷ fill sample left
fill sample (May f ∷ left) = fill sample left

-- the lines begin with one that hasn't the form
abbrev pub BeginsUnlike : HasForm → Form → List CertLine → Type 0
BeginsUnlike has_form f [] = ⊥
BeginsUnlike has_form f (x ∷ xs) = has_form f 0 x ≡ false

-- The samples fit, and none is taken for one more line of a form that may go on.
abbrev pub CanFill : HasForm → (Form → ℕ → CertLine) → List Slot → Type 0
CanFill has_form sample [] = Unit {0}
CanFill has_form sample (Must f place ∷ left) = (has_form f place (sample f place) ≡ true) × CanFill has_form sample left
CanFill has_form sample (May f ∷ left) = BeginsUnlike has_form f (fill sample left) × CanFill has_form sample left

pub may-skip_all : (has_form : HasForm) (f : Form) (left : List Slot) (xs : List CertLine) → BeginsUnlike has_form f xs → take_lines has_form (May f ∷ left) xs ≡ take_lines has_form left xs
may-skip_all has_form f left [] unlike = absurd unlike
may-skip_all has_form f left (x ∷ xs) unlike = may-skip has_form f left x xs unlike

pub fill-taken : (has_form : HasForm) (sample : Form → ℕ → CertLine) (left : List Slot) → CanFill has_form sample left → take_lines has_form left (fill sample left) ≡ Some []
fill-taken has_form sample [] can = refl
fill-taken has_form sample (Must f place ∷ left) can = must-taken has_form f place left (sample f place) (fill sample left) can.0 ∙ fill-taken has_form sample left can.1
fill-taken has_form sample (May f ∷ left) can = may-skip_all has_form f left (fill sample left) can.0 ∙ fill-taken has_form sample left can.1

take_line-can_fill : (has_form : HasForm) (sample : Form → ℕ → CertLine) (left after : List Slot) (x : CertLine) → CanFill has_form sample left → take_line has_form left x ≡ Some after → CanFill has_form sample after
take_line-can_fill has_form sample [] after x can e = cc
take_line-can_fill has_form sample (Must f place ∷ left) after x can e = by (has_form f place x) e
  where
    by : (b : Bool) → cond b (Some left) None ≡ Some after → CanFill has_form sample after
    by true e = let same : left ≡ after = cc in subst (CanFill has_form sample) same can.1
    by false e = cc
take_line-can_fill has_form sample (May f ∷ left) after x can e = by (λ h. take_line-can_fill has_form sample left after x can.1 h) (has_form f 0 x) e
  where
    by : (take_line has_form left x ≡ Some after → CanFill has_form sample after) → (b : Bool) → cond b (Some (May f ∷ left)) (take_line has_form left x) ≡ Some after → CanFill has_form sample after
    by again true e = let same : May f ∷ left ≡ after = cc in subst (CanFill has_form sample) same can
    by again false e = again e

pub take_lines-can_fill : (has_form : HasForm) (sample : Form → ℕ → CertLine) (left after : List Slot) (xs : List CertLine) → CanFill has_form sample left → take_lines has_form left xs ≡ Some after → CanFill has_form sample after
take_lines-can_fill has_form sample left after [] can e = let same : left ≡ after = cc in subst (CanFill has_form sample) same can
take_lines-can_fill has_form sample left after (x ∷ xs) can e = by (λ next c h. take_lines-can_fill has_form sample next after xs c h) (take_line has_form left x) refl e
  where
    by : ((next : List Slot) → CanFill has_form sample next → take_lines has_form next xs ≡ Some after → CanFill has_form sample after) → (o : Option (List Slot)) → take_line has_form left x ≡ o → option_and_then (λ s. take_lines has_form s xs) o ≡ Some after → CanFill has_form sample after
    by again None t e = cc
    by again (Some next) t e = again next (take_line-can_fill has_form sample left next x can t) e

-- a beginning that is taken can be completed
pub completed : (has_form : HasForm) (sample : Form → ℕ → CertLine) (left after : List Slot) (xs : List CertLine) → CanFill has_form sample left → take_lines has_form left xs ≡ Some after → take_lines has_form left (xs ++ fill sample after) ≡ Some []
completed has_form sample left after xs can e =
    take_lines-append has_form left xs (fill sample after)
    ∙ ap (option_and_then (λ s. take_lines has_form s (fill sample after))) e
    ∙ fill-taken has_form sample after (take_lines-can_fill has_form sample left after xs can e)
