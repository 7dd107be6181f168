-- A text is accepted, or rejected for one reason.
use Rattle.std.proofs.Common.{◌≡◌, ◌≢◌, inl, inr, ℕ, ◌+◌, ◌<◌, List, [], ◌++◌, length, Option, None, Some, refl, sym, ap, subst, ◌∙◌, append-nil, arith}
use Rattle.std.proofs.lemmas.List.{append_cancel_left}
use Rattle.graph_core.specs.Graph.{GraphValue, IsGraph}
use Rattle.problem_defs.specs.Meets.{HasObject, HasDual, HasValue}
use Rattle.problem_defs.specs.Shaped.{IsShaped}
use Rattle.problem_defs.specs.declared.cert.Cert.{Cert}
use Rattle.certificate_text.specs.BadLine.{IsBad}
use Rattle.certificate_text.specs.Text.{text, byte_lines}
use Rattle.certificate_text.proofs.TextLaws.{one-certificate}
use Rattle.certificate_checker.specs.Accepted.{IsAccepted}
use Rattle.certificate_checker.specs.Flaws.{IsTextOf}
use Rattle.certificate_checker.specs.Malformed.{GoesOn}
use Rattle.certificate_checker.specs.Reason.{IsReason}
use Rattle.certificate_checker.specs.declared.rejection.Rejection.{Rejection}
use Rattle.certificate_checker.specs.declared.rejection.Rejection.TheVariants.{Malformed, Infeasible, BadDual, Gap, NoMemory}

-- what is said of a certificate and of what follows its text: None where it is accepted
data Says (g : GraphValue) (cert : Cert) (rest : List ℕ) : Option Rejection → Type 0 where
  more : rest ≢ [] → Says g cert rest (Some (Malformed (length (byte_lines g cert) + 1)))
  no_object : rest ≡ [] → ¬ HasObject g cert.ask cert.body → Says g cert rest (Some Infeasible)
  no_dual : rest ≡ [] → HasObject g cert.ask cert.body → ¬ HasDual g cert.ask cert.body → Says g cert rest (Some BadDual)
  no_value : rest ≡ [] → HasObject g cert.ask cert.body → HasDual g cert.ask cert.body → ¬ HasValue g cert.ask cert.body → Says g cert rest (Some Gap)
  meets : rest ≡ [] → HasObject g cert.ask cert.body → HasDual g cert.ask cert.body → HasValue g cert.ask cert.body → Says g cert rest None

said-once : (g : GraphValue) (cert : Cert) (rest : List ℕ) (a b : Option Rejection) → Says g cert rest a → Says g cert rest b → a ≡ b
said-once g cert rest a b (more r) (more r') = refl
said-once g cert rest a b (more r) (no_object r' o) = absurd (r r')
said-once g cert rest a b (more r) (no_dual r' o d) = absurd (r r')
said-once g cert rest a b (more r) (no_value r' o d v) = absurd (r r')
said-once g cert rest a b (more r) (meets r' o d v) = absurd (r r')
said-once g cert rest a b (no_object r o) (more r') = absurd (r' r)
said-once g cert rest a b (no_object r o) (no_object r' o') = refl
said-once g cert rest a b (no_object r o) (no_dual r' o' d) = absurd (o o')
said-once g cert rest a b (no_object r o) (no_value r' o' d v) = absurd (o o')
said-once g cert rest a b (no_object r o) (meets r' o' d v) = absurd (o o')
said-once g cert rest a b (no_dual r o d) (more r') = absurd (r' r)
said-once g cert rest a b (no_dual r o d) (no_object r' o') = absurd (o' o)
said-once g cert rest a b (no_dual r o d) (no_dual r' o' d') = refl
said-once g cert rest a b (no_dual r o d) (no_value r' o' d' v) = absurd (d d')
said-once g cert rest a b (no_dual r o d) (meets r' o' d' v) = absurd (d d')
said-once g cert rest a b (no_value r o d v) (more r') = absurd (r' r)
said-once g cert rest a b (no_value r o d v) (no_object r' o') = absurd (o' o)
said-once g cert rest a b (no_value r o d v) (no_dual r' o' d') = absurd (d' d)
said-once g cert rest a b (no_value r o d v) (no_value r' o' d' v') = refl
said-once g cert rest a b (no_value r o d v) (meets r' o' d' v') = absurd (v v')
said-once g cert rest a b (meets r o d v) (more r') = absurd (r' r)
said-once g cert rest a b (meets r o d v) (no_object r' o') = absurd (o' o)
said-once g cert rest a b (meets r o d v) (no_dual r' o' d') = absurd (d' d)
said-once g cert rest a b (meets r o d v) (no_value r' o' d' v') = absurd (v' v)
said-once g cert rest a b (meets r o d v) (meets r' o' d' v') = refl

-- a certificate at the front, and what is said of it
record Stands (g : GraphValue) (bytes : List ℕ) (a : Option Rejection) : Type 0 where
  pub cert : Cert
  pub shaped : IsShaped g cert
  pub rest : List ℕ
  pub is : bytes ≡ text g cert ++ rest
  pub says : Says g cert rest a

stands-once : (g : GraphValue) (bytes : List ℕ) (a b : Option Rejection) → IsGraph g → Stands g bytes a → Stands g bytes b → a ≡ b
stands-once g bytes a b graph s t =
    let e : text g t.cert ++ t.rest ≡ text g s.cert ++ s.rest = sym t.is ∙ s.is in
    let same : t.cert ≡ s.cert = one-certificate g t.cert s.cert t.rest s.rest graph t.shaped s.shaped e in
    let rest : t.rest ≡ s.rest = append_cancel_left (text g s.cert) t.rest s.rest (ap (λ x. text g x ++ t.rest) (sym same) ∙ e) in
    let moved : Says g s.cert t.rest b = subst (λ x. Says g x t.rest b) same t.says in
    said-once g s.cert s.rest a b s.says (subst (λ r. Says g s.cert r b) rest moved)

whole-stands : (g : GraphValue) (bytes : List ℕ) (cert : Cert) (a : Option Rejection) → IsTextOf g cert bytes → Says g cert [] a → Stands g bytes a
whole-stands g bytes cert a whole says = record { cert = cert; shaped = whole.shaped; rest = []; is = whole.is ∙ sym (append-nil (text g cert)); says = says }

accepted-stands : (g : GraphValue) (bytes : List ℕ) → IsAccepted g bytes → Stands g bytes None
accepted-stands g bytes a = record {
  cert = a.cert;
  shaped = a.meets.shaped;
  rest = [];
  is = a.is ∙ sym (append-nil (text g a.cert));
  says = meets refl a.meets.object a.meets.dual a.meets.value;
}

-- two lines aren't both the first bad one
bad-order : (g : GraphValue) (bytes : List ℕ) (l m : ℕ) → IsBad g bytes l → IsBad g bytes m → l < m → ⊥
bad-order g bytes l m a b lt = a.here (omega (arith, b.within)) (b.before l lt)

bad-once : (g : GraphValue) (bytes : List ℕ) (l m : ℕ) → IsBad g bytes l → IsBad g bytes m → l ≡ m
bad-once g bytes l m a b =
    let p : ¬ (l < m) = bad-order g bytes l m a b in
    let q : ¬ (m < l) = bad-order g bytes m l b a in
    omega arith

-- no certificate at the front, or one of which the reason is said
data Cause (g : GraphValue) (bytes : List ℕ) : Rejection → Type 0 where
  none : (line : ℕ) → IsBad g bytes line → Cause g bytes (Malformed line)
  one : (why : Rejection) → Stands g bytes (Some why) → Cause g bytes why

goes-on : (g : GraphValue) (bytes : List ℕ) (line : ℕ) → GoesOn g bytes line → Cause g bytes (Malformed line)
goes-on g bytes line x =
    let stands : Stands g bytes (Some (Malformed (length (byte_lines g x.cert) + 1))) = record { cert = x.cert; shaped = x.shaped; rest = x.rest; is = x.is; says = more x.more } in
    one (Malformed line) (subst (λ n. Stands g bytes (Some (Malformed n))) (sym x.line_is) stands)

cause : (g : GraphValue) (bytes : List ℕ) (why : Rejection) → IsReason g bytes why → why ≢ NoMemory → Cause g bytes why
cause g bytes (Malformed line) (inl bad) other = none line bad
cause g bytes (Malformed line) (inr x) other = goes-on g bytes line x
cause g bytes Infeasible x other = one Infeasible (whole-stands g bytes x.cert (Some Infeasible) x.whole (no_object refl x.object))
cause g bytes BadDual x other = one BadDual (whole-stands g bytes x.cert (Some BadDual) x.whole (no_dual refl x.object x.dual))
cause g bytes Gap x other = one Gap (whole-stands g bytes x.cert (Some Gap) x.whole (no_value refl x.object x.dual x.value))
cause g bytes NoMemory x other = absurd (other refl)

some-same : (a b : Rejection) → Some a ≡ Some b → a ≡ b
some-same a b e = cc

cause-once : (g : GraphValue) (bytes : List ℕ) (why other : Rejection) → IsGraph g → Cause g bytes why → Cause g bytes other → why ≡ other
cause-once g bytes why other graph (none l bad) (none m bad') = ap Malformed (bad-once g bytes l m bad bad')
cause-once g bytes why other graph (none l bad) (one w s) = absurd (bad.no_text s.cert s.rest s.shaped s.is)
cause-once g bytes why other graph (one w s) (none l bad) = absurd (bad.no_text s.cert s.rest s.shaped s.is)
cause-once g bytes why other graph (one w s) (one w' s') = some-same why other (stands-once g bytes (Some why) (Some other) graph s s')

pub one-reason : (g : GraphValue) (bytes : List ℕ) (why other : Rejection) → IsGraph g → IsReason g bytes why → IsReason g bytes other → why ≢ NoMemory → other ≢ NoMemory → why ≡ other
one-reason g bytes why other graph a b p q = cause-once g bytes why other graph (cause g bytes why a p) (cause g bytes other b q)

not-accepted : (g : GraphValue) (bytes : List ℕ) (why : Rejection) → IsGraph g → IsAccepted g bytes → Cause g bytes why → ⊥
not-accepted g bytes why graph a (none l bad) = bad.no_text a.cert [] a.meets.shaped (a.is ∙ sym (append-nil (text g a.cert)))
not-accepted g bytes why graph a (one w s) =
    let e : None ≡ Some why = stands-once g bytes None (Some why) graph (accepted-stands g bytes a) s in
    cc

pub accepted-alone : (g : GraphValue) (bytes : List ℕ) (why : Rejection) → IsGraph g → IsAccepted g bytes → IsReason g bytes why → why ≡ NoMemory
accepted-alone g bytes (Malformed line) graph a x = absurd (not-accepted g bytes (Malformed line) graph a (cause g bytes (Malformed line) x (λ e. cc)))
accepted-alone g bytes Infeasible graph a x = absurd (not-accepted g bytes Infeasible graph a (cause g bytes Infeasible x (λ e. cc)))
accepted-alone g bytes BadDual graph a x = absurd (not-accepted g bytes BadDual graph a (cause g bytes BadDual x (λ e. cc)))
accepted-alone g bytes Gap graph a x = absurd (not-accepted g bytes Gap graph a (cause g bytes Gap x (λ e. cc)))
accepted-alone g bytes NoMemory graph a x = refl
