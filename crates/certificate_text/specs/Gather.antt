-- What lines hold, gathered, and the body that is made of it. No public clause cites it.
use Rattle.std.specs.Prelude.{ℕ, ◌==◌, Bool, true, false, if◌then◌else◌, List, [], ◌∷◌, ◌++◌, slice_index_or}
use Rattle.graph_core.specs.Graph.{GraphValue}
use Rattle.graph_core.specs.declared.graph.Line.{Line}
use Rattle.problem_defs.specs.declared.ask.Ask.{Ask}
use Rattle.problem_defs.specs.declared.ask.Ask.TheVariants as ask
use Rattle.problem_defs.specs.declared.cert.Body.{Body}
use Rattle.problem_defs.specs.declared.cert.Body.TheVariants as body
use Rattle.problem_defs.specs.declared.cert.PartsDual.{PartsDual}
use Rattle.problem_defs.specs.declared.cert.PartsDual.TheVariants as parts
use Rattle.problem_defs.specs.declared.cert.Way.{Way}
use Rattle.problem_defs.specs.declared.cert.Way.TheVariants.{Entering, Leaving}
use Rattle.certificate_text.specs.declared.line.CertLine.{CertLine}
use Rattle.certificate_text.specs.declared.line.CertLine.TheVariants as line
use Rattle.certificate_text.specs.declared.line.DualKind.{DualKind}
use Rattle.certificate_text.specs.declared.line.DualKind.TheVariants as kind
use Rattle.certificate_text.specs.declared.gather.Gathered.{Gathered}

abbrev pub nothing : Gathered
nothing = record { value = 0; impossible = false; rows = []; trees = []; pairs = []; kind = kind.Nothing; sides = [] }

-- the content with what one more line holds
abbrev pub with_line : Gathered → CertLine → Gathered
with_line c line.Title = c
with_line c (line.Command ask) = c
with_line c (line.Value n) = record c { value = n }
with_line c line.Impossible = record c { impossible = true }
with_line c (line.Path js) = record c { rows = c.rows ++ js ∷ [] }
with_line c (line.Part js) = record c { rows = c.rows ++ js ∷ [] }
with_line c (line.Join js) = record c { rows = c.rows ++ js ∷ [] }
with_line c (line.Tree u v n) = record c { trees = c.trees ++ (u, v, n) ∷ [] }
with_line c (line.Edge u v) = record c { pairs = c.pairs ++ (u, v) ∷ [] }
with_line c (line.Arc u v) = record c { pairs = c.pairs ++ (u, v) ∷ [] }
with_line c (line.Dual k) = record c { kind = k }
with_line c (line.Set X) = record c { sides = c.sides ++ X ∷ [] }
with_line c line.End = c

abbrev pub gather : Gathered → List CertLine → Gathered
gather c [] = c
gather c (x ∷ xs) = gather (with_line c x) xs

-- whether each edge goes from its first written end
abbrev pub heads_of : List Line → List (ℕ × ℕ) → List Bool
heads_of [] pairs = []
heads_of (l ∷ ls) [] = []
heads_of (l ∷ ls) (p ∷ pairs) = (p.0 == l.tail) ∷ heads_of ls pairs

abbrev pub only_side : List (List Bool) → List Bool
only_side sides = slice_index_or sides 0 []

abbrev pub forests_dual : DualKind → List (List Bool) → PartsDual
forests_dual kind.Nothing sides = parts.Nothing
forests_dual other sides = parts.Induced (only_side sides)

-- the dual of a packing or a cover
abbrev pub parts_dual : Ask → DualKind → List (List Bool) → PartsDual
parts_dual (ask.Arborescences r) k sides = parts.Cut (only_side sides)
parts_dual ask.Trees k sides = parts.Partition sides
parts_dual _ k sides = forests_dual k sides

abbrev pub way_of : DualKind → Way
way_of kind.Out = Leaving
way_of other = Entering

abbrev pub body_of : GraphValue → Ask → Gathered → Body
body_of g (ask.Flow s t) c = body.Walks c.value c.rows (only_side c.sides)
body_of g ask.CutTree c = body.Tree c.trees
body_of g (ask.Augment k) c = body.Edges c.value c.pairs c.sides
body_of g (ask.AugmentArcs k) c = body.Arcs c.value c.pairs (way_of c.kind) c.sides
body_of g (ask.Arborescences r) c = body.Parts c.value c.rows (parts_dual (ask.Arborescences r) c.kind c.sides)
body_of g ask.Trees c = body.Parts c.value c.rows (parts_dual ask.Trees c.kind c.sides)
body_of g ask.Forests c = body.Parts c.value c.rows (parts_dual ask.Forests c.kind c.sides)
body_of g (ask.Orient k) c = if c.impossible then body.Never (only_side c.sides) else body.Turned (heads_of g.lines c.pairs)
body_of g ask.Dijoin c = if c.impossible then body.Never (only_side c.sides) else body.Join c.value (slice_index_or c.rows 0 []) c.sides
