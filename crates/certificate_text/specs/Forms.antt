-- Which lines have a form. No public clause cites it.
use Rattle.std.specs.Prelude.{ℕ, ◌==◌, ◌&&◌, ◌||◌, Bool, true, false, slice_index_or}
use Rattle.graph_core.specs.Graph.{GraphValue, no_line}
use Rattle.graph_core.specs.declared.graph.Line.{Line}
use Rattle.certificate_text.specs.declared.line.CertLine.{CertLine}
use Rattle.certificate_text.specs.declared.line.CertLine.TheVariants as line
use Rattle.certificate_text.specs.declared.line.DualKind.{DualKind}
use Rattle.certificate_text.specs.declared.line.DualKind.TheVariants as kind
use Rattle.certificate_text.specs.declared.row.Form.{Form}
use Rattle.certificate_text.specs.declared.row.Form.TheVariants as form

abbrev pub joins : Line → ℕ → ℕ → Bool
joins l u v = ((l.tail == u) && (l.head == v)) || ((l.tail == v) && (l.head == u))

abbrev pub kind_number : DualKind → ℕ
kind_number kind.Cut = 0
kind_number kind.Components = 1
kind_number kind.Subpartition = 2
kind_number kind.In = 3
kind_number kind.Out = 4
kind_number kind.Partition = 5
kind_number kind.Induced = 6
kind_number kind.Nothing = 7
kind_number kind.Dicuts = 8
kind_number kind.Dicut = 9

-- whether a line has the form, at this place of its piece
abbrev pub has_form : GraphValue → Form → ℕ → CertLine → Bool
has_form g form.Value place (line.Value n) = true
has_form g form.Impossible place line.Impossible = true
has_form g form.Path place (line.Path js) = true
has_form g form.Part place (line.Part js) = true
has_form g form.Join place (line.Join js) = true
has_form g form.Tree place (line.Tree u v n) = true
has_form g form.Edge place (line.Edge u v) = true
has_form g form.Arc place (line.Arc u v) = true
has_form g form.Turned place (line.Arc u v) = joins (slice_index_or g.lines place no_line) u v
has_form g (form.Dual k) place (line.Dual other) = kind_number k == kind_number other
has_form g form.Set place (line.Set X) = true
has_form g form.End place line.End = true
has_form g f place x = false
