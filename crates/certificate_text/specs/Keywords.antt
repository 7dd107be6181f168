-- The first words of lines, and the nodes that an ask names. No public clause cites it.
use Rattle.std.specs.Prelude.{ℕ, ◌<◌, List, codes}
use Rattle.problem_defs.specs.declared.ask.Ask.{Ask}
use Rattle.problem_defs.specs.declared.ask.Ask.TheVariants as ask
use Rattle.certificate_text.specs.declared.keyword.Keyword.{Keyword}
use Rattle.certificate_text.specs.declared.keyword.Keyword.TheVariants as key

abbrev pub keyword_word : Keyword → List ℕ
keyword_word key.Certificate = codes "certificate"
keyword_word key.Command = codes "command"
keyword_word key.Value = codes "value"
keyword_word key.Impossible = codes "impossible"
keyword_word key.Path = codes "path"
keyword_word key.Part = codes "part"
keyword_word key.Join = codes "join"
keyword_word key.Tree = codes "tree"
keyword_word key.Edge = codes "edge"
keyword_word key.Arc = codes "arc"
keyword_word key.Dual = codes "dual"
keyword_word key.Set = codes "set"
keyword_word key.End = codes "end"

-- the nodes that an ask names are among n
abbrev pub NamesNodes : ℕ → Ask → Type 0
NamesNodes n (ask.Flow s t) = (s < n) × (t < n)
NamesNodes n (ask.Arborescences r) = r < n
NamesNodes n other = Unit {0}
