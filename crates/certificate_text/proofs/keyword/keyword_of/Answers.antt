use Rattle.std.proofs.Common.{◌≡◌, ℕ, ◌<◌, get_or, lit<, arith}
use Rattle.certificate_text.specs.declared.keyword.Keyword.{Keyword}
use Rattle.certificate_text.specs.declared.keyword.Keyword.TheVariants.{Certificate, Command, Value, Impossible, Path, Part, Join, Tree, Edge, Arc, Dual, Set, End}
use Rattle.certificate_text.specs.declared.keyword.TheConstants.{KEYWORDS}
use Rattle.certificate_text.specs.Keywords.{keyword_word}
use Rattle.certificate_text.proofs.keyword.keyword_of.Goals as goal

-- what holds of each place of the table holds of each keyword
each : (P : Keyword → Type 0) → ((k : ℕ) → k < 13 → P (get_or KEYWORDS k Certificate)) → (a : Keyword) → P a
each P all Certificate = all 0 (lit< tt)
each P all Command = all 1 (lit< tt)
each P all Value = all 2 (lit< tt)
each P all Impossible = all 3 (lit< tt)
each P all Path = all 4 (lit< tt)
each P all Part = all 5 (lit< tt)
each P all Join = all 6 (lit< tt)
each P all Tree = all 7 (lit< tt)
each P all Edge = all 8 (lit< tt)
each P all Arc = all 9 (lit< tt)
each P all Dual = all 10 (lit< tt)
each P all Set = all 11 (lit< tt)
each P all End = all 12 (lit< tt)

pub returns : goal.returns
returns c = λ a _ same. each (λ b. keyword_word b ≡ c.args.word.now → ⊥) (λ k l. c.loop-keyword.invariant k (omega arith)) a same
