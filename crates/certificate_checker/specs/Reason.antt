-- Why a text is rejected: the first reason that holds. Want of memory is free.
use Rattle.std.specs.Prelude.{ℕ, List}
use Rattle.graph_core.specs.Graph.{GraphValue}
use Rattle.certificate_checker.specs.Flaws.{IsInfeasible, HasBadDual, HasGap}
use Rattle.certificate_checker.specs.Malformed.{IsMalformed}
use Rattle.certificate_checker.specs.declared.rejection.Rejection.{Rejection}
use Rattle.certificate_checker.specs.declared.rejection.Rejection.TheVariants.{Malformed, Infeasible, BadDual, Gap, NoMemory}

abbrev pub IsReason : GraphValue → List ℕ → Rejection → Type 0
IsReason g bytes (Malformed line) = IsMalformed g bytes line
IsReason g bytes Infeasible = IsInfeasible g bytes
IsReason g bytes BadDual = HasBadDual g bytes
IsReason g bytes Gap = HasGap g bytes
IsReason g bytes NoMemory = Unit {0}
