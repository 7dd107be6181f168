-- What a certificate lacks: the first of its claims that doesn't hold. No public clause cites it.
use Rattle.std.specs.Prelude.{Result, Ok, Err}
use Rattle.problem_defs.specs.Claims.{Claims}
use Rattle.certificate_checker.specs.declared.rejection.Rejection.{Rejection}
use Rattle.certificate_checker.specs.declared.rejection.Rejection.TheVariants.{Malformed, Infeasible, BadDual, Gap, NoMemory}

abbrev pub FirstLack : {T : Type 0} → Claims → Result T Rejection → Type 0
FirstLack claims (Ok done) = claims.object × claims.dual × claims.value
FirstLack claims (Err Infeasible) = ¬ claims.object
FirstLack claims (Err BadDual) = claims.object × ¬ claims.dual
FirstLack claims (Err Gap) = claims.object × claims.dual × ¬ claims.value
FirstLack claims (Err (Malformed line)) = ⊥
FirstLack claims (Err NoMemory) = Unit {0}
