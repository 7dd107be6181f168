use Rattle.std.proofs.Common.{length, arith}
use Rattle.std.proofs.lemmas.List.{get_or_past}
use Rattle.lucchesi_younger.proofs.dual.greatest.Goals as goal

-- no count stands behind the last one, where 0 is read
pub counts-init : goal.counts-init
counts-init c =
    let items = c.as_slice-items.result.now in
    record { most = λ k l. absurd (omega arith); reached = (length items, get_or_past items (length items) 0 (omega arith)) }
