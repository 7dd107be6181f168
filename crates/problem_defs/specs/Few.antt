-- As many lines or nodes as a graph may have are fewer than a certificate's numbers reach.
use Rattle.std.specs.Prelude.{◌<◌, ◌^◌}
use Rattle.std.proofs.Common.{lit<}

pub small : 65536 < 2 ^ 64
small = lit< tt
