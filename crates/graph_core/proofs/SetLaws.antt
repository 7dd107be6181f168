-- Sets by a test.
use Rattle.std.proofs.Common.{ℕ, ◌≡◌, ◌<◌, Bool, false, length, zero-add}
use Rattle.std.proofs.lemmas.List.FromFn.{length-map-range_with_len, get_or-map-range_with_len}
use Rattle.graph_core.specs.Side.{has}
use Rattle.graph_core.specs.Sets.{set_of}

pub has_of : (n : ℕ) (f : ℕ → Bool) (k : ℕ) → k < n → has (set_of n f) k ≡ f k
has_of n f k l = get_or-map-range_with_len f 0 n k k false l (zero-add k)

pub length_of : (n : ℕ) (f : ℕ → Bool) → length (set_of n f) ≡ n
length_of n f = length-map-range_with_len f 0 n
