-- What stands in a table of zeros, and past its end.
use mathlib.Core.Path.{◌≡◌}
use Prim.Native.Nat.{ℕ, ◌≤◌}
use native.Mathlib.Decide.{dec_le}
use native.Mathlib.Omega.{arith}
use lib.ListN.{get_or, replicate, length-replicate, get_or-replicate, get_or-eq_default}

pub zeros_at : (n i : ℕ) → ◌≡◌ {A = ℕ} (get_or (replicate n 0) i 0) 0
zeros_at n i = go (dec_le n i)
  where
    go : Dec (n ≤ i) → ◌≡◌ {A = ℕ} (get_or (replicate n 0) i 0) 0
    go (yes h) = get_or-eq_default (replicate n 0) 0 {n = i} (rw length-replicate h)
    go (no h) = get_or-replicate n i 0 0 (omega arith)
