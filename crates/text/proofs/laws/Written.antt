-- What the program wrote lies within the buffer.
use mathlib.Core.Path.{◌≡◌, sym, ap, ◌∙◌}
use mathlib.Core.List.{List}
use Prim.Native.Nat.{ℕ, ◌≤◌}
use native.Mathlib.Omega.{arith}
use lib.ListN.{length, take, replicate, length-replicate}
use lib.Seq.{length-take-le, length-sets}
use Rattle.text.specs.Program.{Writes}

module _ {l : List ℕ} {z n : ℕ} {o : List ℕ} (x : Writes l (replicate 262144 z) n o) where
  size : length o ≡ 262144
  size = ap length x.stores ∙ length-sets (replicate 262144 z) 0 x.text ∙ length-replicate 262144 z

  pub written_within : n ≤ length o
  written_within = omega (arith, x.fits, size)

  pub written_size : n ≡ length (take n o)
  written_size = sym (length-take-le n o written_within)

pub ruleset written = (written_within, written_size)
