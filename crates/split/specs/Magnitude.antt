-- The limit on coordinates (01, "What comes back", number 3): finite, and of magnitude at most 2 ^ 1000.
use Rattle.std.specs.Prelude.{◌*◌, ◌^◌, ◌≤◌, Float}
use Rattle.std.specs.Float.{nan, inf, fin}
use Rattle.std.specs.Float.Ieee.{up, down}

unfoldable pub Bounded : Float → Type 0
Bounded nan = ⊥
Bounded (inf s) = ⊥
Bounded (fin s m e) = m * up e ≤ 2 ^ 1000 * down e
