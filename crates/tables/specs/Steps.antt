-- A loop over a range, as a definition.
use Rattle.std.specs.Prelude.{ℕ, zero, suc, ◌+◌, ◌-◌}

-- a step at `from`, at `from` + 1, and so on, n times
unfoldable pub stepped : {L : Type 0} → (L → ℕ → L) → L → ℕ → ℕ → L
stepped f l from zero = l
stepped f l from (suc n) = f (stepped f l from n) (from + n)

-- a step at each place from `from` on, below `to`
abbrev pub over : {L : Type 0} → (L → ℕ → L) → L → ℕ → ℕ → L
over f l from to = stepped f l from (to - from)
