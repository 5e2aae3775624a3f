-- The order of the lines: all V, then T, then M; what stands too late is 12, and not 13.
use Rattle.std.proofs.Common.{◌≡◌, ℕ, ◌<◌, length, Result, Err, arith}
use borrow.Author.Tests.{ne_eqb}
use Rattle.fields.specs.declared.line.Line.TheVariants as line
use Rattle.tables.specs.declared.refusal.Cause.TheVariants as cause
use Rattle.text.specs.Input.{Input, takes}

-- a T after an M
pub element_late : (i : Input) (a b c d : ℕ) → 0 < length i.marks → takes i (line.Element a b c d) ≡ Err cause.Line
unfolding takes
element_late i a b c d h = rw (ne_eqb (length i.marks) 0 (λ q. omega (arith, h, q)))
