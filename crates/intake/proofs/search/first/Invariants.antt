use Rattle.std.proofs.Common.{◌≡◌, ℕ, Bool, ◌<◌, None}
use Rattle.intake.specs.Search.{first}
use Rattle.intake.proofs.search.first.Given as goal

abbrev pub invariant-loop-k : goal.invariant-loop-k
invariant-loop-k g l = (p : ℕ → Bool) → ((k : ℕ) (b : Bool) → k < l.n → goal.F-post g l.test k b → b ≡ p k) → first p l.k ≡ None
