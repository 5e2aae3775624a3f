-- What is asked of the value holds of an answer that has it, and nothing is asked of the error; the same the other way round.
use mathlib.Core.Path.{◌≡◌, sym, subst}
use Prim.Native.Nat.{ℕ}
use native.Mathlib.Omega.{arith}
use Rattle.std.specs.Prelude.{Result, Ok, Err}
use Rattle.std.specs.Result.{ForOk, ForErr}

module _ {T E : Type 0} where
  same_value : (x y : T) → ◌≡◌ {A = Result T E} (Ok x) (Ok y) → x ≡ y
  same_value x y e = cc

  pub same_error : (x y : E) → ◌≡◌ {A = Result T E} (Err x) (Err y) → x ≡ y
  same_error x y e = cc

  never : {X : Type 0} (x : T) (y : E) → ◌≡◌ {A = Result T E} (Ok x) (Err y) → X
  never x y e = let z : ◌≡◌ {A = ℕ} 0 1 = cc in absurd (omega arith)

  pub of_value : (P : T → Type 0) (x : T) → P x → ForOk {T = T} {E = E} (Ok x) P
  of_value P x p y e = subst P (same_value x y e) p

  pub value_only : (Q : E → Type 0) (x : T) → ForErr {T = T} {E = E} (Ok x) Q
  value_only Q x y e = never x y e

  pub of_error : (Q : E → Type 0) (x : E) → Q x → ForErr {T = T} {E = E} (Err x) Q
  of_error Q x q y e = subst Q (same_error x y e) q

  pub error_only : (P : T → Type 0) (x : E) → ForOk {T = T} {E = E} (Err x) P
  error_only P x y e = never y x (sym e)
