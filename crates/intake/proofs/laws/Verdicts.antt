-- A row of tests, each asked by a call of its own: where one refuses its refusal stands, and where it passes the rest decides.
use Rattle.std.proofs.Common.{◌≡◌, refl, sym, ◌∙◌, ℕ, Option, Some, None, Ok, Err}
use Rattle.std.specs.Bool.{⊤}
use Rattle.tables.specs.declared.refusal.Cause.{Cause}
use Rattle.tables.specs.declared.refusal.Refusal.{Refusal}
use Rattle.tables.specs.Refusal.{refusal_at}
use Rattle.intake.specs.Reason.{decided}
use Rattle.intake.specs.Verdict.{Verdict, at}

-- f is what the call found, g what it looked for, r the verdict on f alone
module _ (cause : Cause) (next : Verdict) {f g : Option ℕ} {r : Verdict} (found : f ≡ g) (e : r ≡ at f cause (Ok tt)) where
  pub stands : {y : Refusal} → r ≡ Err y → Err y ≡ at g cause next
  stands {y} h = rw (← found) (go f (sym h ∙ e))
    where
      go : (f : Option ℕ) → Err y ≡ at f cause (Ok tt) → Err y ≡ at f cause next
      go (Some p) z = z
      go None z = cc

  pub goes_on : {x : ⊤} {s : Verdict} → r ≡ Ok x → s ≡ next → s ≡ at g cause next
  goes_on {x} {s} h z = rw (← found) (go f (sym h ∙ e))
    where
      go : (f : Option ℕ) → Ok x ≡ at f cause (Ok tt) → s ≡ at f cause next
      go (Some p) y = cc
      go None y = z

-- refused for a cause: the verdict of the row of tests
pub decided_at : (found : Option ℕ) (cause : Cause) (next : Verdict) → decided (refusal_at cause) found next ≡ at found cause next
decided_at (Some p) cause next = refl
decided_at None cause next = refl
