-- The pass over the elements: none of the first k has the vertices of one before it, the first face too many is kept, and their corners are in the index.
use mathlib.Core.Path.{◌≡◌, refl, sym, ◌∙◌, subst}
use mathlib.Core.Bool.{Bool, true, false}
use mathlib.Core.List.{List}
use Prim.Native.Nat.{ℕ, ◌+◌, ◌*◌, ◌≤◌, ◌<◌, zero-le}
use native.Mathlib.Nat.{le_antisymm}
use native.Mathlib.Numerals.{add-one}
use native.Mathlib.Omega.{arith}
use Rattle.intake.specs.Cells.{Cells}
use Rattle.std.specs.Prelude.{Option, Some, None, Ok}
use Rattle.std.specs.Bool.{then_some}
use Rattle.std.specs.Option.{option_or}
use Rattle.tables.specs.declared.refusal.Cause.TheVariants.{Same, Third}
use Rattle.tables.specs.Refusal.{refused}
use Rattle.opening.specs.declared.faces.Met.{Met}
use Rattle.intake.specs.Search.{or_at, first}
use Rattle.intake.specs.Causes.{same, third}
use Rattle.intake.specs.Verdict.{Verdict, at}
use Rattle.opening.specs.Scratch.{Filled, Meets, Sifted}
use Rattle.intake.proofs.laws.Search.{first_start, first_passed, first_stopped}

pub record Sifting (E : Cells) (k : ℕ) (t : Option ℕ) (index : List ℕ) : Type 0 where
  pub within : k ≤ E.count
  pub none : first (same E) k ≡ None
  pub kept : t ≡ first (third E) k
  pub filled : Filled E (4 * k) index

first_next : (test : ℕ → Bool) (k : ℕ) → option_or (first test k) (then_some (test k) k) ≡ first test (k + 1)
unfolding first
first_next test k = rw (add-one, first) (go (first test k) (test k))
  where
    go : (f : Option ℕ) (b : Bool) → option_or f (then_some b k) ≡ or_at f b k
    go (Some p) b = refl
    go None true = refl
    go None false = refl

pub sifting_start : {E : Cells} {index : List ℕ} → Filled E 0 index → Sifting E 0 None index
sifting_start b = record { within = zero-le; none = first_start _; kept = sym (first_start _); filled = b }

module _ {E : Cells} {index : List ℕ} {k : ℕ} {t : Option ℕ} (s : Sifting E k t index) where
  -- number 6 is answered at once
  pub sifting_same : {m : Met} → k < E.count → Meets E k m → m.same ≡ true → Sifted E (refused Same k) index
  sifting_same h x e =
      record {
        answer = rw (first_stopped (same E) k E.count s.none (sym x.same ∙ e) h);
        ready = λ p. let z : ◌≡◌ {A = ℕ} 0 1 = cc in absurd (omega arith);
      }

  pub sifting_next : {m : Met} {u : Option ℕ} {next : List ℕ} → k < E.count → Meets E k m → m.same ≡ false → u ≡ option_or t (then_some m.third k) → Filled E (4 * (k + 1)) next → Sifting E (k + 1) u next
  sifting_next h x e g f =
      record {
        within = omega arith;
        none = first_passed (same E) k s.none (sym x.same ∙ e);
        kept = g ∙ rw (s.kept, x.third) (first_next (third E) k);
        filled = f;
      }

  -- number 7 after all of them
  pub sifting_end : {r : Verdict} → E.count ≤ k → r ≡ at t Third (Ok tt) → Sifted E r index
  sifting_end h e =
      let n : k ≡ E.count = le_antisymm s.within h in
      record {
        answer = e ∙ rw s.kept (ended E.count n);
        ready = λ p. subst (λ j. Filled E (4 * j) index) n s.filled;
      }
    where
      -- over any number, since a rewrite of the count would hit the elements themselves
      ended : (j : ℕ) → k ≡ j → at (first (third E) k) Third (Ok tt) ≡ at (first (same E) j) Same (at (first (third E) j) Third (Ok tt))
      ended j q = rw (← q, s.none)
