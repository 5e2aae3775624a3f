-- Two views of the same elements: opening says the same of both.
use mathlib.Core.Path.{◌≡◌, sym, ap, subst, ◌∙◌}
use mathlib.Core.Bool.{◌||◌}
use mathlib.Core.List.{List}
use Prim.Native.Nat.{ℕ, ◌<◌}
use native.Mathlib.Omega.{arith}
use lib.Dec.{eqb}
use lib.Ieee.{Float}
use Rattle.intake.specs.Cells.{Cells}
use Rattle.intake.specs.Causes.{vertex, has}
use Rattle.opening.specs.Opening.{opened_mesh}
use Rattle.sound.proofs.laws.Tested.{Tested, tested_named}
use Rattle.sound.proofs.laws.Reordered.{Reordered}
use Rattle.sound.proofs.laws.Ordered.{Proper, proper_single}
use Rattle.sound.proofs.laws.Reopened.{named_proper, tested_reordered, records_reordered, rows_reordered}

pub record Views (E E' : Cells) : Type 0 where
  pub long : E.count ≡ E'.count
  pub same : (k q : ℕ) → k < E.count → q < 4 → vertex E k q ≡ vertex E' k q

pub views_back : {E E' : Cells} → Views E E' → Views E' E
views_back x = record { long = sym x.long; same = λ k q h l. sym (x.same k q (rw x.long h) l) }

module _ {E E' : Cells} (x : Views E E') where
  reordered : Reordered E E'
  unfolding has
  reordered = record { long = x.long; same = held }
    where
      held : (k v : ℕ) → k < E.count → has E k v ≡ has E' k v
      held k v h = λ i. eqb (x.same k 0 h (omega arith) i) v || (eqb (x.same k 1 h (omega arith) i) v || (eqb (x.same k 2 h (omega arith) i) v || eqb (x.same k 3 h (omega arith) i) v))

  proper : {f : ℕ → ℕ} → Proper f E → Proper f E'
  proper {f} d = record { differ = λ k p q h l m e. let b = subst (λ n. k < n) (sym x.long) h in d.differ k p q b l m (ap f (x.same k p b l) ∙ e ∙ ap f (sym (x.same k q b m))) }

  module _ {F : List Float} (t : Tested F E) where
    pub views_tested : Tested F E'
    views_tested = tested_reordered t reordered (proper_single (proper (named_proper (tested_named t))))

    pub views_records : (opened_mesh F E').records ≡ (opened_mesh F E).records
    views_records = records_reordered t reordered

    pub views_rows : (opened_mesh F E').rows ≡ (opened_mesh F E).rows
    views_rows = rows_reordered t reordered (proper (named_proper (tested_named t)))
