-- The index while rows that stand are put into it.
use mathlib.Core.Path.{◌≡◌, refl, ◌∙◌}
use mathlib.Core.List.{List}
use Prim.Native.Nat.{ℕ, ◌+◌, ◌*◌, ◌≤◌, ◌<◌}
use native.Mathlib.Omega.{arith}
use lib.ListN.{length}
use borrow.Author.Rules.{rules}
use Rattle.chain.specs.Chain.{Indexed}
use Rattle.chain.proofs.laws.Index.{indexed_none}
use Rattle.tables.specs.Layout.{row_at, most_rows}
use Rattle.closure.specs.State.{corner, links_at, row_pushed, State}
use Rattle.closure.specs.Build.{Indexable}
use Rattle.closure.proofs.laws.Index.{corner_row, scratch_holds}
use Rattle.closure.proofs.laws.Uses.{row_pushed_length, row_pushed_indexed}

-- the first k rows are in the index
pub record Building (w s₀ s : List ℕ) (n k : ℕ) : Type 0 where
  pub size : length s ≡ length s₀
  pub index : Indexed (corner w) (4 * k) links_at s
  pub within : k ≤ n

module _ {w s₀ : List ℕ} {n : ℕ} (x : Indexable w s₀ n) where
  holds : 40000 + 5 * n ≤ length s₀
  holds = scratch_holds (length w) (length s₀) n x.fresh.size x.few x.fits

  pub building_start : Building w s₀ s₀ n 0
  building_start = record { size = refl; index = indexed_none (corner w) links_at s₀ (omega (arith, holds)) x.fresh.heads; within = omega arith }

  row_added : (k : ℕ) (s : List ℕ) → k < n → length s ≡ length s₀ → Indexed (corner w) (4 * k) links_at s → Indexed (corner w) (4 * (k + 1)) links_at (row_pushed s k (row_at w k))
  row_added k s h e i = row_pushed_indexed s k (row_at w k) (corner_row w k) (λ q l. rw (← corner_row w k q l) (x.low (4 * k + q) (omega arith))) (omega (arith, holds)) (omega (arith, x.few)) i

  pub building_room : {s : List ℕ} {k : ℕ} → Building w s₀ s n k → k < n → k < most_rows
  building_room b h = omega (arith, x.few)

  pub building_places : {s : List ℕ} {k : ℕ} → Building w s₀ s n k → k < n → 2 * links_at + 4 * k + 3 < length s
  building_places b h = omega (arith, holds, b.size)

  pub building_next : {s s' : List ℕ} {k : ℕ} → Building w s₀ s n k → k < n → s' ≡ row_pushed s k (row_at w k) → Building w s₀ s' n (k + 1)
  building_next {s} {s'} {k} b h e =
      rw e (record { size = row_pushed_length s k (row_at w k) ∙ b.size; index = row_added k s h b.size b.index; within = omega arith })

  pub building_end : {s : List ℕ} {k : ℕ} → Building w s₀ s n k → n ≤ k → State w s n
  building_end {s} {k} b h =
      let all : k ≡ n = omega (arith, b.within) in
      record { size = rw b.size x.fresh.size; index = rw all at b.index; few = x.few; fits = x.fits; low = x.low; blank = x.blank }

pub ruleset building = (building_start, building_room, building_places, building_next, building_end, rules)
