-- Dropped and passed over together are the length of the list (02, L5).
use mathlib.Core.Path.{◌≡◌, refl, sym, ap}
use mathlib.Core.Bool.{Bool, true, false, not, ◌&&◌, cond, ◌||◌}
use mathlib.Core.List.{List, [], ◌∷◌, Memᴰ}
use Prim.Native.Nat.{ℕ, zero, suc, ◌+◌, ◌<◌}
use native.Mathlib.Omega.{arith}
use borrow.Author.Tests.{eq-eqb, ne_eqb}
use lib.Dec.{eqb}
use lib.ListN.{length}
use Rattle.split.proofs.laws.Places.{Against, less, equal, more, against}
use Rattle.tables.specs.Mesh.{Mesh}
use Rattle.intake.specs.Search.{count}
use Rattle.opening.proofs.laws.Counting.{count_same}
use Rattle.sound.specs.Sound.{vertices}
use Rattle.coarsen_theory.specs.Dropping.{droppable, drop_one, drop_all, passed_over}
use Rattle.coarsen_theory.specs.Thinned.{stays, new_vertex}
use Rattle.coarsen_theory.proofs.laws.Free.{droppable_says}

-- two tests that differ at one place
count_one : (test test' : ℕ → Bool) (v n : ℕ) → v < n → test v ≡ true → test' v ≡ false → ((u : ℕ) → (u ≡ v → ⊥) → test' u ≡ test u) → count test n ≡ count test' n + 1
unfolding count
count_one test test' v zero h a b e = absurd (omega arith)
count_one test test' v (suc n) h a b e = go (against v n) (count_one test test' v n)
  where
    go : Against v n → (v < n → test v ≡ true → test' v ≡ false → ((u : ℕ) → (u ≡ v → ⊥) → test' u ≡ test u) → count test n ≡ count test' n + 1) → count test n + cond (test n) 1 0 ≡ count test' n + cond (test' n) 1 0 + 1
    go (less l) below = rw (e n (omega arith)) (omega (arith, below l a b e))
    go (equal i) below = rw (← i, a, b) (omega (arith, count_same test test' v (λ u l. sym (e u (omega arith)))))
    go (more l) below = absurd (omega arith)

module _ (m : Mesh) (i : ℕ) where
  -- one entry: one vertex less, or one passed over
  one_entry : (gone : ℕ → Bool) (v : ℕ) → v < vertices m → new_vertex (drop_one m i gone v) (vertices m) + 1 ≡ new_vertex gone (vertices m) + cond (droppable m i gone v) 0 1
  unfolding drop_one stays
  one_entry gone v l = go (droppable m i gone v) refl
    where
      or_false : (b : Bool) → not (b || false) ≡ not b
      or_false true = refl
      or_false false = refl

      or_true : (b : Bool) → not (b || true) ≡ false
      or_true true = refl
      or_true false = refl

      go : (b : Bool) → droppable m i gone v ≡ b → count (λ u. not (gone u || (droppable m i gone v && eqb u v))) (vertices m) + 1 ≡ count (λ u. not (gone u)) (vertices m) + cond b 0 1
      go true d = rw d (omega (arith, count_one (λ u. not (gone u)) (λ u. not (gone u || (true && eqb u v))) v (vertices m) l (ap not (droppable_says m i gone v d).still) (rw (eq-eqb v v refl) (or_true (gone v))) (λ u o. rw (ne_eqb u v o) (or_false (gone u)))))
      go false d = rw d (omega (arith, count_same (λ u. not (gone u || false)) (λ u. not (gone u)) (vertices m) (λ u h. or_false (gone u))))

  -- vertices left and entries are vertices before and entries passed over
  pub passed_count : (vs : List ℕ) (gone : ℕ → Bool) → ((v : ℕ) → Memᴰ v vs → v < vertices m) → new_vertex (drop_all m i gone vs) (vertices m) + length vs ≡ new_vertex gone (vertices m) + passed_over m i gone vs
  unfolding drop_all passed_over
  passed_count [] gone low = refl
  passed_count (v ∷ vs) gone low = omega (arith, passed_count vs (drop_one m i gone v) (λ u k. low u (Memᴰ.tail k)), one_entry gone v (low v (Memᴰ.head refl)))
