-- Leaves split one after the other at one vertex: what is split, and what the leaves are then.
use mathlib.Core.Path.{◌≡◌, refl, ap, ◌∙◌}
use mathlib.Core.List.Memᴰ
use mathlib.Core.List.{List, [], ◌∷◌, Memᴰ}
use mathlib.Core.Logic.{◌⊎◌, inl, inr}
use Prim.Native.Nat.{ℕ, ◌+◌, ◌*◌, ◌<◌}
use native.Mathlib.Decide.{ℕ_discrete}
use native.Mathlib.Omega.{arith}
use lib.ListN.{length}
use Rattle.split.specs.declared.row.Row.{Row}
use Rattle.split.specs.Split.{Side}
use Rattle.split.specs.Row.{corners_of, child_of}
use Rattle.split.proofs.laws.Rows.{row_step}
use Rattle.tables.specs.Mesh.{Mesh}
use Rattle.sound.specs.Sound.{rows, row_of, Grown}
use Rattle.run.proofs.laws.Cuts.{Cuts, Either, born, before, next, either}
use Rattle.run.proofs.laws.Grows.{Grows, grows_same, grows_on, cut_grows}

-- a leaf of m that is not one of ss
pub record Remains (m : Mesh) (ss : List ℕ) (q : ℕ) : Type 0 where
  pub there : q < rows m
  pub leaf : (row_of m q).child ≡ 0
  pub other : Memᴰ q ss → ⊥

-- row q of m' is a child of one of ss
pub record Born (m m' : Mesh) (v : ℕ) (ss : List ℕ) (q : ℕ) : Type 0 where
  pub parent : ℕ
  pub listed : Memᴰ parent ss
  pub side : Side
  pub corners : corners_of (row_of m' q) ≡ corners_of (child_of side (row_of m parent) parent v)

-- row q of m has children
pub record Split (m : Mesh) (q : ℕ) : Type 0 where
  pub there : q < rows m
  pub split : (row_of m q).child ≡ 0 → ⊥

-- m' is m with the leaves ss split at the vertex v
pub record Patched (m m' : Mesh) (i t v : ℕ) (ss : List ℕ) : Type 0 where
  pub grown : Grown m' i t
  pub grows : Grows m m' i t
  pub size : rows m' ≡ rows m + 2 * length ss
  pub leaves : (q : ℕ) → q < rows m' → (row_of m' q).child ≡ 0 → Remains m ss q ⊎ Born m m' v ss q
  pub gone : (s : ℕ) → Memᴰ s ss → (row_of m' s).child ≡ 0 → ⊥
  pub splits : (q : ℕ) → q < rows m' → ((row_of m' q).child ≡ 0 → ⊥) → Split m q ⊎ Memᴰ q ss

pub patched_none : {m : Mesh} {i t : ℕ} (v : ℕ) → Grown m i t → Patched m m i t v []
patched_none {m} {i} {t} v g = record {
  grown = g;
  grows = grows_same m i t;
  size = omega arith;
  leaves = λ q h l. inl (record { there = h; leaf = l; other = Memᴰ.not-nil });
  gone = λ s k. absurd (Memᴰ.not-nil k);
  splits = λ q h d. inl (record { there = h; split = d });
}

module _ {m n m' : Mesh} {i t s v : ℕ} {ss : List ℕ} (g : Grown m i t) (c : Cuts m n i t s v) (p : Patched n m' i t v ss) (once : Memᴰ s ss → ⊥) (old : (q : ℕ) → Memᴰ q ss → q < rows m) where
  own_split : (row_of n s).child ≡ 0 → ⊥
  own_split e = omega (arith, c.rows.there, ap (λ (r : Row). r.child) c.rows.own, e)

  same_listed : (q : ℕ) → Memᴰ q ss → row_of n q ≡ row_of m q
  same_listed q k = c.rows.old q (old q k) (λ e. once (rw (← e) k))

  remaining : (q : ℕ) → q < rows m' → Remains n ss q → Remains m (s ∷ ss) q ⊎ Born m m' v (s ∷ ss) q
  remaining q h r = elim (either g c q r.there) [
    | before l ↦ let d : q ≡ s → ⊥ = λ e. own_split (rw (← e) r.leaf) in
        inl (record { there = l; leaf = rw (← c.rows.old q l d) r.leaf; other = λ k. elim (Memᴰ.cases_cons k) [ inl e ↦ d e | inr j ↦ r.other j ] })
    | next x e ↦ inr (record { parent = s; listed = Memᴰ.head refl; side = x; corners = ap corners_of (p.grows.row q r.there) ∙ rw e (ap corners_of (born g c x)) })
  ]

  carried : (q : ℕ) → Born n m' v ss q → Born m m' v (s ∷ ss) q
  carried q b = record { parent = b.parent; listed = Memᴰ.tail b.listed; side = b.side; corners = b.corners ∙ rw (same_listed b.parent b.listed) }

  pub patched_cut : Patched m m' i t v (s ∷ ss)
  patched_cut = record {
    grown = p.grown;
    grows = grows_on (cut_grows g c) p.grows;
    size = omega (arith, p.size, c.rows.more);
    leaves = λ q h l. elim (p.leaves q h l) [ inl r ↦ remaining q h r | inr b ↦ inr (carried q b) ];
    gone = λ q k. elim (Memᴰ.cases_cons k) [
      | inl e ↦ rw e (λ z. own_split (rw (← p.grows.split s (omega (arith, c.rows.there, c.rows.more)) own_split) z))
      | inr j ↦ p.gone q j
    ];
    splits = λ q h d. elim (p.splits q h d) [
      | inr j ↦ inr (Memᴰ.tail j)
      | inl w ↦ go q w (either g c q w.there) (ℕ_discrete q s)
    ];
  }
    where
      go : (q : ℕ) → Split n q → Either g c q → Dec (q ≡ s) → Split m q ⊎ Memᴰ q (s ∷ ss)
      go q w k (yes e) = inr (Memᴰ.head e)
      go q w (before l) (no d) = inl (record { there = l; split = λ z. w.split (rw (c.rows.old q l d) z) })
      go q w (next x e) (no d) = absurd (w.split (rw (e, born g c x) (row_step x (row_of m s) s v).leaf))
