-- The depth of a reached row is the number of its element's sides, and 11 is given exactly when a kept row has depth 60 (02, L13: "then 11").
use mathlib.Core.Path.{◌≡◌, sym, ap, ◌∙◌}
use mathlib.Core.List.{List, [], ◌∷◌}
use mathlib.Core.Logic.{inl, inr}
use Prim.Native.Nat.{ℕ, zero, suc, ◌+◌, ◌-◌, ◌≤◌, ◌<◌}
use native.Mathlib.Omega.{arith}
use Rattle.split.specs.declared.row.Row.{Row}
use Rattle.split.specs.Split.{Side}
use Rattle.split.proofs.laws.Places.{le_or_lt}
use Rattle.split.proofs.laws.Rows.{row_step, deeper_is}
use Rattle.tables.specs.Mesh.{Mesh}
use Rattle.forest.specs.Element.{Element, el, depth}
use Rattle.forest.specs.Shallow.{root_of, Shallow}
use Rattle.forest.specs.Closed.{marked}
use Rattle.forest.proofs.Theory.{forced_shallow}
use Rattle.sound.specs.Sound.{row_of, place}
use Rattle.sound.specs.Forest.{forest_of, colour_in, largest_in, grown}
use Rattle.sound.proofs.laws.Afresh.{root_depth, coloured}
use Rattle.sound.proofs.laws.Elements.{grown_root, grown_depth}
use Rattle.run.specs.Skeleton.{meshed}
use Rattle.run.specs.Demand.{DeepIn}
use Rattle.salvage_theory.specs.Kept.{Intact, Follows, Reached, root, child, Kept, KeptIn}
use Rattle.salvage_theory.specs.Rebuild.{Salvaged, opened, initials, KeptDeep}
use Rattle.salvage_theory.proofs.laws.Names.{child_placed, kept_parent}
use Rattle.salvage_theory.proofs.laws.Opened.{opened_row, opened_grown, opened_forest}

-- row r has the depth of element e, which hangs on a root, and no row is deeper than its number
pub record Sized (m : Mesh) (t r : ℕ) (e : Element) : Type 0 where
  pub deep : (row_of m r).depth ≡ depth e
  pub low : depth e ≤ r
  pub root : root_of e < t

module _ {m : Mesh} {i t : ℕ} (n : Intact m i t) where
  root_sized : {r : ℕ} {e : Element} → r < t → e ≡ el r [] → Sized m t r e
  root_sized {r} {e} l q = record { deep = sym (ap (λ (x : Row). x.depth) (opened_row n r l)) ∙ root_depth (opened_grown n) r l ∙ rw q; low = rw q (omega arith); root = rw q l }

  child_sized : {p r : ℕ} {d e : Element} (s : Side) → Follows m p → r ≡ place s (row_of m p).child → e ≡ grown s d → Sized m t p d → Sized m t r e
  child_sized {p} {r} {d} {e} s f h q w =
      let c = child_placed f s in
      let deep = ap (λ (x : Row). x.depth) (f.table.is s) ∙ (row_step s (row_of m p) p f.vertex).depth in
      let few = n.rows_few in
      rw (h, q) (record {
        deep = omega (arith, deep, deeper_is (row_of m p).depth (omega (arith, w, c)), w, grown_depth s d);
        low = omega (arith, w, c, grown_depth s d);
        root = rw (grown_root s d) w.root;
      })

  -- the depth of a reached row is the number of its element's sides
  pub reached_sized : {r : ℕ} {e : Element} → Reached m t r e → Sized m t r e
  reached_sized (root l q) = root_sized l q
  reached_sized (child s w f h q) = child_sized s f h q (reached_sized w)

  -- ---- 11

  -- an ancestor of a kept row is kept, so there is one of depth 60 above every deeper one
  above : (x : ℕ) (k : ℕ) (p : List Side) (r : ℕ) → Kept m t r (el k p) → depth (el k p) ≡ 60 + x → KeptDeep m t
  above zero k p r w e = record { row = r; element = el k p; kept = w; deep = (reached_sized w.reached).deep ∙ e }
  above (suc x) k [] r w e = absurd (omega arith)
  above (suc x) k (s ∷ p) r w e = let (q, (v, l)) = kept_parent w.reached in above x k p q v (omega arith)

  -- without a kept row of depth 60 no kept row is as deep
  pub kept_shallow : (KeptDeep m t → ⊥) → {r : ℕ} {e : Element} → Kept m t r e → depth e < 60
  kept_shallow never {r} {e} w = go e w
    where
      go : (e : Element) → Kept m t r e → depth e < 60
      go (el k p) v = elim (le_or_lt 60 (depth (el k p))) [ inr h ↦ h | inl h ↦ absurd (never (above (depth (el k p) - 60) k p r v (omega arith))) ]

  -- a kept row of depth 60 is an element of depth 60 that the kept ones force
  pub kept_deep : KeptDeep m t → DeepIn (Salvaged m t)
  kept_deep w = record { element = w.element; needed = marked (record { row = w.row; kept = w.kept }); deep = sym (reached_sized w.kept.reached).deep ∙ w.deep }

  -- and without one they force none (000, Theorem 7(c))
  pub kept_not_deep : (KeptDeep m t → ⊥) → DeepIn (Salvaged m t) → ⊥
  kept_not_deep never w =
      let base = meshed (initials m i) (opened m i t) in
      omega (arith, w.deep, (forced_shallow (forest_of m t) (largest_in base i) (colour_in base i) (rw (opened_forest n) at (coloured (opened_grown n))) 20 shallow w.element w.needed).shallow)
    where
      shallow : (e : Element) → KeptIn m t e → Shallow (forest_of m t) 20 e
      shallow e k = record { root = (reached_sized k.kept.reached).root; shallow = kept_shallow never k.kept }
