-- Marks that have passed their tests, and those that have not.
use Rattle.std.proofs.Common.{None, Ok, Err}
use Rattle.tables.specs.declared.refusal.Refusal.{Refusal}
use Rattle.intake.specs.Verdict.{Verdict}
use mathlib.Core.Path.{◌≡◌, sym, ◌∙◌}
use mathlib.Core.Bool.{true, false, true≢false}
use mathlib.Core.List.{List, [], ◌∷◌, Memᴰ}
use mathlib.Core.Logic.{◌↔◌, inl, inr}
use Prim.Native.Nat.{ℕ, suc, ◌<◌}
use native.Mathlib.Omega.{arith}
use lib.ListN.{length, get_or}
use lib.Ieee.{Float}
use borrow.Author.Tests.{leb-false}
use Rattle.tables.specs.declared.layout.Counts.{Counts}
use Rattle.tables.specs.Layout.{no_row, row_at}
use Rattle.tables.specs.Mesh.{Mesh, mesh_of}
use Rattle.tables.proofs.laws.View.{up_to_at, mesh_row}
use Rattle.intake.specs.Search.{first}
use Rattle.intake.proofs.laws.Search.{first_none, any_has, any_some}
use Rattle.sound.specs.Sound.{rows, Sound}
use Rattle.sound.specs.Check.{lent}
use Rattle.sound.proofs.laws.Laid.{mesh_rows}
use Rattle.run.specs.Demand.{Deep, MarkedDeep}
use Rattle.run.proofs.laws.Needs.{AllMarkable, deep_or_all, deep_exactly}
use Rattle.frame.specs.Marks.{deep_at}
use Rattle.frame.proofs.laws.Marks.{deep_at_lem, deeps}
use Rattle.closure.specs.State.{seen}
use Rattle.closure.specs.Marking.{Fine}
use Rattle.closure.specs.Refine.{absent}
use Rattle.closure.proofs.laws.Cutting.{member_at}

pub refused_never : {X : Type 0} {e : Refusal} → ◌≡◌ {A = Verdict} (Err e) (Ok tt) → X
refused_never q = absurd (cc)

-- ---- marks by their positions

record Place (l : List ℕ) (q : ℕ) : Type 0 where
  index : ℕ
  below : index < length l
  is : get_or l index 0 ≡ q

place_of_lem : (l : List ℕ) (q : ℕ) → Memᴰ q l → Place l q
place_of_lem [] q m = elim m [ ]
place_of_lem (x ∷ l) q (Memᴰ.head e) = record { index = 0; below = omega arith; is = sym e }
place_of_lem (x ∷ l) q (Memᴰ.tail k) = let p = place_of_lem l q k in record { index = suc p.index; below = omega (arith, p.below); is = p.is }

-- ---- marks on sound tables, once 10 is past

module _ {p : List Float} {r w : List ℕ} {c : Counts} (s : Sound (lent p r w) c) (marks : List ℕ) (e : first (absent c.rows marks) (length marks) ≡ None) where
  abbrev m : Mesh
  m = mesh_of (lent p r w) c

  mark_there : (j : ℕ) → j < length marks → get_or marks j 0 < c.rows
  mark_there j h = leb-false c.rows (get_or marks j 0) (first_none (absent c.rows marks) (length marks) e j h)

  -- the marks are rows of the mesh
  pub mark_row : (q : ℕ) → Memᴰ q marks → q < rows m
  mark_row q k = let x = place_of_lem marks q k in rw (mesh_rows (lent p r w) c, ← x.is) (mark_there x.index x.below)

  -- the test of the marks finds a leaf of depth 60 exactly if there is one
  tested : deeps w c.rows marks ≡ true ↔ MarkedDeep m marks
  tested = (find, found)
    where
      find : deeps w c.rows marks ≡ true → MarkedDeep m marks
      find f =
          let (j, h, t) = any_some (λ i. deep_at w (get_or marks i 0)) (length marks) f in
          let (leaf, deep) = (deep_at_lem w (get_or marks j 0)).0 t in
          let is = mesh_row (lent p r w) c (get_or marks j 0) (mark_there j h) in
          record { row = get_or marks j 0; listed = member_at marks j h; there = mark_row _ (member_at marks j h); leaf = rw is leaf; deep = rw is deep }

      found : MarkedDeep m marks → deeps w c.rows marks ≡ true
      found d =
          let x = place_of_lem marks d.row d.listed in
          let is = mesh_row (lent p r w) c d.row (rw (mesh_rows (lent p r w) c) at d.there) in
          any_has (λ i. deep_at w (get_or marks i 0)) (length marks) x.index x.below (rw x.is ((deep_at_lem w d.row).1 (rw is at d.leaf, rw is at d.deep)))

  -- what is needed holds an element of depth 60 exactly then (02, L9)
  pub deep_by_marks : Deep m s.roots marks ↔ MarkedDeep m marks
  deep_by_marks = deep_exactly s.grown mark_row

  pub marks_deep : deeps w c.rows marks ≡ true → Deep m s.roots marks
  marks_deep f = deep_by_marks.1 (tested.0 f)

  pub marks_shallow : deeps w c.rows marks ≡ false → Deep m s.roots marks → ⊥
  marks_shallow f d = true≢false (sym (tested.1 (deep_by_marks.0 d)) ∙ f)

  pub marks_markable : deeps w c.rows marks ≡ false → AllMarkable (seen r w c) marks
  unfolding mesh_of
  marks_markable f = elim (deep_or_all s.grown marks mark_row) [ inl d ↦ absurd (true≢false (sym (tested.1 d) ∙ f)) | inr k ↦ k ]

  pub mark_fine : deeps w c.rows marks ≡ false → (j : ℕ) → j < length marks → Fine w c.rows (get_or marks j 0)
  mark_fine f j h = record { there = mark_there j h; shallow = rw (up_to_at (row_at w) c.rows (get_or marks j 0) no_row (mark_there j h)) at (marks_markable f _ (member_at marks j h)).shallow }
