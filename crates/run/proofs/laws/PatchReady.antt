-- After the split of a patch that no leaf blocks the mesh is ready for the next.
use Rattle.std.proofs.Common.{None}
use mathlib.Core.Path.{◌≡◌, refl, ap, ◌∙◌}
use mathlib.Core.List.{List, [], ◌∷◌, ◌++◌}
use mathlib.Core.Logic.{◌⊎◌, inl, inr}
use Prim.Native.Nat.{ℕ, ◌+◌, ◌≤◌, ◌<◌}
use native.Mathlib.Omega.{arith}
use lib.ListN.{length, get_or, length-append, get_or-append}
use Rattle.split.specs.declared.row.Ends.{Ends}
use Rattle.split.specs.declared.point.Point.{Point}
use Rattle.split.specs.Split.{Holds}
use Rattle.split.specs.Row.{corners_of}
use Rattle.split.proofs.laws.Places.{le_or_lt}
use Rattle.tables.specs.Layout.{no_record}
use Rattle.tables.specs.Mesh.{Mesh}
use Rattle.sound.specs.Sound.{vertices, record_of, row_of, Conforming}
use Rattle.run.specs.Skeleton.{Skeleton, row_in}
use Rattle.run.specs.Ready.{Ready}
use Rattle.run.specs.Run.{blocking, record_for, split_patch}
use Rattle.run.proofs.laws.Listed.{append_first}
use Rattle.run.proofs.laws.Patched.{Remains, Born}
use Rattle.run.proofs.laws.Patch.{m, n, e, hs, patched_wide, patch_is, patch_patched, patch_records, old_apart, new_apart}

module _ {P : List Point} {i t : ℕ} {S : Skeleton} (y : Ready P i t S) (few : length S.records + 1 < 4294967295) (r : ℕ) (there : r < length S.rows) (leaf : (row_in S.rows r).child ≡ 0) (shallow : (row_in S.rows r).depth < 60) (clear : blocking S.rows r ≡ None) where
  abbrev M : Mesh
  M = m y few

  abbrev N : Mesh
  N = n y few r there leaf shallow clear

  abbrev E : Ends
  E = e y few r there leaf shallow clear

  abbrev H : List ℕ
  H = hs y few r there leaf shallow clear

  wide_conforming : Conforming N i
  wide_conforming = record { leaf = λ q v h l k j a b. go q v ((patched_wide y few r there leaf shallow clear).leaves q h l) k j a b (le_or_lt (length S.records) v) }
    where
      go : (q v : ℕ) → Remains M H q ⊎ Born M N (length S.records) H q → i ≤ v → v < vertices N → Holds 3 (corners_of (row_of N q)) (record_of N v).first → Holds 3 (corners_of (row_of N q)) (record_of N v).second
          → (length S.records ≤ v) ⊎ (v < length S.records) → ⊥
      go q v w k j a b (inr l) = let same = get_or-append S.records (record_for E ∷ []) no_record v l in old_apart y few r there leaf shallow clear q v k l w (rw same at a) (rw same at b)
      go q v w k j a b (inl l) =
          let last : v ≡ length S.records = omega (arith, length-append S.records (record_for E ∷ []), j) in
          let same = ap (λ (u : ℕ). get_or (S.records ++ (record_for E ∷ [])) u no_record) last ∙ append_first S.records (length S.records) (record_for E) no_record [] refl in
          new_apart y few r there leaf shallow clear q w (rw same at a) (rw same at b)

  pub patch_ready : Ready P i t (split_patch S r)
  patch_ready = record {
    based = rw (patch_records y few r there leaf shallow clear) (omega (arith, y.based, length-append S.records (record_for E ∷ [])));
    grown = (patch_patched y few r there leaf shallow clear).grown;
    conforming = rw (patch_is y few r there leaf shallow clear) wide_conforming;
  }
