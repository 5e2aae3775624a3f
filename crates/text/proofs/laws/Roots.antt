-- The root on an L line is the root of the leaf's element: a row's depth is how many steps to parents lead there, and no depth is above 60.
use mathlib.Core.Path.{◌≡◌, ◌∙◌}
use mathlib.Core.List.{List, ◌++◌, map}
use Prim.Native.Nat.{ℕ, ◌/◌, ◌<◌}
use native.Mathlib.Omega.{arith}
use lib.ListN.{length, get_or}
use Rattle.tables.specs.declared.layout.Counts.{Counts}
use Rattle.tables.specs.Layout.{row_at}
use Rattle.tables.specs.Mesh.{Lent, mesh_of}
use Rattle.tables.specs.Report.{done}
use Rattle.std.specs.Prelude.{Ok}
use Rattle.sound.specs.Sound.{Sound}
use Rattle.sound.proofs.laws.Placed.{placed}
use Rattle.closure.specs.Refine.{Refines, refined_to}
use Rattle.closure.proofs.laws.Accepted.{accepted_sound}
use Rattle.closure.proofs.laws.Cutting.{member_at}
use Rattle.closure.proofs.laws.Taken.{sound_rows}
use Rattle.leaves.specs.Listing.{level_in, listing}
use Rattle.leaves.proofs.laws.Levels.{map_at}
use Rattle.leaves.proofs.laws.Sound.{sound_listing}
use Rattle.text.specs.Output.{leaf_line, p_lines, l_lines, root_of}
use Rattle.text.specs.Input.{Input}
use Rattle.text.specs.Program.{headline, leaf_lines, rooted_line, rooted_lines, refined_text, Refining, opens, opened_tables}
use Rattle.text.proofs.laws.Mesh.{texts_same}
use Rattle.text.proofs.laws.Never.{opens_unsplit, opens_rows}
use Rattle.text.proofs.laws.Reached.{parent_is}
pub use Rattle.text.proofs.laws.Reached.{element, root_printed}

module _ {t : Lent} {c : Counts} (s : Sound t c) where
  -- it is a root row: its own parent
  pub root_below : (k : ℕ) → k < c.rows → root_of t.rows k < s.roots
  root_below k h = rw (root_printed s k h) (placed s.grown k (rw (sound_rows s) h)).root

  pub root_parent : (k : ℕ) → k < c.rows → (row_at t.rows (root_of t.rows k)).parent ≡ root_of t.rows k
  root_parent k h =
      let b = root_below k h in
      rw (← parent_is s (root_of t.rows k) (omega (arith, b, s.grown.parted.rows_in, sound_rows s))) (s.grown.parted.roots (root_of t.rows k) b)

  -- ---- the L lines

  -- the j-th listed leaf
  abbrev leaf : ℕ → ℕ
  leaf j = get_or (listing (mesh_of t c).rows) j 0

  leaf_below : (j : ℕ) → j < length (listing (mesh_of t c).rows) → leaf j < c.rows
  leaf_below j h = omega (arith, sound_rows s, (((sound_listing s).are (leaf j)).0 (member_at (listing (mesh_of t c).rows) j h)).0)

  pub leaves_rooted : leaf_lines t c ≡ rooted_lines t c s.roots
  unfolding leaf_lines l_lines rooted_lines
  leaves_rooted =
      let W = (mesh_of t c).rows in
      texts_same (leaf_line t.rows (listing W) (map (level_in W) (listing W))) (λ j. rooted_line t c s.roots (leaf j)) (length (listing W))
      (λ j h. rw (root_printed s (leaf j) (leaf_below j h), map_at (level_in W) (listing W) j h))

-- what the program prints of an accepted call: its roots are the rows that opening made, one for each T line
pub printed_rooted : (i : Input) {c d : Counts} {n : ℕ} {t' : Lent} → opens i ≡ Ok c → Refines (opened_tables i) c i.marks (refined_to d n) t' → leaf_lines t' d ≡ rooted_lines t' d (length i.elements / 4)
printed_rooted i {c} {d} {n} {t'} o x =
    let u = opens_unsplit i o in
    let w = accepted_sound u.sound x in
    let roots : w.sound.roots ≡ length i.elements / 4 = w.roots ∙ u.roots_are ∙ opens_rows i o in
    rw (← roots) (leaves_rooted w.sound)

-- the same of the whole text that the program writes
pub refining_rooted : (i : Input) {c d : Counts} {n : ℕ} {text : List ℕ} → opens i ≡ Ok c → (x : Refining (opened_tables i) c i.marks text) → x.answer ≡ refined_to d n
    → text ≡ headline (done d n) ++ p_lines x.after.points x.after.records c.vertices d.vertices ++ rooted_lines x.after d (length i.elements / 4)
unfolding refined_text
refining_rooted i o x e = x.prints ∙ rw (e, ← printed_rooted i o (rw e at x.refines))
