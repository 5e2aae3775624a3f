-- Elements whose numbers were reordered pass where they passed before, and open to the same colours and rows.
use Rattle.std.proofs.Common.{None}
use mathlib.Core.Path.{◌≡◌, sym, ap, ◌∙◌, subst}
use mathlib.Core.Bool.{Bool, true}
use mathlib.Core.List.{List}
use Prim.Native.Nat.{ℕ, ◌/◌, ◌<◌}
use lib.Dec.{ltb}
use lib.ListN.{length, get_or}
use lib.Ieee.{Float}
use Rattle.split.proofs.laws.Places.{Against, less, equal, more, against}
use Rattle.split.specs.declared.row.Row.{Row}
use Rattle.tables.specs.Layout.{no_row}
use Rattle.intake.specs.Cells.{Cells}
use Rattle.tables.specs.Mesh.{up_to}
use Rattle.intake.specs.Search.{first}
use Rattle.intake.specs.Causes.{vertex, missing, double, same, third}
use Rattle.opening.specs.Colours.{colours, garish, largest}
use Rattle.opening.specs.Order.{root_of}
use Rattle.opening.specs.Opening.{opened_mesh}
use Rattle.intake.proofs.laws.Search.{first_none}
use Rattle.opening.proofs.laws.Proper.{colours_proper}
use Rattle.sound.proofs.laws.Searches.{refuted, first_nowhere}
use Rattle.sound.proofs.laws.Flat.{up_to_same}
use Rattle.sound.proofs.laws.Tested.{Tested, Named, tested_named}
use Rattle.sound.proofs.laws.Reordered.{Reordered, Single, single_passes, missing_reordered, same_reordered, third_reordered, colours_reordered, colour_reordered}
use Rattle.sound.proofs.laws.Ordered.{Proper, root_reordered}

-- the colours of n vertices, as a row's vertices are sorted by them
abbrev pub shade : Cells → ℕ → ℕ → ℕ
shade E n v = get_or (colours E n) v 0

-- the row of element k among n vertices
abbrev pub root_among : ℕ → Cells → ℕ → Row
root_among n E = root_of (largest (colours E n)) (shade E n) E

pub named_proper : {n : ℕ} {E : Cells} → Named n E → Proper (shade E n) E
named_proper {n} {E} x = record { differ = λ k p q h l m e. go k p q h l m e (against (vertex E k p) (vertex E k q)) }
  where
    go : (k p q : ℕ) → k < E.count → p < 4 → q < 4 → shade E n (vertex E k p) ≡ shade E n (vertex E k q) → Against (vertex E k p) (vertex E k q) → p ≡ q
    go k p q h l m e (less b) = absurd (colours_proper E n k p q h l m b (x.there k q h m) e)
    go k p q h l m e (equal s) = x.apart k p q h l m s
    go k p q h l m e (more b) = absurd (colours_proper E n k q p h m l b (x.there k p h l) (sym e))

named_single : {n : ℕ} {E : Cells} → Named n E → Single E
named_single x = record { apart = x.apart }

module _ {F : List Float} {E : Cells} (t : Tested F E) {E' : Cells} (r : Reordered E E') where
  -- a test that follows from the same test of E
  clear : (test test' : ℕ → Bool) → ((k : ℕ) → k < E.count → test' k ≡ true → test k ≡ true) → first test E.count ≡ None → first test' E'.count ≡ None
  clear test test' f e = subst (λ n. first test' n ≡ None) r.long (first_nowhere test' E.count (λ k h. refuted (test' k) (test k) (f k h) (first_none test E.count e k h)))

  pub tested_reordered : Single E' → Tested F E'
  tested_reordered s = record {
    usable = t.usable;
    there = clear (missing (length F / 3) E) (missing (length F / 3) E') (missing_reordered r (length F / 3)) t.there;
    single = first_nowhere (double E') E'.count (single_passes s);
    other = clear (same E) (same E') (same_reordered r) t.other;
    faces = clear (third E) (third E') (third_reordered r (named_single (tested_named t))) t.faces;
    colours = first_nowhere (garish E') (length F / 3) (λ v h. ap (ltb 63) (sym (colour_reordered r v)) ∙ first_none (garish E) (length F / 3) t.colours v h);
  }

  pub records_reordered : (opened_mesh F E').records ≡ (opened_mesh F E).records
  unfolding opened_mesh
  records_reordered = rw (colours_reordered r (length F / 3))

  pub rows_reordered : Proper (shade E (length F / 3)) E' → (opened_mesh F E').rows ≡ (opened_mesh F E).rows
  unfolding opened_mesh
  rows_reordered p =
      rw (← colours_reordered r (length F / 3))
      (ap (up_to (root_of (largest (colours E (length F / 3))) (shade E (length F / 3)) E')) (sym r.long)
      ∙ up_to_same (root_among (length F / 3) E) E.count no_row _ (λ k h. sym (root_reordered r (named_proper (tested_named t)) p (largest (colours E (length F / 3))) k h)))
