-- Of sound tables every row is reached, "sound tables list none and split the same elements" (02, L13).
use mathlib.Core.Path.{◌≡◌, refl, subst}
use mathlib.Core.List.{[]}
use mathlib.Core.Logic.Iff
use mathlib.Core.Logic.{◌↔◌, inl, inr}
use Prim.Native.Nat.{ℕ, zero, suc, ◌≤◌, ◌<◌}
use native.Mathlib.Omega.{arith}
use lib.ListN.{length}
use Rattle.tables.specs.Layout.{most_rows, most_vertices}
use Rattle.split.specs.Split.{left}
use Rattle.split.proofs.laws.Places.{le_or_lt}
use Rattle.tables.specs.Mesh.{Mesh}
use Rattle.forest.specs.Element.{Element}
use Rattle.forest.specs.Closed.{marked}
use Rattle.forest.proofs.Forced.{forced_least}
use Rattle.sound.specs.Sound.{vertices, rows, row_of, Grown, Conforming}
use Rattle.sound.specs.Follows.{split_vertex}
use Rattle.sound.specs.Forest.{element_of, SplitOf}
use Rattle.sound.proofs.laws.Elements.{root_element, child_element}
use Rattle.sound.proofs.laws.Halves.{half}
use Rattle.sound.proofs.laws.Splits.{splits_closed}
use Rattle.run.specs.Skeleton.{Skeleton}
use Rattle.run.proofs.laws.Needs.{split_shallow}
use Rattle.salvage_theory.specs.Kept.{Intact, Follows, Reached, root, child, KeptIn, Listed, ListedBelow, none, passed}
use Rattle.salvage_theory.specs.Rebuild.{Salvaged, mesh_from, Rebuilt, KeptDeep}
use Rattle.salvage_theory.proofs.laws.Names.{kept_there, one_element}
use Rattle.salvage_theory.proofs.laws.Rebuilt.{rebuilt_forced}
use Rattle.salvage_theory.proofs.laws.Unique.{listed_lost}

-- a row that follows the split table has children
follows_split : {m : Mesh} {r : ℕ} → Follows m r → (row_of m r).child ≡ 0 → ⊥
follows_split f e = omega (arith, f.table.later)

module _ {m : Mesh} {i t : ℕ} (g : Grown m i t) where
  -- the leading vertices and roots of sound tables are intact
  pub grown_intact : vertices m ≤ most_vertices → rows m ≤ most_rows → Intact m i t
  grown_intact v r = record {
    vertices_few = v;
    rows_few = r;
    vertices_in = g.parted.vertices_in;
    rows_in = g.parted.rows_in;
    initial = g.parted.initial;
    vertices_end = g.parted.midpoints i (omega arith);
    roots = g.parted.roots;
    rows_end = g.parted.children t (omega arith);
    afresh = g.afresh;
  }

  -- every split row follows the split table
  pub split_follows : (q : ℕ) → q < rows m → ((row_of m q).child ≡ 0 → ⊥) → Follows m q
  split_follows q l split =
      let p = g.parent q l split in
      let a = (half g q l split left).records in
      record { vertex = split_vertex m q; table = record { later = p.later; both = p.both; there = a.there; ends = a.ends; is = λ s. (half g q l split s).is } }

  reached_upto : (x r : ℕ) → r < x → r < rows m → Reached m t r (element_of m t r)
  reached_upto zero r h l = absurd (omega arith)
  reached_upto (suc x) r h l = elim (le_or_lt t r) [
    | inl k ↦ let w = g.child r k l in
        let o = w.older in
        child w.side (reached_upto x (row_of m r).parent (omega arith) (omega arith)) (split_follows (row_of m r).parent (omega arith) w.split) w.here (child_element g r k l)
    | inr k ↦ root k (root_element m t r k)
  ]

  -- every row is reached, and its element is its own
  pub grown_reached : (r : ℕ) → r < rows m → Reached m t r (element_of m t r)
  grown_reached r l = reached_upto (rows m) r l l

  -- no row is listed
  pub grown_unlisted : (r : ℕ) → Listed m t r → ⊥
  grown_unlisted r l = listed_lost l (grown_reached r l.there)

  pub grown_list : (x : ℕ) → ListedBelow m t x []
  grown_list zero = none refl
  grown_list (suc x) = passed (grown_list x) (grown_unlisted x)

  -- the split rows are those kept
  pub split_kept : (e : Element) → SplitOf m t e → KeptIn m t e
  split_kept e s = record { row = s.row; kept = record { reached = subst (Reached m t s.row) s.is (grown_reached s.row s.there); follows = split_follows s.row s.there s.split } }

  -- no kept row has depth 60
  pub grown_shallow : KeptDeep m t → ⊥
  grown_shallow w = omega (arith, w.deep, split_shallow g w.row (kept_there w.kept) (follows_split w.kept.follows))

  module _ (n : Intact m i t) where
    pub kept_split : (e : Element) → KeptIn m t e → SplitOf m t e
    kept_split e k = let l = kept_there k.kept in
        record { row = k.row; there = l; split = follows_split k.kept.follows; is = one_element n (grown_reached k.row l) k.kept.reached }

    module _ (f : Conforming m i) where
      -- what they force is what is split
      pub sound_salvaged : (e : Element) → Salvaged m t e ↔ SplitOf m t e
      sound_salvaged e = (forced_least (splits_closed g f) kept_split e, λ s. marked (split_kept e s))

      -- "sound tables .. split the same elements" (02, L13)
      pub sound_same : {T : Skeleton} → Rebuilt m i t (rows m) T → length T.records < 4294967295 → (e : Element) → SplitOf (mesh_from m i T) t e ↔ SplitOf m t e
      sound_same p few e = Iff.trans (rebuilt_forced n grown_shallow p few e) (sound_salvaged e)
