-- What a call needs (demand 3), on grown meshes, which need not conform: the split elements and the marks are in it, and so is a row that holds both ends of a needed row's edge; nothing of depth 60 is, unless it is marked.
-- Where the marks are split, only needed elements are, and the mesh conforms, exactly the needed elements are split.
use mathlib.Core.Path.{◌≡◌, refl, ap, ◌∙◌}
use mathlib.Core.List.{List, [], ◌∷◌, Memᴰ}
use mathlib.Core.Logic.{◌↔◌, ◌⊎◌, inl, inr}
use Prim.Native.Nat.{ℕ, ◌<◌}
use native.Mathlib.Decide.{ℕ_discrete}
use native.Mathlib.Omega.{arith}
use lib.ListN.{length}
use Rattle.split.specs.declared.row.Row.{Row}
use Rattle.split.specs.Split.{left}
use Rattle.split.specs.Row.{edge_of}
use Rattle.tables.specs.Mesh.{Mesh}
use Rattle.forest.specs.Element.{Element, depth}
use Rattle.forest.specs.Closed.{Closed, marked}
use Rattle.forest.specs.Union.{Either}
use Rattle.forest.specs.Shallow.{Shallow}
use Rattle.forest.proofs.Forced.{present_in, forced_least}
use Rattle.forest.proofs.Theory.{forced_shallow}
use Rattle.sound.specs.Sound.{rows, row_of, Grown, Conforming}
use Rattle.sound.specs.Forest.{forest_of, colour_in, largest_in, element_of, SplitOf}
use Rattle.sound.proofs.laws.Afresh.{coloured}
use Rattle.sound.proofs.laws.Elements.{grown_depth}
use Rattle.sound.proofs.laws.Offspring.{place_below, place_element}
use Rattle.sound.proofs.laws.Placed.{placed}
use Rattle.sound.proofs.laws.Splits.{row_present, splits_closed}
use Rattle.run.specs.Skeleton.{Skeleton, skeleton, row_in}
use Rattle.run.specs.Ready.{Open}
use Rattle.run.specs.Demand.{MarkedIn, Needed, Deep, MarkedDeep}
use Rattle.run.proofs.laws.Edge.{Both, holds_edge}
use Rattle.run.proofs.laws.Grows.{Grows}

-- the split elements all lie in Z
abbrev pub Inside : Mesh → ℕ → (Element → Type 0) → Type 0
Inside m t Z = (e : Element) → SplitOf m t e → Z e

-- a row that holds both ends of a forced row's edge is forced
pub held_forced : {m : Mesh} {i t : ℕ} (Z : Element → Type 0) → Grown m i t → Closed (forest_of m t) Z → Inside m t Z → (q r : ℕ) → q < rows m → r < rows m → Both (row_of m q) (edge_of (row_of m r)) → Z (element_of m t r) → Z (element_of m t q)
held_forced {m} {i} {t} Z g c d q r hq hr both z = c.edges (element_of m t q) (element_of m t r) (present_in (forest_of m t) (SplitOf m t) Z d (element_of m t q) (row_present g q hq)) z (holds_edge g q r hq hr both)

-- ---- what a call needs holds the splits and the marks

pub needed_split : (m : Mesh) (t : ℕ) (rs : List ℕ) (e : Element) → SplitOf m t e → Needed m t rs e
needed_split m t rs e s = marked (inl s)

pub needed_mark : (m : Mesh) (t : ℕ) (rs : List ℕ) (r : ℕ) → Memᴰ r rs → Needed m t rs (element_of m t r)
needed_mark m t rs r k = marked (inr (record { row = r; listed = k; is = refl }))

-- what is split stays so
pub split_later : {m m' : Mesh} {i t : ℕ} → Grows m m' i t → (e : Element) → SplitOf m t e → SplitOf m' t e
split_later g e s = record {
  row = s.row;
  there = omega (arith, s.there, g.more_rows);
  split = rw (g.split s.row s.there s.split) s.split;
  is = g.element s.row s.there ∙ s.is;
}

-- ---- marks

-- a row that may be marked: if it is a leaf, it may be split
pub record Markable (S : Skeleton) (r : ℕ) : Type 0 where
  pub there : r < length S.rows
  pub shallow : (row_in S.rows r).child ≡ 0 → (row_in S.rows r).depth < 60

abbrev pub AllMarkable : Skeleton → List ℕ → Type 0
AllMarkable S rs = (r : ℕ) → Memᴰ r rs → Markable S r

pub markable_open : {S : Skeleton} {r : ℕ} → (row_in S.rows r).child ≡ 0 → Markable S r → Open S r
markable_open l k = record { there = k.there; leaf = l; shallow = k.shallow l }

-- a row that may be marked may be so later
pub markable_later : {m m' : Mesh} {i t r : ℕ} → Grows m m' i t → Markable (skeleton m) r → Markable (skeleton m') r
markable_later {m} {m'} {r = r} g k = record {
  there = omega (arith, g.more_rows, k.there);
  shallow = λ l. elim (ℕ_discrete (row_of m r).child 0) [
    | yes e ↦ rw (ap (λ (x : Row). x.depth) (g.row r k.there)) (k.shallow e)
    | no d ↦ absurd (d (rw (g.split r k.there d) at l))
  ];
}

-- ---- exactly what is needed is split (demand 3)

module _ {m n : Mesh} {i t : ℕ} {rs : List ℕ} (g : Grown n i t) (f : Conforming n i) (w : Grows m n i t) (marks : (r : ℕ) → Memᴰ r rs → r < rows m) (split : (r : ℕ) → Memᴰ r rs → (row_of n r).child ≡ 0 → ⊥) where
  splits_hold : (e : Element) → Either (SplitOf m t) (MarkedIn m t rs) e → SplitOf n t e
  splits_hold e (inl s) = split_later w e s
  splits_hold e (inr j) = let h = marks j.row j.listed in record { row = j.row; there = omega (arith, h, w.more_rows); split = split j.row j.listed; is = w.element j.row h ∙ j.is }

  pub needed_exactly : Inside n t (Needed m t rs) → (e : Element) → SplitOf n t e ↔ Needed m t rs e
  needed_exactly d e = (d e, forced_least (rw w.forest at (splits_closed g f)) splits_hold e)

-- ---- depth

module _ {m : Mesh} {i t : ℕ} (g : Grown m i t) where
  -- a split row's children are no deeper than 60
  pub split_shallow : (r : ℕ) → r < rows m → ((row_of m r).child ≡ 0 → ⊥) → (row_of m r).depth < 60
  split_shallow r h d =
      let c = placed g (row_of m r).child (place_below g r h d left).there in
      omega (arith, (placed g r h).depth, c.depth, c.shallow, ap depth (place_element g r h d left), grown_depth left (element_of m t r))

  shallow_element : (r : ℕ) → r < rows m → (row_of m r).depth < 60 → Shallow (forest_of m t) 20 (element_of m t r)
  shallow_element r h d = let p = placed g r h in record { root = p.root; shallow = omega (arith, p.depth) }

  markable_shallow : (r : ℕ) → Markable (skeleton m) r → (row_of m r).depth < 60
  markable_shallow r o = elim (ℕ_discrete (row_of m r).child 0) [ yes l ↦ o.shallow l | no n ↦ split_shallow r o.there n ]

  module _ {rs : List ℕ} where
    marked_deep : (r : ℕ) → Memᴰ r rs → r < rows m → (row_of m r).depth ≡ 60 → Deep m t rs
    unfolding Deep
    marked_deep r k h d = record { element = element_of m t r; needed = needed_mark m t rs r k; deep = (placed g r h).depth ∙ d }

    -- no mark of depth 60, so nothing of depth 60 is needed (000, Theorem 7(c))
    pub needed_shallow : AllMarkable (skeleton m) rs → (e : Element) → Needed m t rs e → depth e < 60
    needed_shallow k e z = omega (arith, (forced_shallow (forest_of m t) (largest_in m i) (colour_in m i) (coloured g) 20 shallow e z).shallow)
      where
        shallow : (x : Element) → Either (SplitOf m t) (MarkedIn m t rs) x → Shallow (forest_of m t) 20 x
        shallow x (inl s) = rw (← s.is) (shallow_element s.row s.there (split_shallow s.row s.there s.split))
        shallow x (inr j) = let o = k j.row j.listed in rw (← j.is) (shallow_element j.row o.there (markable_shallow j.row o))

    not_deep : AllMarkable (skeleton m) rs → Deep m t rs → ⊥
    unfolding Deep
    not_deep k d = omega (arith, d.deep, needed_shallow k d.element d.needed)

  -- a row that is there is a leaf of depth 60, or may be marked
  deep_or_markable : (r : ℕ) → r < rows m → (((row_of m r).child ≡ 0) × ((row_of m r).depth ≡ 60)) ⊎ Markable (skeleton m) r
  deep_or_markable r h = elim (ℕ_discrete (row_of m r).child 0) [
    | no split ↦ inr (record { there = h; shallow = λ l. absurd (split l) })
    | yes leaf ↦ elim (ℕ_discrete (row_of m r).depth 60) [
      | yes deep ↦ inl (leaf, deep)
      | no less ↦ inr (record { there = h; shallow = λ l. omega (arith, (placed g r h).shallow, less) })
    ]
  ]

  -- so some mark is a leaf of depth 60, or all may be marked
  pub deep_or_all : (rs : List ℕ) → ((r : ℕ) → Memᴰ r rs → r < rows m) → MarkedDeep m rs ⊎ AllMarkable (skeleton m) rs
  deep_or_all [] h = inr (λ r k. elim k [ ])
  deep_or_all (x ∷ rs) h = go (deep_or_markable x (h x (Memᴰ.head refl))) (deep_or_all rs (λ r k. h r (Memᴰ.tail k)))
    where
      go : (((row_of m x).child ≡ 0) × ((row_of m x).depth ≡ 60)) ⊎ Markable (skeleton m) x → MarkedDeep m rs ⊎ AllMarkable (skeleton m) rs → MarkedDeep m (x ∷ rs) ⊎ AllMarkable (skeleton m) (x ∷ rs)
      go (inl d) y = inl (record { row = x; listed = Memᴰ.head refl; there = h x (Memᴰ.head refl); leaf = d.0; deep = d.1 })
      go (inr k) (inl d) = inl (record { row = d.row; listed = Memᴰ.tail d.listed; there = d.there; leaf = d.leaf; deep = d.deep })
      go (inr k) (inr ks) = inr all
        where
          all : AllMarkable (skeleton m) (x ∷ rs)
          all r (Memᴰ.head e) = rw e k
          all r (Memᴰ.tail l) = ks r l

  -- what is needed holds an element of depth 60 exactly if a marked row is a leaf of depth 60: closure alone asks for none (02, L9)
  pub deep_exactly : {rs : List ℕ} → ((r : ℕ) → Memᴰ r rs → r < rows m) → Deep m t rs ↔ MarkedDeep m rs
  deep_exactly {rs} h = (λ d. elim (deep_or_all rs h) [ inl w ↦ w | inr k ↦ absurd (not_deep k d) ], λ w. marked_deep w.row w.listed w.there w.deep)
