-- The element of a row by its parent, and that different rows are different elements.
use mathlib.Core.Path.{◌≡◌, refl, sym, ◌∙◌}
use mathlib.Core.List.{List, [], ◌∷◌}
use mathlib.Core.Logic.{◌⊎◌, inl, inr}
use Prim.Native.Nat.{ℕ, zero, suc, ◌≤◌, ◌<◌}
use native.Mathlib.Omega.{arith}
use borrow.Author.Tests.{lt-ltb, le-ltb, eq-eqb, ne_eqb}
use Rattle.split.specs.Split.{Side, left, right}
use Rattle.split.proofs.laws.Places.{le_or_lt}
use Rattle.tables.specs.Mesh.{Mesh}
use Rattle.forest.specs.Element.{Forest, Element, el, depth, below, shape_at, shape}
use Rattle.forest.specs.Shallow.{root_of}
use Rattle.sound.specs.Sound.{rows, row_of, place, Grown}
use Rattle.sound.specs.Forest.{grown, side_of, element_within, element_of}

-- ---- one side of an element

pub grown_shape : (F : Forest) (s : Side) (e : Element) → shape F (grown s e) ≡ below F.top s (shape F e)
unfolding shape_at
grown_shape F s (el k p) = refl

pub grown_root : (s : Side) (e : Element) → root_of (grown s e) ≡ root_of e
grown_root s (el k p) = refl

pub grown_depth : (s : Side) (e : Element) → depth (grown s e) ≡ suc (depth e)
grown_depth s (el k p) = refl

-- what is below an element is told by it and by the side
pub grown_parent : (s r : Side) (e : Element) (k : ℕ) (p : List Side) → grown s e ≡ el k (r ∷ p) → e ≡ el k p
grown_parent s r (el j q) k p e = cc

pub grown_apart : (s r : Side) (e f : Element) → grown s e ≡ grown r f → (s ≡ r) × (e ≡ f)
grown_apart s r (el k p) (el j q) e = (cc, cc)

pub grown_never : {X : Type 0} (s : Side) (e : Element) (k : ℕ) → grown s e ≡ el k [] → X
grown_never s (el j q) k e = let z : ◌≡◌ {A = ℕ} 0 1 = cc in absurd (omega arith)

side_is : (s : Side) (r c : ℕ) → r ≡ place s c → side_of r c ≡ s
side_is left r c e = rw (eq-eqb r c e)
side_is right r c e = rw (ne_eqb r c (λ f. omega arith))

-- ---- the steps to an element

module _ (m : Mesh) (t : ℕ) where
  within_root : (steps r : ℕ) → r < t → element_within m t steps r ≡ el r []
  unfolding element_within
  within_root zero r h = refl
  within_root (suc steps) r h = rw (element_within, lt-ltb r t h)

  within_child : (steps r : ℕ) → t ≤ r → element_within m t (suc steps) r ≡ grown (side_of r (row_of m (row_of m r).parent).child) (element_within m t steps (row_of m r).parent)
  unfolding element_within
  within_child steps r h = rw (element_within, le-ltb r t h)

  pub root_element : (r : ℕ) → r < t → element_of m t r ≡ el r []
  root_element r = within_root r r

module _ {m : Mesh} {i t : ℕ} (g : Grown m i t) where
  -- no child has number 0, so a search without steps is right
  lowest : (r : ℕ) → r ≤ 0 → r < rows m → r < t
  lowest r h l = elim (le_or_lt t r) [ inl k ↦ absurd (omega (arith, (g.child r k l).older)) | inr k ↦ k ]

  alike : (f h r : ℕ) → r < t → element_within m t f r ≡ element_within m t h r
  alike f h r k = within_root m t f r k ∙ sym (within_root m t h r k)

  -- more steps than the row's number change nothing
  steady : (f h r : ℕ) → r ≤ f → r ≤ h → r < rows m → element_within m t f r ≡ element_within m t h r
  steady zero h r a b l = alike zero h r (lowest r a l)
  steady (suc f) zero r a b l = alike (suc f) zero r (lowest r b l)
  steady (suc f) (suc h) r a b l = elim (le_or_lt t r) [
    | inl k ↦ let o = (g.child r k l).older in
        within_child m t f r k ∙ rw (steady f h (row_of m r).parent (omega arith) (omega arith) (omega arith)) (sym (within_child m t h r k))
    | inr k ↦ alike (suc f) (suc h) r k
  ]

  -- a child's element is on its side of the parent's
  pub child_element : (r : ℕ) (k : t ≤ r) (l : r < rows m) → element_of m t r ≡ grown (g.child r k l).side (element_of m t (row_of m r).parent)
  child_element zero k l = absurd (omega (arith, (g.child 0 k l).older))
  child_element (suc s) k l =
      let c = g.child (suc s) k l in
      let o = c.older in
      within_child m t s (suc s) k
      ∙ rw (side_is c.side (suc s) (row_of m (row_of m (suc s)).parent).child c.here, steady s (row_of m (suc s)).parent (row_of m (suc s)).parent (omega arith) (omega arith) (omega arith))

  -- ---- different rows are different elements

  elements_apart : (n q r : ℕ) → q < n → r < n → q < rows m → r < rows m → element_of m t q ≡ element_of m t r → q ≡ r
  elements_apart zero q r hq hr lq lr e = absurd (omega arith)
  elements_apart (suc n) q r hq hr lq lr e = go (le_or_lt t q) (le_or_lt t r) (elements_apart n)
    where
      mixed : (a b : ℕ) → a < t → t ≤ b → b < rows m → element_of m t b ≡ element_of m t a → ⊥
      mixed a b ha hb lb f = grown_never (g.child b hb lb).side (element_of m t (row_of m b).parent) a (sym (child_element b hb lb) ∙ f ∙ root_element m t a ha)

      go : (t ≤ q) ⊎ (q < t) → (t ≤ r) ⊎ (r < t) → ((a b : ℕ) → a < n → b < n → a < rows m → b < rows m → element_of m t a ≡ element_of m t b → a ≡ b) → q ≡ r
      go (inl kq) (inl kr) earlier =
          let c = g.child q kq lq in
          let d = g.child r kr lr in
          let oc = c.older in
          let od = d.older in
          let (side, parent) = grown_apart c.side d.side (element_of m t (row_of m q).parent) (element_of m t (row_of m r).parent) (sym (child_element q kq lq) ∙ e ∙ child_element r kr lr) in
          let same : (row_of m q).parent ≡ (row_of m r).parent = earlier _ _ (omega arith) (omega arith) (omega arith) (omega arith) parent in
          c.here ∙ rw (side, same) (sym d.here)
      go (inl kq) (inr kr) earlier = absurd (mixed r q kr kq lq e)
      go (inr kq) (inl kr) earlier = absurd (mixed q r kq kr lr (sym e))
      go (inr kq) (inr kr) earlier = cc (root_element m t q kq, root_element m t r kr)

  pub one_row : (q r : ℕ) → q < rows m → r < rows m → element_of m t q ≡ element_of m t r → q ≡ r
  one_row q r lq lr = elements_apart (rows m) q r lq lr lq lr
