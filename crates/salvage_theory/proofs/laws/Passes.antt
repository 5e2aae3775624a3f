-- The two passes over the old rows: a flag or a place tells whether a row is reached when its turn comes, and a place is where its element is found.
use mathlib.Core.Path.{◌≡◌, refl, sym, ap, subst, ◌∙◌}
use mathlib.Core.Bool.{Bool, true, false}
use mathlib.Core.List.Memᴰ
use mathlib.Core.List.{List, [], ◌∷◌, ◌++◌}
use mathlib.Core.Logic.{◌⊎◌, inl, inr}
use Prim.Native.Nat.{ℕ, zero, suc, ◌+◌, ◌≤◌, ◌<◌}
use native.Mathlib.Numerals.{add-one}
use native.Mathlib.Decide.{ℕ_discrete}
use native.Mathlib.Omega.{arith}
use lib.ListN.{length}
use Rattle.split.specs.Split.{Side, left, right}
use Rattle.split.proofs.laws.Places.{le_or_lt}
use Rattle.tables.specs.Mesh.{Mesh}
use Rattle.forest.specs.Element.{Element, el}
use Rattle.sound.specs.Sound.{rows, row_of, place, Grown}
use Rattle.sound.specs.Follows.{split_vertex}
use Rattle.sound.specs.Forest.{grown, element_of}
use Rattle.sound.proofs.laws.Elements.{root_element, one_row}
use Rattle.sound.proofs.laws.Offspring.{place_below, place_element}
use Rattle.sound.proofs.laws.Halves.{split_is}
use Rattle.sound.proofs.laws.Splits.{row_present}
use Rattle.run.specs.Skeleton.{Skeleton, row_in}
use Rattle.run.specs.Run.{RunAll}
use Rattle.salvage_theory.specs.Kept.{Intact, FollowsAt, Follows, Reached, root, child, Kept, Listed, ListedBelow, passed, listed}
use Rattle.salvage_theory.specs.Rebuild.{opened, mesh_from, find, Rebuilt, passed as left_alone, refined, KeptDeep}
use Rattle.salvage_theory.specs.Passes.{Flagging, Moved, Placing}
use Rattle.salvage_theory.proofs.laws.Names.{Reaching, top, under, reaching, one_element}
use Rattle.salvage_theory.proofs.laws.Opened.{opened_rows}
use Rattle.salvage_theory.proofs.laws.Find.{Found, found}
use Rattle.salvage_theory.proofs.laws.Rebuilt.{Built, kept_finished}
use Rattle.salvage_theory.proofs.laws.Unique.{listed_lost, lost_listed}

-- a row follows the split table exactly if it does so with the vertex that is read off its first child
pub follows_at : {m : Mesh} {r : ℕ} → Follows m r → FollowsAt m r (split_vertex m r)
follows_at {m} {r} f = subst (FollowsAt m r) (sym (split_is m r f.vertex (f.table.is left))) f.table

pub at_follows : {m : Mesh} {r v : ℕ} → FollowsAt m r v → Follows m r
at_follows {v = v} f = record { vertex = v; table = f }

-- ---- flags

module _ {m : Mesh} {t x : ℕ} {flag : ℕ → Bool} (w : Flagging m t x flag) where
  -- a row without a flag when its turn comes is not reached
  pub flag_none : {e : Element} → flag x ≡ false → Reached m t x e → ⊥
  flag_none {e} h k = go (reaching k)
    where
      go : Reaching m t x e → ⊥
      go (top l q) = let z = w.roots x l in let y : true ≡ false = sym z ∙ h in let z : ◌≡◌ {A = ℕ} 0 1 = cc in omega arith
      go (under u) = let z = rw (← u.here) at (w.children u.up u.element u.side u.placed.later u.kept) in let y : true ≡ false = sym z ∙ h in let z : ◌≡◌ {A = ℕ} 0 1 = cc in omega arith

  -- a row that is not kept leaves the flags
  pub flag_passed : ((e : Element) → Kept m t x e → ⊥) → Flagging m t (x + 1) flag
  flag_passed none = record {
    only = w.only;
    roots = w.roots;
    children = λ p e s h k. elim (le_or_lt x p) [ inr l ↦ w.children p e s l k | inl l ↦ let same : p ≡ x = omega arith in absurd (none e (rw same at k)) ];
  }

  -- a kept row flags its two children
  pub flag_kept : {after : ℕ → Bool} {e : Element} → Kept m t x e → ((r : ℕ) → flag r ≡ true → after r ≡ true) → ((s : Side) → after (place s (row_of m x).child) ≡ true)
      → ((r : ℕ) → after r ≡ true → (flag r ≡ true) ⊎ ((s : Side) × (r ≡ place s (row_of m x).child))) → Flagging m t (x + 1) after
  flag_kept {after} {e} k more new old = record {
    only = λ r h. elim (old r h) [ inl f ↦ w.only r f | inr (s, q) ↦ record { element = grown s e; reached = child s k.reached k.follows q refl } ];
    roots = λ r h. more r (w.roots r h);
    children = λ p a s h j. elim (le_or_lt x p) [ inr l ↦ more _ (w.children p a s l j) | inl l ↦ let same : p ≡ x = omega arith in rw same (new s) ];
  }

pub flag_start : {m : Mesh} {t : ℕ} {flag : ℕ → Bool} → ((r : ℕ) → flag r ≡ true → r < t) → ((r : ℕ) → r < t → flag r ≡ true) → Flagging m t 0 flag
flag_start only all = record { only = λ r h. record { element = el r []; reached = root (only r h) refl }; roots = all; children = λ p e s h k. absurd (omega arith) }

-- ---- places

-- row q is one of the two at c, or another
data Which (q c : ℕ) : Type 0 where
  is_child_of : (s : Side) → q ≡ place s c → Which q c
  other : ((s : Side) → q ≡ place s c → ⊥) → Which q c

which : (q c : ℕ) → Which q c
which q c = go (ℕ_discrete q c) (ℕ_discrete q (c + 1))
  where
    go : Dec (q ≡ c) → Dec (q ≡ c + 1) → Which q c
    go (yes h) f = is_child_of left h
    go (no h) (yes f) = is_child_of right f
    go (no h) (no f) = other off
      where
        off : (s : Side) → q ≡ place s c → ⊥
        off left z = h z
        off right z = f z

-- at first the roots have their own places
pub place_start : {m : Mesh} {i t : ℕ} (n : Intact m i t) {new : ℕ → ℕ} → ((q : ℕ) → q < t → new q ≡ q + 1) → ((q : ℕ) → t ≤ q → new q ≡ 0) → Placing m i t 0 (opened m i t) new
place_start {m} {i} {t} n {new} own rest = record {
  told = λ q k z. elim (le_or_lt t q) [
    | inl l ↦ absurd (omega (arith, rest q l))
    | inr l ↦ let e : q ≡ k = omega (arith, own q l) in
        rw (← e) (record { element = el q []; reached = root l refl; there = omega (arith, opened_rows n); is = root_element (mesh_from m i (opened m i t)) t q l })
  ];
  roots = λ q l z. omega (arith, own q l);
  children = λ p e s h k. absurd (omega arith);
}

-- the row that has an element is the one found
pub found_is : {m : Mesh} {i t : ℕ} → Grown m i t → (k : ℕ) (e : Element) → k < rows m → element_of m t k ≡ e → find m.rows e ≡ k
found_is {m} {i} {t} g k e l q = let f : Found m t e = found g e (rw (← q) (row_present g k l)) in one_row g (find m.rows e) k f.there l (f.is ∙ sym q)

module _ {m : Mesh} {i t x : ℕ} {T : Skeleton} {new : ℕ → ℕ} (w : Placing m i t x T new) where
  -- a row without a place when its turn comes is not reached
  pub place_none : {e : Element} → new x ≡ 0 → Reached m t x e → ⊥
  place_none {e} h k = go (reaching k)
    where
      go : Reaching m t x e → ⊥
      go (top l q) = w.roots x l h
      go (under u) = w.children u.up u.element u.side u.placed.later u.kept (rw (← u.here) h)

  -- the rows without a place at the end are those listed
  pub place_listed : {r : ℕ} → x ≡ rows m → r < rows m → new r ≡ 0 → Listed m t r
  place_listed {r} q h z = lost_listed h (λ e k. go e (reaching k))
    where
      go : (e : Element) → Reaching m t r e → ⊥
      go e (top l p) = w.roots r l z
      go e (under u) = w.children u.up u.element u.side (omega (arith, u.placed.later)) u.kept (rw (← u.here) z)

  pub listed_place : {r : ℕ} → Listed m t r → new r ≡ 0
  listed_place {r} l = go (new r) refl
    where
      go : (k : ℕ) → new r ≡ k → new r ≡ 0
      go zero q = q
      go (suc k) q = absurd (listed_lost l (w.told r k (omega (arith, q))).reached)

  module _ (n : Intact m i t) where
    -- a row with a place is marked at it: that is where its element is found
    pub place_find : {k : ℕ} {e : Element} → Built m i t x T → Kept m t x e → new x ≡ k + 1 → find T.rows e ≡ k
    place_find {k} {e} b v q = let o = w.told x k q in found_is b.ready.grown k e o.there (o.is ∙ one_element n o.reached v.reached)

    pub place_passed : ((e : Element) → Kept m t x e → ⊥) → Placing m i t (x + 1) T new
    place_passed none = record {
      told = w.told;
      roots = w.roots;
      children = λ p e s h k. elim (le_or_lt x p) [ inr l ↦ w.children p e s l k | inl l ↦ let same : p ≡ x = omega arith in absurd (none e (rw same at k)) ];
    }

    -- a kept row gives its two children their places, those of the new row's children
    module _ (never : KeptDeep m t → ⊥) {U : Skeleton} {e : Element} (k : ℕ) {after : ℕ → ℕ} (b : Built m i t x T) (v : Kept m t x e) (p : RunAll T (find T.rows e ∷ []) U) (few : length U.records < 4294967295) (own : new x ≡ k + 1)
        (put : (s : Side) → after (place s (row_of m x).child) ≡ place s (row_in U.rows k).child + 1) (keep : (q : ℕ) → ((s : Side) → q ≡ place s (row_of m x).child → ⊥) → after q ≡ new q) where
      child_moved : (s : Side) → Moved m i t U (place s (row_of m x).child) (place s (row_in U.rows k).child)
      child_moved s =
          let d = kept_finished n never b v p few in
          let same = place_find b v own in
          let o = w.told x k own in
          let there : k < length U.rows = omega (arith, o.there, d.grows.more_rows) in
          let split : (row_in U.rows k).child ≡ 0 → ⊥ = rw same at (d.split (find T.rows e) (Memᴰ.head refl)) in
          record {
            element = grown s o.element;
            reached = child s o.reached v.follows refl refl;
            there = (place_below d.ready.grown k there split s).there;
            is = place_element d.ready.grown k there split s ∙ ap (grown s) (d.grows.element k o.there ∙ o.is);
          }

      old_moved : (q j : ℕ) → new q ≡ j + 1 → Moved m i t U q j
      old_moved q j z =
          let d = kept_finished n never b v p few in
          let o = w.told q j z in
          record { element = o.element; reached = o.reached; there = omega (arith, o.there, d.grows.more_rows); is = d.grows.element j o.there ∙ o.is }

      told : (q j : ℕ) → Which q (row_of m x).child → after q ≡ j + 1 → Moved m i t U q j
      told q j (is_child_of s h) z =
          let e : place s (row_in U.rows k).child ≡ j = omega (arith, put s, ap after h, z) in
          rw (h, ← e) (child_moved s)
      told q j (other h) z = old_moved q j (sym (keep q h) ∙ z)

      filled : (q : ℕ) → (new q ≡ 0 → ⊥) → Which q (row_of m x).child → after q ≡ 0 → ⊥
      filled q f (is_child_of s h) z = omega (arith, put s, ap after h)
      filled q f (other h) z = f (sym (keep q h) ∙ z)

      pub place_refined : Placing m i t (x + 1) U after
      place_refined = record {
        told = λ q j. told q j (which q (row_of m x).child);
        roots = λ q h. filled q (w.roots q h) (which q (row_of m x).child);
        children = λ a d s h f. elim (le_or_lt x a) [
          | inr l ↦ filled (place s (row_of m a).child) (w.children a d s l f) (which (place s (row_of m a).child) (row_of m x).child)
          | inl l ↦ let same : a ≡ x = omega arith in λ z. omega (arith, put s, rw same at z)
        ];
      }

-- ---- the steps of a loop, whose counter is n + 1

pub rebuilt_passed : {m : Mesh} {i t n : ℕ} {T : Skeleton} → Rebuilt m i t n T → ((e : Element) → Kept m t n e → ⊥) → Rebuilt m i t (n + 1) T
rebuilt_passed {n = n} p h = rw (add-one n) (left_alone p h)

pub rebuilt_refined : {m : Mesh} {i t n : ℕ} {e : Element} {T U : Skeleton} → Rebuilt m i t n T → Kept m t n e → RunAll T (find T.rows e ∷ []) U → Rebuilt m i t (n + 1) U
rebuilt_refined {n = n} p k q = rw (add-one n) (refined p k q)

pub listed_passed : {m : Mesh} {t n : ℕ} {l : List ℕ} → ListedBelow m t n l → (Listed m t n → ⊥) → ListedBelow m t (n + 1) l
listed_passed {n = n} w h = rw (add-one n) (passed w h)

pub listed_next : {m : Mesh} {t n : ℕ} {l : List ℕ} → ListedBelow m t n l → Listed m t n → ListedBelow m t (n + 1) (l ++ (n ∷ []))
listed_next {n = n} w h = rw (add-one n) (listed w h refl)
