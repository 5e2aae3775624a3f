-- The name of a vertex by its record, and that different vertices have different names.
use mathlib.Core.Path.{◌≡◌, refl, sym, ap, ◌∙◌}
use mathlib.Core.Bool.{Bool, true, false, cond}
use mathlib.Core.Logic.{◌⊎◌, inl, inr}
use Prim.Native.Nat.{ℕ, zero, suc, ◌≤◌, ◌<◌}
use native.Mathlib.Omega.{arith}
use borrow.Author.Tests.{lt-ltb, le-ltb, eq-eqb, ne_eqb}
use Rattle.split.specs.declared.row.Ends.{Ends}
use Rattle.split.specs.Row.{pair, ends}
use Rattle.split.proofs.laws.Places.{le_or_lt}
use Rattle.split.proofs.laws.Ends.{ends_rising, ends_falling}
use Rattle.tables.specs.Mesh.{Mesh}
use Rattle.forest.specs.Element.{Name, init, mid}
use Rattle.forest.specs.Generation.{Gen, gen}
use Rattle.forest.proofs.First.{Oriented, same, lower}
use Rattle.sound.specs.Sound.{vertices, record_of, Grown}
use Rattle.sound.specs.Forest.{colour_in, largest_in, leads, joint, name_within, name_of}

-- ---- the order of two ends

leads_first : {a b : Gen} → Oriented a b → leads a b ≡ true
leads_first {a} {b} (same e h) = rw (le-ltb a.level b.level (omega arith), eq-eqb a.level b.level e, lt-ltb b.type a.type h)
leads_first {a} {b} (lower h) = rw (lt-ltb a.level b.level h)

leads_second : {a b : Gen} → Oriented b a → leads a b ≡ false
leads_second {a} {b} (same e h) = rw (le-ltb a.level b.level (omega arith), eq-eqb a.level b.level (sym e), le-ltb b.type a.type (omega arith))
leads_second {a} {b} (lower h) = rw (le-ltb a.level b.level (omega arith), ne_eqb a.level b.level (λ e. omega arith))

-- x and y are a and b, in this order or the other
pub data Sorted (a b x y : ℕ) : Type 0 where
  kept : x ≡ a → y ≡ b → Sorted a b x y
  swapped : x ≡ b → y ≡ a → Sorted a b x y

pub sorted_ends : (a b x y : ℕ) → pair x y ≡ ends a b → Sorted a b x y
sorted_ends a b x y e = elim (le_or_lt a b) [
  | inl h ↦ let f : pair x y ≡ pair a b = e ∙ ends_rising h in kept (ap (λ (p : Ends). p.small) f) (ap (λ (p : Ends). p.large) f)
  | inr h ↦ let f : pair x y ≡ pair b a = e ∙ ends_falling (omega arith) in swapped (ap (λ (p : Ends). p.small) f) (ap (λ (p : Ends). p.large) f)
]

sorted_below : {a b x y : ℕ} → Sorted a b x y → {v : ℕ} → x < v → y < v → (a < v) × (b < v)
sorted_below (kept p q) h k = omega arith
sorted_below (swapped p q) h k = omega arith

sorted_same : {a b x y x' y' : ℕ} → Sorted a b x y → Sorted a b x' y' → x < y → x' < y' → (x ≡ x') × (y ≡ y')
sorted_same (kept p q) (kept r s) h k = omega arith
sorted_same (kept p q) (swapped r s) h k = omega arith
sorted_same (swapped p q) (kept r s) h k = omega arith
sorted_same (swapped p q) (swapped r s) h k = omega arith

module _ (N : ℕ) (colour : ℕ → ℕ) where
  -- the midpoint of an oriented edge, whichever end has the smaller number
  pub joint_oriented : (f : ℕ → Name) (a b x y : ℕ) → pair x y ≡ ends a b → Oriented (gen N colour (f a)) (gen N colour (f b)) → joint N colour (f x) (f y) ≡ mid (f a) (f b)
  unfolding joint
  joint_oriented f a b x y e o = elim (sorted_ends a b x y e) [
    | kept p q ↦ rw (p, q, leads_first o)
    | swapped p q ↦ rw (p, q, leads_second o)
  ]

-- a midpoint's name by two vertices that are its parents
record Between (f : ℕ → Name) (x y : ℕ) (n : Name) : Type 0 where
  near : ℕ
  away : ℕ
  is : n ≡ mid (f near) (f away)
  parents : Sorted near away x y

between : (N : ℕ) (colour : ℕ → ℕ) (f : ℕ → Name) (x y : ℕ) → Between f x y (joint N colour (f x) (f y))
unfolding joint
between N colour f x y = go (leads (gen N colour (f x)) (gen N colour (f y)))
  where
    go : (b : Bool) → Between f x y (cond b (mid (f x) (f y)) (mid (f y) (f x)))
    go true = record { near = x; away = y; is = refl; parents = kept refl refl }
    go false = record { near = y; away = x; is = refl; parents = swapped refl refl }

-- ---- the steps to a name

module _ (m : Mesh) (i : ℕ) where
  within_initial : (steps v : ℕ) → v < i → name_within m i steps v ≡ init v
  unfolding name_within
  within_initial zero v h = refl
  within_initial (suc steps) v h = rw (name_within, lt-ltb v i h)

  within_midpoint : (steps v : ℕ) → i ≤ v → name_within m i (suc steps) v ≡ joint (largest_in m i) (colour_in m i) (name_within m i steps (record_of m v).first) (name_within m i steps (record_of m v).second)
  unfolding name_within
  within_midpoint steps v h = rw (name_within, le-ltb v i h)

  pub name_initial : (v : ℕ) → v < i → name_of m i v ≡ init v
  name_initial v = within_initial v v

module _ {m : Mesh} {i t : ℕ} (g : Grown m i t) where
  -- no midpoint has number 0, so a search without steps is right
  lowest : (v : ℕ) → v ≤ 0 → v < vertices m → v < i
  lowest v h l = elim (le_or_lt i v) [ inl k ↦ absurd (omega (arith, g.midpoint v k l)) | inr k ↦ k ]

  alike : (f h v : ℕ) → v < i → name_within m i f v ≡ name_within m i h v
  alike f h v k = within_initial m i f v k ∙ sym (within_initial m i h v k)

  -- more steps than the vertex's number change nothing
  steady : (f h v : ℕ) → v ≤ f → v ≤ h → v < vertices m → name_within m i f v ≡ name_within m i h v
  steady zero h v a b l = alike zero h v (lowest v a l)
  steady (suc f) zero v a b l = alike (suc f) zero v (lowest v b l)
  steady (suc f) (suc h) v a b l = elim (le_or_lt i v) [
    | inl k ↦ let w = g.midpoint v k l in
        within_midpoint m i f v k
        ∙ rw (steady f h (record_of m v).first (omega arith) (omega arith) (omega arith), steady f h (record_of m v).second (omega arith) (omega arith) (omega arith)) (sym (within_midpoint m i h v k))
    | inr k ↦ alike (suc f) (suc h) v k
  ]

  -- a midpoint's name by its parents' names
  pub name_midpoint : (v : ℕ) → i ≤ v → v < vertices m → name_of m i v ≡ joint (largest_in m i) (colour_in m i) (name_of m i (record_of m v).first) (name_of m i (record_of m v).second)
  name_midpoint zero k l = absurd (omega (arith, g.midpoint 0 k l))
  name_midpoint (suc s) k l =
      let w = g.midpoint (suc s) k l in
      within_midpoint m i s (suc s) k ∙ rw (steady s (record_of m (suc s)).first (record_of m (suc s)).first (omega arith) (omega arith) (omega arith), steady s (record_of m (suc s)).second (record_of m (suc s)).second (omega arith) (omega arith) (omega arith))

  -- ---- different vertices have different names

  parents_of : (v : ℕ) → i ≤ v → v < vertices m → Between (name_of m i) (record_of m v).first (record_of m v).second (name_of m i v)
  parents_of v k l = rw (name_midpoint v k l) (between (largest_in m i) (colour_in m i) (name_of m i) (record_of m v).first (record_of m v).second)

  -- two vertices whose names have the same ends, where smaller vertices are told apart by their names
  same_midpoint : (n u v : ℕ) → ((a b : ℕ) → a < n → b < n → a < vertices m → b < vertices m → name_of m i a ≡ name_of m i b → a ≡ b)
      → u < suc n → v < suc n → i ≤ u → u < vertices m → i ≤ v → v < vertices m → name_of m i u ≡ name_of m i v → u ≡ v
  same_midpoint n u v earlier hu hv ku lu kv lv e =
      let mu = g.midpoint u ku lu in
      let mv = g.midpoint v kv lv in
      let pu = parents_of u ku lu in
      let pv = parents_of v kv lv in
      let bu = sorted_below pu.parents {v = u} (omega arith) (omega arith) in
      let bv = sorted_below pv.parents {v = v} (omega arith) (omega arith) in
      let ends : mid (name_of m i pu.near) (name_of m i pu.away) ≡ mid (name_of m i pv.near) (name_of m i pv.away) = sym pu.is ∙ e ∙ pv.is in
      let near : pu.near ≡ pv.near = earlier _ _ (omega arith) (omega arith) (omega arith) (omega arith) (cc) in
      let away : pu.away ≡ pv.away = earlier _ _ (omega arith) (omega arith) (omega arith) (omega arith) (cc) in
      let (first, second) = sorted_same (rw (near, away) at pu.parents) pv.parents mu.rising mv.rising in
      mv.only u ku lu (λ j. record { first = first j; second = second j })

  names_apart : (n u v : ℕ) → u < n → v < n → u < vertices m → v < vertices m → name_of m i u ≡ name_of m i v → u ≡ v
  names_apart zero u v hu hv lu lv e = absurd (omega arith)
  names_apart (suc n) u v hu hv lu lv e = go (le_or_lt i u) (le_or_lt i v) (names_apart n)
    where
      mixed : (a b : ℕ) → a < i → i ≤ b → b < vertices m → name_of m i a ≡ name_of m i b → ⊥
      mixed a b ha hb lb f = let p = parents_of b hb lb in let z : ◌≡◌ {A = ℕ} 0 1 = cc (name_initial m i a ha) in omega arith

      go : (i ≤ u) ⊎ (u < i) → (i ≤ v) ⊎ (v < i) → ((a b : ℕ) → a < n → b < n → a < vertices m → b < vertices m → name_of m i a ≡ name_of m i b → a ≡ b) → u ≡ v
      go (inl ku) (inl kv) earlier = same_midpoint n u v earlier hu hv ku lu kv lv e
      go (inl ku) (inr kv) earlier = absurd (mixed v u kv ku lu (sym e))
      go (inr ku) (inl kv) earlier = absurd (mixed u v ku kv lv e)
      go (inr ku) (inr kv) earlier = cc (name_initial m i u ku, name_initial m i v kv)

  pub one_vertex : (u v : ℕ) → u < vertices m → v < vertices m → name_of m i u ≡ name_of m i v → u ≡ v
  one_vertex u v lu lv = names_apart (vertices m) u v lu lv lu lv
