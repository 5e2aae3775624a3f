-- What element k holds, and numbers 6 and 7 from what the walks at two of its places counted.
use mathlib.Core.Path.{◌≡◌, refl, sym, ◌∙◌}
use mathlib.Core.Bool.{Bool, true, false, ◌&&◌, ◌||◌, or-true, or_assoc, and_comm, and_assoc, true≢false}
use mathlib.Core.Logic.{◌⊎◌, inl, inr}
use Prim.Native.Nat.{ℕ, zero, suc, ◌+◌, ◌%◌, ◌<◌}
use native.Mathlib.Decide.{ℕ_discrete}
use native.Mathlib.Omega.{arith}
use mir.Val.{bool_byte}
use lib.Dec.{eqb, ltb, leb}
use Rattle.tables.specs.Layout.{most_vertices}
use Rattle.intake.specs.Cells.{Cells, four_of}
use Rattle.intake.specs.declared.grid.Four.{Four}
use Rattle.opening.specs.declared.faces.Seen.{Seen}
use Rattle.opening.specs.declared.faces.Met.{Met}
use Rattle.intake.specs.Causes.{vertex, has, before, same, third}
use Rattle.opening.specs.Sorting.{Low}
use Rattle.opening.specs.Scratch.{Plain, Chosen, Other, one, among, place_of, turned_of, noted, Counted, crowd, opposite, Around, Meets}
use Rattle.opening.proofs.laws.Counting.{any_count, count_same}

-- ---- the four vertices of an element

pub held : (w : Four) (v : ℕ) → ((eqb w.a v || eqb w.b v) || eqb w.c v) || eqb w.d v ≡ among w v
unfolding among
held w v = simp or_assoc

pub place_low : (w : Four) (q : ℕ) {r : ℕ} → Low w → r ≡ place_of w q → r < most_vertices
unfolding place_of
place_low w zero l e = rw e l.a
place_low w (suc zero) l e = rw e l.b
place_low w (suc (suc zero)) l e = rw e l.c
place_low w (suc (suc (suc q))) l e = rw e l.d

place_is : (E : Cells) (k q : ℕ) → q < 4 → place_of (four_of E k) q ≡ vertex E k q
unfolding place_of four_of
place_is E k zero h = refl
place_is E k (suc zero) h = refl
place_is E k (suc (suc zero)) h = refl
place_is E k (suc (suc (suc zero))) h = refl
place_is E k (suc (suc (suc (suc q)))) h = absurd (omega arith)

pub place_vertex : (E : Cells) {w : Four} {r v : ℕ} (k q : ℕ) → w ≡ four_of E k → q < 4 → r ≡ place_of w q → v ≡ r → v ≡ vertex E k q
place_vertex E k q e h g i = i ∙ g ∙ rw e (place_is E k q h)

-- the order of four tests does not matter: they may begin at any of them
turned : (a b c d : Bool) → b && (c && (d && a)) ≡ a && (b && (c && d))
turned a b c d = rw (and_comm a (b && (c && d))) (simp and_assoc)

all_turned : (f : ℕ → Bool) (m : ℕ) → m < 4 → f m && (f ((m + 1) % 4) && (f ((m + 2) % 4) && f ((m + 3) % 4))) ≡ f 0 && (f 1 && (f 2 && f 3))
all_turned f zero h = refl
all_turned f (suc zero) h = turned (f 0) (f 1) (f 2) (f 3)
all_turned f (suc (suc zero)) h = turned (f 1) (f 2) (f 3) (f 0) ∙ turned (f 0) (f 1) (f 2) (f 3)
all_turned f (suc (suc (suc zero))) h = sym (turned (f 3) (f 0) (f 1) (f 2))
all_turned f (suc (suc (suc (suc m)))) h = absurd (omega arith)

-- so may three
rolled : (E : Cells) (k a b c : ℕ) → before E k b c a ≡ before E k a b c
rolled E k a b c = count_same _ _ k (λ j h. rw (and_comm (has E j a) (has E j b && has E j c)) (simp and_assoc))

-- ---- three faces of element k, from the counts at its place m

record Three (E : Cells) (k m : ℕ) (s : Seen) : Type 0 where
  bc : s.bc ≡ opposite E k ((m + 1) % 4)
  ac : s.ac ≡ opposite E k ((m + 2) % 4)
  ab : s.ab ≡ opposite E k ((m + 3) % 4)

abbrev At : Cells → ℕ → ℕ → Seen → Type 0
At E k m s = Counted E k (vertex E k m) (vertex E k ((m + 1) % 4)) (vertex E k ((m + 2) % 4)) (vertex E k ((m + 3) % 4)) s

module _ (E : Cells) (k : ℕ) where
  turn : (a b c : ℕ) → before E k (vertex E k b) (vertex E k c) (vertex E k a) ≡ before E k (vertex E k a) (vertex E k b) (vertex E k c)
  turn a b c = rolled E k (vertex E k a) (vertex E k b) (vertex E k c)

  faces_at : (m : ℕ) {s : Seen} → m < 4 → At E k m s → Three E k m s
  unfolding opposite
  faces_at zero h x = record { bc = x.bc; ac = x.ac; ab = x.ab }
  faces_at (suc zero) h x = record { bc = x.bc ∙ turn 0 1 3; ac = x.ac ∙ turn 0 1 2; ab = x.ab }
  faces_at (suc (suc zero)) h x = record { bc = x.bc ∙ sym (turn 2 0 1); ac = x.ac ∙ turn 1 2 3; ab = x.ab ∙ turn 0 2 3 }
  faces_at (suc (suc (suc zero))) h x = record { bc = x.bc ∙ sym (turn 3 1 2); ac = x.ac ∙ sym (turn 3 0 2); ab = x.ab ∙ sym (turn 3 0 1) }
  faces_at (suc (suc (suc (suc m)))) h x = absurd (omega arith)

  -- number 7 by the four faces
  third_has : (o : ℕ) → o < 4 → leb 2 (opposite E k o) ≡ true → third E k ≡ true
  unfolding third opposite
  third_has zero h t = rw (t, or-true, or-true, or-true)
  third_has (suc zero) h t = rw (t, or-true, or-true)
  third_has (suc (suc zero)) h t = rw (t, or-true)
  third_has (suc (suc (suc zero))) h t = rw t
  third_has (suc (suc (suc (suc o)))) h t = absurd (omega arith)

  third_none : ((o : ℕ) → o < 4 → leb 2 (opposite E k o) ≡ false) → third E k ≡ false
  unfolding third opposite
  third_none h = rw (h 0 (omega arith), h 1 (omega arith), h 2 (omega arith), h 3 (omega arith))

  module _ {m : ℕ} {s : Seen} (h : m < 4) (x : At E k m s) where
    three : Three E k m s
    three = faces_at m h x

    crowd_some : crowd s ≡ true → third E k ≡ true
    unfolding crowd
    crowd_some = go (ltb 1 s.ab) (ltb 1 s.ac) (ltb 1 s.bc) (rw three.ab) (rw three.ac) (rw three.bc)
      where
        go : (a b c : Bool) → a ≡ leb 2 (opposite E k ((m + 3) % 4)) → b ≡ leb 2 (opposite E k ((m + 2) % 4)) → c ≡ leb 2 (opposite E k ((m + 1) % 4)) → (a || (b || c)) ≡ true → third E k ≡ true
        go true b c p q r t = third_has ((m + 3) % 4) (omega arith) (sym p)
        go false true c p q r t = third_has ((m + 2) % 4) (omega arith) (sym q)
        go false false c p q r t = third_has ((m + 1) % 4) (omega arith) (sym r ∙ t)

    crowd_none : crowd s ≡ false → (o : ℕ) → o < 4 → (o ≡ m → ⊥) → leb 2 (opposite E k o) ≡ false
    unfolding crowd
    crowd_none t o l d = go (ltb 1 s.ab) (ltb 1 s.ac) (ltb 1 s.bc) (rw three.ab) (rw three.ac) (rw three.bc) t (ℕ_discrete o ((m + 3) % 4)) (ℕ_discrete o ((m + 2) % 4))
      where
        go : (a b c : Bool) → a ≡ leb 2 (opposite E k ((m + 3) % 4)) → b ≡ leb 2 (opposite E k ((m + 2) % 4)) → c ≡ leb 2 (opposite E k ((m + 1) % 4)) → (a || (b || c)) ≡ false → Dec (o ≡ (m + 3) % 4) → Dec (o ≡ (m + 2) % 4) → leb 2 (opposite E k o) ≡ false
        go true b c p q r t e f = absurd (true≢false t)
        go false true c p q r t e f = absurd (true≢false t)
        go false false c p q r t (yes e) f = rw e (sym p)
        go false false c p q r t (no e) (yes f) = rw f (sym q)
        go false false c p q r t (no e) (no f) = let g : o ≡ (m + 1) % 4 = omega arith in rw g (sym r ∙ t)

  -- an element before k has the same vertices exactly if the number counted from place m of k is over 0
  same_counted : {m : ℕ} {s : Seen} → m < 4 → At E k m s → ltb 0 s.all ≡ same E k
  unfolding same
  same_counted {m} h x = rw (x.all, any_count, count_same _ _ k (λ j l. all_turned (λ i. has E j (vertex E k i)) m h))

  around_counted : {m v a b c : ℕ} {s : Seen} {r : Bool} → m < 4 → v ≡ vertex E k m → a ≡ vertex E k ((m + 1) % 4) → b ≡ vertex E k ((m + 2) % 4) → c ≡ vertex E k ((m + 3) % 4) → Counted E k v a b c s → r ≡ crowd s → Around E k m (record { same = ltb 0 s.all; third = r })
  around_counted {m} {s = s} h p q r t x e =
      let y : At E k m s = rw (← p, ← q, ← r, ← t) x in
      record { same = same_counted h y; some = λ g. crowd_some h y (sym e ∙ g); none = λ g. crowd_none h y (sym e ∙ g) }

  -- the faces at place m, and then those at another place too
  pub meets_near : {m : ℕ} {r : Met} → Around E k m r → r.third ≡ true → Meets E k r
  meets_near x t = record { same = x.same; third = t ∙ sym (x.some t) }

  pub meets_far : {m o : ℕ} {n r : Met} → Around E k m n → n.third ≡ false → Other m o → Around E k o r → Meets E k r
  meets_far {m} {o} {n} {r} x t d y = record { same = y.same; third = go r.third refl }
    where
      go : (b : Bool) → r.third ≡ b → b ≡ third E k
      go true e = sym (y.some e)
      go false e = sym (third_none (λ i l. pick i l (ℕ_discrete i m)))
        where
          pick : (i : ℕ) → i < 4 → Dec (i ≡ m) → leb 2 (opposite E k i) ≡ false
          pick i l (yes q) = y.none e i l (λ z. d.apart (sym z ∙ q))
          pick i l (no q) = x.none t i l q

-- the vertices from place m on, as they are read
record Turned (E : Cells) (k m : ℕ) (t : Four) : Type 0 where
  a : t.a ≡ vertex E k m
  b : t.b ≡ vertex E k ((m + 1) % 4)
  c : t.c ≡ vertex E k ((m + 2) % 4)
  d : t.d ≡ vertex E k ((m + 3) % 4)

read_turned : {E : Cells} {k m : ℕ} {w t : Four} → w ≡ four_of E k → m < 4 → t ≡ turned_of w m → Turned E k m t
unfolding turned_of
read_turned {E} {k} {m} e h g = rw (g, e) (record { a = place_is E k m h; b = place_is E k ((m + 1) % 4) (omega arith); c = place_is E k ((m + 2) % 4) (omega arith); d = place_is E k ((m + 3) % 4) (omega arith) })

pub turned_there : {vertices : ℕ} {E : Cells} {w t : Four} (k m : ℕ) → Plain vertices E → k < E.count → w ≡ four_of E k → m < 4 → t ≡ turned_of w m → t.a < vertices
turned_there {E = E} k m x h e l g = let u = read_turned {E = E} {k = k} {m = m} e l g in omega (arith, u.a, x.there k m h l)

pub around_turned : (E : Cells) (k m : ℕ) {w t : Four} {s : Seen} {r : Bool} → w ≡ four_of E k → m < 4 → t ≡ turned_of w m → Counted E k t.a t.b t.c t.d s → r ≡ crowd s → Around E k m (record { same = ltb 0 s.all; third = r })
around_turned E k m e h g x f = let u = read_turned {E = E} {k = k} {m = m} e h g in around_counted E k h u.a u.b u.c u.d x f

-- a place other than m, chosen in two steps
pub other_chosen : {m p q : ℕ} → m < 4 → Chosen ((m + 1) % 4) ((m + 2) % 4) p → Chosen p ((m + 3) % 4) q → Other m q
other_chosen {m} {p} {q} h x y = record { low = y.low; apart = go x.one y.one }
  where
    go : (p ≡ (m + 1) % 4) ⊎ (p ≡ (m + 2) % 4) → (q ≡ p) ⊎ (q ≡ (m + 3) % 4) → q ≡ m → ⊥
    go (inl e) (inl g) z = omega arith
    go (inr e) (inl g) z = omega arith
    go e (inr g) z = omega arith

-- ---- one element more

byte_one : (b : Bool) → bool_byte b ≡ one b
byte_one true = refl
byte_one false = refl

-- x, y and z say whether it holds a, b and c
pub noted_held : (E : Cells) {w : Four} (j a b c : ℕ) {x y z : Bool} {p q r t : ℕ} (s : Seen) → w ≡ four_of E j → x ≡ among w a → y ≡ among w b → z ≡ among w c → p ≡ bool_byte ((x && y) && z) → q ≡ bool_byte (x && y) → r ≡ bool_byte (x && z) → t ≡ bool_byte (y && z)
    → ◌≡◌ {A = Seen} (record { all = s.all + p; ab = s.ab + q; ac = s.ac + r; bc = s.bc + t }) (noted (has E j a) (has E j b) (has E j c) s)
unfolding noted has among four_of
noted_held E j a b c s k e f g ep eq er et = rw (ep, eq, er, et, e, f, g, k) (simp (byte_one, and_assoc))
