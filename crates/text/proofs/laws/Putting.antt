-- Texts put into the buffer one after the other.
use mathlib.Core.Path.{◌≡◌, refl, sym, ap, ◌∙◌}
use mathlib.Core.List.{List, [], ◌∷◌, ◌++◌, append_assoc, append-nil}
use Prim.Native.Nat.{ℕ, zero, suc, ◌+◌, ◌-◌, ◌*◌, ◌/◌, ◌%◌, ◌≤◌, ◌<◌}
use native.Mathlib.Nat.{mod-lt}
use native.Mathlib.Omega.{arith}
use borrow.Author.Tests.{lt-ltb, le-ltb, eq-eqb, ne_eqb}
use lib.ListN.{length, length-append, take, get_or}
use mathlib.Core.List.{map}
use Rattle.std.proofs.lemmas.List.{take_more, map-append}
use Rattle.leaves.proofs.laws.Walking.{sets_append}
use lib.Ieee.{binary64, to_bits}
use Rattle.split.specs.declared.row.Row.{Row}
use Rattle.split.specs.declared.point.Point.{Point}
use Rattle.tables.specs.declared.record.Record.{Record}
use Rattle.tables.specs.Layout.{row_at}
use Rattle.fields.specs.Digits.{glyph, spelled, decimal, sixteen}
use Rattle.fields.specs.Field.{tabbed}
use Rattle.text.specs.Output.{written, c_line, p_line, l_line, root_from, root_of}
use Rattle.text.specs.Putting.{Room, Puts, Spells}

pub puts_both : {w v : ℕ} {o o₁ o₂ : List ℕ} {at e f : ℕ} {a b : List ℕ} → Puts w o at a o₁ e → Puts v o₁ e b o₂ f → Puts (w + v) o at (a ++ b) o₂ f
puts_both {o = o} {at = at} {a = a} {b} x y = record {
  stores = y.stores ∙ rw (x.stores, x.ends) (sym (sets_append o at a b));
  ends = omega (arith, x.ends, y.ends, length-append a b);
  few = omega (arith, x.few, y.few, length-append a b);
}

pub puts_none : {o : List ℕ} {at : ℕ} → Puts 0 o at [] o at
puts_none = record { stores = refl; ends = omega arith; few = omega arith }

-- ---- digits

spelled_none : (b s n : ℕ) → spelled b s 0 n ≡ []
unfolding spelled
spelled_none b s n = refl

spelled_short : (b s k n : ℕ) → n < s → spelled b s (suc k) n ≡ glyph n ∷ []
unfolding spelled
spelled_short b s k n h = rw (spelled, lt-ltb n s h)

spelled_more : (b s k n : ℕ) → s ≤ n → spelled b s (suc k) n ≡ spelled b s k (n / b) ++ (glyph (n % b) ∷ [])
unfolding spelled
spelled_more b s k n h = rw (spelled, le-ltb n s h)

module _ {b s k at : ℕ} (x : Spells b s k at) where
  pub spell_base : b ≡ 0 → ⊥
  spell_base q = omega (arith, q, x.some)

  pub spell_digit : (n : ℕ) → n % b < 16
  spell_digit n = let h = mod-lt n x.some in omega (arith, h, x.low)

  pub spell_low : {n : ℕ} → n < s → n < 16
  spell_low h = omega (arith, h, x.short_low)

  pub spell_none : k ≡ 0 → (n : ℕ) {o : List ℕ} → Puts k o at (spelled b s k n) o at
  spell_none q n = rw (q, spelled_none b s n) puts_none

  module _ (q : k ≡ 0 → ⊥) where
    pred : k ≡ suc (k - 1)
    pred = omega (arith, q)

    pub spell_some : 1 ≤ k
    spell_some = omega (arith, q)

    pub spell_falls : {m : ℕ} → k ≡ m → k - 1 < m
    spell_falls e = omega (arith, q, e)

    pub spell_room : Room 1 at
    spell_room = record { fits = omega (arith, q, x.room.fits) }

    pub spell_ready : Spells b s (k - 1) at
    spell_ready = record { some = x.some; low = x.low; short_low = x.short_low; room = record { fits = omega (arith, q, x.room.fits) } }

    pub spell_short : {n g e : ℕ} {o o' : List ℕ} → n < s → g ≡ glyph n → Puts 1 o at (g ∷ []) o' e → Puts k o at (spelled b s k n) o' e
    spell_short {n} h z p = let t : Puts 1 _ at (glyph n ∷ []) _ _ = rw z at p in rw (pred, spelled_short b s (k - 1) n h) (record { stores = t.stores; ends = t.ends; few = omega arith })

    pub spell_next : {e : ℕ} {o a o₁ : List ℕ} → Puts (k - 1) o at a o₁ e → Room 1 e
    spell_next p = record { fits = omega (arith, q, x.room.fits, p.ends, p.few) }

    pub spell_more : (n : ℕ) {e : ℕ} {o o₁ : List ℕ} → Puts (k - 1) o at (spelled b s (k - 1) (n / b)) o₁ e → s ≤ n → {g f : ℕ} {o₂ : List ℕ} → g ≡ glyph (n % b) → Puts 1 o₁ e (g ∷ []) o₂ f → Puts k o at (spelled b s k n) o₂ f
    spell_more n p h z r =
        let t = puts_both p (rw z at r) in
        rw (pred, spelled_more b s (k - 1) n h) (record { stores = t.stores; ends = t.ends; few = omega (arith, t.few) })

pub ruleset spelling = (spell_base, spell_digit, spell_low, spell_none, spell_some, spell_falls, spell_room, spell_ready, spell_short, spell_next, spell_more)

-- ---- fields

tabbed_append : (fs gs : List (List ℕ)) → tabbed (fs ++ gs) ≡ tabbed fs ++ tabbed gs
unfolding tabbed
tabbed_append [] gs = refl
tabbed_append (f ∷ fs) gs = ap (λ (r : List ℕ). (9 ∷ f) ++ r) (tabbed_append fs gs) ∙ sym (append_assoc (9 ∷ f) (tabbed fs) (tabbed gs))

tabbed_one : (f : List ℕ) → tabbed (f ∷ []) ≡ 9 ∷ f
unfolding tabbed
tabbed_one f = append-nil (9 ∷ f)

-- one field more
more : {w : ℕ} {o o₁ o₂ : List ℕ} {at e f : ℕ} {v : ℕ} (fs : List (List ℕ)) (g : List ℕ) → Puts w o at (tabbed fs) o₁ e → Puts v o₁ e (9 ∷ g) o₂ f → Puts (w + v) o at (tabbed (fs ++ (g ∷ []))) o₂ f
more fs g x y = rw (tabbed_append fs (g ∷ []), tabbed_one g) (puts_both x y)

one_field : {w : ℕ} {o o' : List ℕ} {at e : ℕ} (g : List ℕ) → Puts w o at (9 ∷ g) o' e → Puts w o at (tabbed (g ∷ [])) o' e
one_field g x = rw (tabbed_one g) x

-- the first i numbers are put
pub record Listing (ns : List ℕ) (i : ℕ) (o : List ℕ) (at : ℕ) (o' : List ℕ) (e : ℕ) : Type 0 where
  pub room : Room (21 * length ns) at
  pub within : i ≤ length ns
  pub puts : Puts (21 * i) o at (tabbed (map decimal (take i ns))) o' e

pub listing_start : {ns : List ℕ} {at : ℕ} → Room (21 * length ns) at → {o : List ℕ} → Listing ns 0 o at o at
unfolding tabbed
listing_start r = record { room = r; within = omega arith; puts = puts_none }

module _ {ns : List ℕ} {i : ℕ} {o : List ℕ} {at : ℕ} {o' : List ℕ} {e : ℕ} (x : Listing ns i o at o' e) where
  pub listing_next : i < length ns → {o₂ : List ℕ} {f : ℕ} → Puts 21 o' e (9 ∷ decimal (get_or ns i 0)) o₂ f → Listing ns (i + 1) o at o₂ f
  listing_next h y =
      let w : 21 * (i + 1) ≡ 21 * i + 21 = omega arith in
      let t : map decimal (take (i + 1) ns) ≡ map decimal (take i ns) ++ (decimal (get_or ns i 0) ∷ []) = ap (map decimal) (take_more ns i 0 h) ∙ map-append decimal (take i ns) (get_or ns i 0 ∷ []) in
      record { room = x.room; within = omega (arith, h); puts = rw (w, t) (more (map decimal (take i ns)) (decimal (get_or ns i 0)) x.puts y) }

pub ruleset listing = (listing_start, listing_next)

module _ {w : ℕ} (a b c : List ℕ) {o o₁ o₂ o₃ : List ℕ} {at e f g : ℕ} where
  pub three_put : Puts w o at (9 ∷ a) o₁ e → Puts w o₁ e (9 ∷ b) o₂ f → Puts w o₂ f (9 ∷ c) o₃ g → {t : ℕ} → w + w + w ≡ t → Puts t o at (tabbed (a ∷ b ∷ c ∷ [])) o₃ g
  three_put x y z q = rw (← q) (more (a ∷ b ∷ []) c (more (a ∷ []) b (one_field a x) y) z)

-- ---- lines

module _ (c : ℕ) {o o₁ : List ℕ} {at e : ℕ} (x : Puts 1 o at (c ∷ []) o₁ e) (ns : List ℕ) {o₂ : List ℕ} {f : ℕ} (y : Puts (21 * length ns) o₁ e (tabbed (map decimal ns)) o₂ f) where
  pub line_put : {o₃ : List ℕ} {g : ℕ} → Puts 1 o₂ f (10 ∷ []) o₃ g → {w : ℕ} → 21 * length ns + 2 ≡ w → Puts w o at (written c (map decimal ns)) o₃ g
  line_put z q = let p = puts_both (puts_both x y) z in record { stores = p.stores; ends = p.ends; few = omega (arith, p.few, q) }

  pub line_more : (gs : List (List ℕ)) {v : ℕ} {o₃ o₄ : List ℕ} {g h : ℕ} → Puts v o₂ f (tabbed gs) o₃ g → Puts 1 o₃ g (10 ∷ []) o₄ h → {w : ℕ} → 21 * length ns + v + 2 ≡ w → Puts w o at (written c (map decimal ns ++ gs)) o₄ h
  line_more gs y' z q = let p = puts_both (puts_both x (puts_both y y')) z in rw (tabbed_append (map decimal ns) gs) (record { stores = p.stores; ends = p.ends; few = omega (arith, p.few, q) })

-- ---- the root

pub record Climbing (w : List ℕ) (k i at : ℕ) : Type 0 where
  pub within : i ≤ 60
  pub same : root_of w k ≡ root_from w (60 - i) at

pub root_here : (w : List ℕ) (f k : ℕ) → (row_at w k).parent ≡ k → root_from w f k ≡ k
unfolding root_from
root_here w zero k e = refl
root_here w (suc f) k e = rw (root_from, eq-eqb (row_at w k).parent k e)

pub root_over : (w : List ℕ) (f k : ℕ) → ((row_at w k).parent ≡ k → ⊥) → root_from w (suc f) k ≡ root_from w f (row_at w k).parent
unfolding root_from
root_over w f k e = rw (root_from, ne_eqb (row_at w k).parent k e)

root_none : (w : List ℕ) (k : ℕ) → root_from w 0 k ≡ k
unfolding root_from
root_none w k = refl

pub climb_start : {w : List ℕ} {k : ℕ} → Climbing w k 0 k
climb_start = record { within = omega arith; same = refl }

module _ {w : List ℕ} {k i at : ℕ} (x : Climbing w k i at) where
  module _ (h : i < 60) {r : Row} (e : r ≡ row_at w at) {p : ℕ} (q : p ≡ r.parent) where
    is_parent : p ≡ (row_at w at).parent
    is_parent = rw e at q

    pub climb_found : p ≡ at → at ≡ root_of w k
    climb_found z = sym (x.same ∙ root_here w (60 - i) at (sym is_parent ∙ z))

    pub climb_next : (p ≡ at → ⊥) → Climbing w k (i + 1) p
    climb_next z = record {
      within = omega arith;
      same =
          let s : 60 - i ≡ suc (60 - (i + 1)) = omega arith in
          x.same ∙ rw (s, is_parent) (root_over w (60 - (i + 1)) at (λ y. z (is_parent ∙ y)));
    }

  pub climb_all : 60 ≤ i → at ≡ root_of w k
  climb_all h = let s : 60 - i ≡ 0 = omega arith in sym (x.same ∙ rw s (root_none w at))

pub ruleset climbing = (climb_start, climb_found, climb_next, climb_all)

-- ---- each kind of line

module _ {o o₁ : List ℕ} {at e : ℕ} where
  pub c_line_lem : (a b c d : ℕ) → Puts 1 o at (67 ∷ []) o₁ e → {o₂ o₃ : List ℕ} {f g : ℕ} → Puts 84 o₁ e (tabbed (map decimal (a ∷ b ∷ c ∷ d ∷ []))) o₂ f → Puts 1 o₂ f (10 ∷ []) o₃ g → Puts 86 o at (c_line a b c d) o₃ g
  unfolding c_line
  c_line_lem a b c d x y z = line_put 67 x (a ∷ b ∷ c ∷ d ∷ []) y z refl

  module _ (v : ℕ) {r r' : Record} (er : r ≡ r') {p p' : Point} (ep : p ≡ p') {b c : ℕ} (eb : b ≡ r.first) (ec : c ≡ r.second) where
    pub p_line_lem : Puts 1 o at (80 ∷ []) o₁ e → {o₂ o₃ o₄ : List ℕ} {f g h : ℕ} → Puts 63 o₁ e (tabbed (map decimal (v ∷ b ∷ c ∷ []))) o₂ f → Puts 51 o₂ f (tabbed (sixteen (to_bits binary64 p.x) ∷ sixteen (to_bits binary64 p.y) ∷ sixteen (to_bits binary64 p.z) ∷ [])) o₃ g → Puts 1 o₃ g (10 ∷ []) o₄ h → Puts 116 o at (p_line v r' p') o₄ h
    unfolding p_line
    p_line_lem x y z n = rw (← er, ← ep, ← eb, ← ec) (line_more 80 x (v ∷ b ∷ c ∷ []) y (sixteen (to_bits binary64 p.x) ∷ sixteen (to_bits binary64 p.y) ∷ sixteen (to_bits binary64 p.z) ∷ []) z n refl)

  module _ (k : ℕ) {root root' level : ℕ} (eb : root ≡ root') {r r' : Row} (er : r ≡ r') {c d : ℕ} (ec : c ≡ r.depth) (ed : d ≡ level) {t : ℕ} (et : t ≡ r.tag) {i j m n : ℕ} (ei : i ≡ r.v0) (ej : j ≡ r.v1) (em : m ≡ r.v2) (en : n ≡ r.v3) where
    pub l_line_lem : Puts 1 o at (76 ∷ []) o₁ e → {o₂ o₃ : List ℕ} {f g : ℕ} → Puts 189 o₁ e (tabbed (map decimal (k ∷ root ∷ c ∷ d ∷ t ∷ i ∷ j ∷ m ∷ n ∷ []))) o₂ f → Puts 1 o₂ f (10 ∷ []) o₃ g → Puts 191 o at (l_line k root' level r') o₃ g
    unfolding l_line
    l_line_lem x y z = rw (← eb, ← er, ← ec, ← ed, ← et, ← ei, ← ej, ← em, ← en) (line_put 76 x (k ∷ root ∷ c ∷ d ∷ t ∷ i ∷ j ∷ m ∷ n ∷ []) y z refl)
