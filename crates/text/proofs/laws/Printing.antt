-- The printed lines one after the other.
use mathlib.Core.Path.{◌≡◌, refl}
use mathlib.Core.List.{List, [], ◌++◌}
use Prim.Native.Nat.{ℕ, ◌+◌, ◌-◌, ◌*◌, ◌≤◌, ◌<◌}
use native.Mathlib.Numerals.{add-one}
use native.Mathlib.Omega.{arith}
use lib.Ieee.{Float}
use lib.ListN.{length, get_or}
use Rattle.tables.specs.Layout.{point_at, record_at, row_at}
use Rattle.text.specs.Output.{p_line, l_line, leaf_line, p_lines, l_lines, texts, root_of}
use Rattle.text.specs.Putting.{Puts}
use Rattle.text.specs.Printing.{PrintsMidpoints, PrintsLeaves}
use Rattle.text.proofs.laws.Putting.{puts_both, puts_none}

texts_none : (f : ℕ → List ℕ) → texts f 0 ≡ []
unfolding texts
texts_none f = refl

texts_next : (f : ℕ → List ℕ) (n : ℕ) → texts f (n + 1) ≡ texts f n ++ f n
unfolding texts
texts_next f n = rw (add-one n)

-- n texts of w bytes at most are put
pub record Printed (w : ℕ) (f : ℕ → List ℕ) (n : ℕ) (o : List ℕ) (at : ℕ) (o' : List ℕ) (e : ℕ) : Type 0 where
  pub puts : Puts (w * n) o at (texts f n) o' e

printed_none : (w : ℕ) (f : ℕ → List ℕ) (o : List ℕ) (at : ℕ) → Printed w f 0 o at o at
printed_none w f o at = record { puts = let z : w * 0 ≡ 0 = omega arith in rw (z, texts_none f) puts_none }

printed_next : {w : ℕ} {f : ℕ → List ℕ} {n : ℕ} {o o₁ o₂ : List ℕ} {at e g : ℕ} → Printed w f n o at o₁ e → Puts w o₁ e (f n) o₂ g → Printed w f (n + 1) o at o₂ g
printed_next {w} {f} {n} x y = record { puts = let z : w * (n + 1) ≡ w * n + w = omega arith in rw (z, texts_next f n) (puts_both x.puts y) }

-- ---- midpoints

abbrev midpoint : List Float → List ℕ → ℕ → ℕ → List ℕ
midpoint p r from j = p_line (from + j) (record_at r (from + j)) (point_at p (from + j))

pub record Midpoints (p : List Float) (r : List ℕ) (from to v : ℕ) (o : List ℕ) (at : ℕ) (o' : List ℕ) (e : ℕ) : Type 0 where
  pub after : from ≤ v
  pub within : v ≤ to
  pub fits : at + 116 * (to - from) ≤ 262144
  pub printed : Printed 116 (midpoint p r from) (v - from) o at o' e

pub midpoints_start : {p : List Float} {r : List ℕ} {from to : ℕ} {o : List ℕ} {at : ℕ} → PrintsMidpoints from to at → Midpoints p r from to from o at o at
midpoints_start {p} {r} {from} {o = o} {at} x = record { after = omega arith; within = x.within; fits = x.fits; printed = let z : from - from ≡ 0 = omega arith in rw z (printed_none 116 (midpoint p r from) o at) }

module _ {p : List Float} {r : List ℕ} {from to v : ℕ} {o : List ℕ} {at : ℕ} {o' : List ℕ} {e : ℕ} (x : Midpoints p r from to v o at o' e) where
  module _ (h : v < to) where
    pub midpoints_next : {o₂ : List ℕ} {g : ℕ} → Puts 116 o' e (p_line v (record_at r v) (point_at p v)) o₂ g → Midpoints p r from to (v + 1) o at o₂ g
    midpoints_next y =
        let z : v + 1 - from ≡ v - from + 1 = omega (arith, x.after) in
        let s : from + (v - from) ≡ v = omega (arith, x.after) in
        record { after = omega (arith, x.after); within = omega (arith, h); fits = x.fits; printed = rw z (printed_next x.printed (rw s y)) }

  pub midpoints_all : to ≤ v → Puts (116 * (to - from)) o at (p_lines p r from to) o' e
  unfolding p_lines
  midpoints_all h = let z : v ≡ to = omega (arith, x.within) in rw z at x.printed.puts

pub ruleset midpoints = (midpoints_start, midpoints_next, midpoints_all)

-- ---- leaves

pub record Leaves (w list levels : List ℕ) (j : ℕ) (o : List ℕ) (at : ℕ) (o' : List ℕ) (e : ℕ) : Type 0 where
  pub within : j ≤ length list
  pub ready : PrintsLeaves list levels at
  pub printed : Printed 191 (leaf_line w list levels) j o at o' e

pub leaves_start : {w list levels : List ℕ} {o : List ℕ} {at : ℕ} → PrintsLeaves list levels at → Leaves w list levels 0 o at o at
leaves_start {w} {list} {levels} {o = o} {at} x = record { within = omega arith; ready = x; printed = printed_none 191 (leaf_line w list levels) o at }

module _ {w list levels : List ℕ} {j : ℕ} {o : List ℕ} {at : ℕ} {o' : List ℕ} {e : ℕ} (x : Leaves w list levels j o at o' e) where
  module _ (h : j < length list) where
    pub leaves_next : {k level : ℕ} → k ≡ get_or list j 0 → level ≡ get_or levels j 0 → {o₂ : List ℕ} {g : ℕ} → Puts 191 o' e (l_line k (root_of w k) level (row_at w k)) o₂ g → Leaves w list levels (j + 1) o at o₂ g
    leaves_next q r y = record { within = omega (arith, h); ready = x.ready; printed = printed_next x.printed (rw (q, r) at y) }

  pub leaves_all : length list ≤ j → Puts (191 * length list) o at (l_lines w list levels (length list)) o' e
  unfolding l_lines
  leaves_all h = let z : j ≡ length list = omega (arith, x.within) in rw z at x.printed.puts
