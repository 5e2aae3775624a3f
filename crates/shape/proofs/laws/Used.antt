-- Of clause 6: the flags tell which midpoints are used.
use mathlib.Core.Path.{◌≡◌, refl, sym, ap, ◌∙◌}
use mathlib.Core.Logic.{◌⊎◌, inl, inr}
use mathlib.Core.Bool.{Bool, true, false, true≢false}
use mathlib.Core.List.{List}
use Prim.Native.Nat.{ℕ, ◌+◌, ◌≤◌, ◌<◌}
use native.Mathlib.Decide.{ℕ_discrete}
use native.Mathlib.Omega.{arith}
use lib.ListN.{length, get_or, set, length-set, replicate, length-replicate, get_or-replicate, get_or-eq_default}
use lib.Seq.{get_or-set_same, get_or-set_other, set_out}
use Rattle.split.specs.declared.row.Row.{Row}
use Rattle.split.specs.Split.{far}
use Rattle.split.specs.Row.{read_tag, corners_of}
use Rattle.split.proofs.laws.Places.{le_or_lt}
use Rattle.tables.specs.declared.layout.Counts.{Counts}
use Rattle.tables.specs.Layout.{row_at}
use Rattle.sound.specs.Sound.{Child}
use Rattle.sound.specs.Check.{Decides, bare}
use Rattle.sound.proofs.laws.Deciding.{Swept, swept_none, swept_on, swept_all, swept_failed, decides_same}
use Rattle.shape.specs.Shape.{middle_at, Marked, Followed, AllUsed}
use Rattle.shape.proofs.laws.Family.{mesh_rows}

-- the midpoint of a row, as the code reads it
pub middle_is : (w : List ℕ) (r : ℕ) {k x v : ℕ} {held parent : Row} → held ≡ row_at w r → k ≡ held.parent → parent ≡ row_at w k → x ≡ far (read_tag parent.tag) (corners_of held) → v ≡ x → v ≡ middle_at w r
middle_is w r e q p f g = rw (g, f, p, q, e)

-- the midpoints of the rows from t on, below r, are set, and no others
pub record Marking (w : List ℕ) (t n r : ℕ) (before flags : List ℕ) : Type 0 where
  pub reached : t ≤ r
  pub size : length flags ≡ length before
  pub shown : (q : ℕ) → t ≤ q → q < r → middle_at w q < length flags → get_or flags (middle_at w q) 0 ≡ 0 → ⊥
  pub only : (v : ℕ) → (get_or flags v 0 ≡ 0 → ⊥) → (q : ℕ) × (t ≤ q) × (q < n) × (middle_at w q ≡ v)

pub marking_start : (w : List ℕ) (t n : ℕ) {flags : List ℕ} → ((v : ℕ) → get_or flags v 0 ≡ 0) → Marking w t n t flags flags
marking_start w t n z = record { reached = omega arith; size = refl; shown = λ q h l. absurd (omega arith); only = λ v d. absurd (d (z v)) }

module _ {w : List ℕ} {t n r m : ℕ} {before flags : List ℕ} (k : Marking w t n r before flags) (h : r < n) (e : m ≡ middle_at w r) where
  marking_set : m < length flags → Marking w t n (r + 1) before (set flags m 1)
  marking_set l = record { reached = omega (arith, k.reached); size = length-set flags m 1 ∙ k.size; shown = λ q f b s. shows q f b (rw length-set at s) (ℕ_discrete (middle_at w q) m); only = λ v d. from v d (ℕ_discrete v m) }
    where
      shows : (q : ℕ) → t ≤ q → q < r + 1 → middle_at w q < length flags → Dec (middle_at w q ≡ m) → get_or (set flags m 1) (middle_at w q) 0 ≡ 0 → ⊥
      shows q f b s (yes i) z =
          let y : get_or (set flags m 1) m 0 ≡ 0 = rw i at z in
          omega (arith, get_or-set_same flags m 1 0 l)
      shows q f b s (no i) z = k.shown q f (earlier (ℕ_discrete q r)) s (sym (get_or-set_other flags m (middle_at w q) 1 0 i) ∙ z)
        where
          earlier : Dec (q ≡ r) → q < r
          earlier (yes j) = absurd (i (ap (middle_at w) j ∙ sym e))
          earlier (no j) = omega arith

      from : (v : ℕ) → (get_or (set flags m 1) v 0 ≡ 0 → ⊥) → Dec (v ≡ m) → (q : ℕ) × (t ≤ q) × (q < n) × (middle_at w q ≡ v)
      from v d (yes i) = (r, k.reached, h, sym e ∙ sym i)
      from v d (no i) = k.only v (λ z. d (get_or-set_other flags m v 1 0 i ∙ z))

  -- a midpoint without a flag
  marking_out : length flags ≤ m → Marking w t n (r + 1) before flags
  marking_out l = record { reached = omega (arith, k.reached); size = k.size; shown = λ q f b s. shows q f b s (ℕ_discrete q r); only = k.only }
    where
      shows : (q : ℕ) → t ≤ q → q < r + 1 → middle_at w q < length flags → Dec (q ≡ r) → get_or flags (middle_at w q) 0 ≡ 0 → ⊥
      shows q f b s (yes j) z =
          let y : middle_at w r < length flags = rw j at s in
          omega arith
      shows q f b s (no j) z = k.shown q f (omega arith) s z

  -- what is past the end is not stored
  pub marking_next : {after : List ℕ} → after ≡ set flags m 1 → Marking w t n (r + 1) before after
  marking_next {after} f = go (le_or_lt (length flags) m)
    where
      go : (length flags ≤ m) ⊎ (m < length flags) → Marking w t n (r + 1) before after
      go (inl l) = rw (f ∙ set_out flags m 1 l) (marking_out l)
      go (inr l) = rw f (marking_set l)

pub marking_done : {w : List ℕ} {t n r : ℕ} {before flags : List ℕ} → Marking w t n r before flags → n ≤ r → Marked w t n flags
marking_done k l = record { set = λ q f b. k.shown q f (omega arith); only = k.only }

-- ---- the rows from t on, asked one after the other, with the flags of their midpoints

pub record Following (r w : List ℕ) (c : Counts) (i t k : ℕ) (before flags : List ℕ) : Type 0 where
  pub asked : Swept (Child (bare r w c) i) t k
  pub marking : Marking w t c.rows k before flags

pub following_none : {r w flags : List ℕ} {c : Counts} {i t : ℕ} → ((v : ℕ) → get_or flags v 0 ≡ 0) → Following r w c i t t flags flags
following_none {t = t} z = record { asked = swept_none t; marking = marking_start _ _ _ z }

module _ {r w : List ℕ} {c : Counts} {i t k : ℕ} {before flags : List ℕ} (f : Following r w c i t k before flags) where
  pub following_all : c.rows ≤ k → Followed r w c i t true flags
  following_all l = record { decides = swept_all f.asked (rw (mesh_rows r w c) l); marked = λ e. marking_done f.marking l }

  module _ (l : k < c.rows) {y : Bool} (d : Decides (Child (bare r w c) i k) y) where
    pub following_stop : y ≡ false → Followed r w c i t false flags
    following_stop e = record { decides = swept_failed f.asked (rw (mesh_rows r w c) l) (d.no e); marked = λ b. absurd (true≢false (sym b)) }

    pub following_on : {m : ℕ} {after : List ℕ} → y ≡ true → m ≡ middle_at w k → after ≡ set flags m 1 → Following r w c i t (k + 1) before after
    following_on e g h = record { asked = swept_on f.asked (d.yes e); marking = marking_next f.marking l g h }

-- ---- all of them

pub zeros_at : (n v : ℕ) → ◌≡◌ {A = ℕ} (get_or (replicate n 0) v 0) 0
zeros_at n v = go (le_or_lt n v)
  where
    go : (n ≤ v) ⊎ (v < n) → ◌≡◌ {A = ℕ} (get_or (replicate n 0) v 0) 0
    go (inl h) = get_or-eq_default (replicate n 0) 0 (omega (arith, length-replicate {A = ℕ} n 0))
    go (inr h) = get_or-replicate n v 0 0 h

pub used_marked : {w flags : List ℕ} (c : Counts) {i t : ℕ} {r : Bool} → Marked w t c.rows flags → c.vertices ≤ length flags
    → Decides ((v : ℕ) → i ≤ v → v < c.vertices → get_or flags v 0 ≡ 0 → ⊥) r → Decides (AllUsed w c i t) r
used_marked {w} {flags} c {i} {t} m few d = decides_same (λ f v a b. m.only v (f v a b)) (λ u v a b e. go v b e (u v a b)) d
  where
    go : (v : ℕ) → v < c.vertices → get_or flags v 0 ≡ 0 → (k : ℕ) × (t ≤ k) × (k < c.rows) × (middle_at w k ≡ v) → ⊥
    go v l e u = m.set u.0 u.1 u.2 (rw u.3 (omega arith)) (rw u.3 e)
