-- What refining one leaf does: sound tables stay so, the leaf is split, everything split lies in every closed set that holds what was split before and the leaf, and no edge of a later generation is halved.
use Rattle.std.proofs.Common.{None, Some}
use mathlib.Core.Path.{◌≡◌, sym, ap, subst, ◌∙◌}
use mathlib.Core.List.{List, [], ◌∷◌, Memᴰ}
use mathlib.Core.Logic.{◌⊎◌, inl, inr}
use Prim.Native.Nat.{ℕ, ◌+◌, ◌≤◌, ◌<◌}
use native.Mathlib.Decide.{ℕ_discrete}
use native.Mathlib.Omega.{arith}
use lib.ListN.{length, length-append}
use Rattle.split.specs.declared.row.Row.{Row}
use Rattle.split.specs.declared.point.Point.{Point}
use Rattle.split.specs.Row.{edge_of}
use Rattle.tables.specs.Mesh.{Mesh}
use Rattle.forest.specs.Element.{Element}
use Rattle.forest.specs.Closed.{Closed}
use Rattle.sound.specs.Sound.{rows}
use Rattle.sound.specs.Forest.{forest_of, element_of}
use Rattle.run.specs.Skeleton.{Skeleton, row_in, meshed}
use Rattle.run.specs.Ready.{Ready, Open, edge_rank}
use Rattle.run.specs.Run.{holders, blocking, record_for, split_patch, Run, clear, blocked}
use Rattle.run.proofs.laws.Holders.{holders_only, holders_has, other_listed}
use Rattle.run.proofs.laws.Edge.{Both, own_both, edge_shallow, edge_falls, edge_most}
use Rattle.run.proofs.laws.Grows.{Grows, grows_on}
use Rattle.run.proofs.laws.Needs.{Inside, held_forced}
use Rattle.run.proofs.laws.Patched.{Split, Patched}
use Rattle.run.proofs.laws.Patch.{patch_patched}
use Rattle.run.proofs.laws.PatchReady.{patch_ready}

pub record Refined (P : List Point) (i t : ℕ) (S S' : Skeleton) (r : ℕ) (Z : Element → Type 0) : Type 0 where
  pub ready : Ready P i t S'
  pub grows : Grows (meshed P S) (meshed P S') i t
  pub split : (row_in S'.rows r).child ≡ 0 → ⊥
  pub falls : (q : ℕ) → q < length S'.rows → ((row_in S'.rows q).child ≡ 0 → ⊥) → Split (meshed P S) q ⊎ (edge_rank (meshed P S') i t q ≤ edge_rank (meshed P S) i t r)
  pub inside : Inside (meshed P S') t Z

pub rank_kept : {m m' : Mesh} {i t : ℕ} → Grows m m' i t → (r : ℕ) → r < rows m → edge_rank m' i t r ≡ edge_rank m i t r
rank_kept g r h = rw (g.largest, g.colour, g.forest, g.element r h)

-- a run only appends records
pub run_records : {S S' : Skeleton} {r : ℕ} → Run S r S' → length S.records + 1 ≤ length S'.records
unfolding split_patch
run_records {S} {S'} {r} (clear b e) = rw e (omega (arith, length-append S.records (record_for (edge_of (row_in S.rows r)) ∷ [])))
run_records (blocked b p q) = omega (arith, run_records p, run_records q)

-- a leaf of the patch of r's edge
both_of : (W : List Row) (r q : ℕ) → Memᴰ q (holders W (edge_of (row_in W r))) → (q < length W) × Both (row_in W q) (edge_of (row_in W r))
both_of W r q k = let h = holders_only W (edge_of (row_in W r)) q k in (h.there, record { small = h.holding.small; large = h.holding.large })

-- ---- the leaf that blocks

block_listed : (W : List Row) (r b : ℕ) → blocking W r ≡ Some b → Memᴰ b (holders W (edge_of (row_in W r))) × (edge_of (row_in W b) ≡ edge_of (row_in W r) → ⊥)
block_listed W r b k = other_listed W (edge_of (row_in W r)) (holders W (edge_of (row_in W r))) b k

block_both : (W : List Row) (r b : ℕ) → blocking W r ≡ Some b → Both (row_in W b) (edge_of (row_in W r))
block_both W r b k = (both_of W r b (block_listed W r b k).0).1

module _ {P : List Point} {i t : ℕ} {S : Skeleton} (y : Ready P i t S) (r b : ℕ) (o : Open S r) (k : blocking S.rows r ≡ Some b) where
  pub block_open : Open S b
  block_open =
      let h = holders_only S.rows (edge_of (row_in S.rows r)) b (block_listed S.rows r b k).0 in
      record { there = h.there; leaf = h.holding.leaf; shallow = edge_shallow y.grown b r h.there o.there (block_both S.rows r b k) o.shallow }

  pub block_falls : edge_rank (meshed P S) i t b < edge_rank (meshed P S) i t r
  block_falls = edge_falls y.grown b r block_open.there o.there (block_both S.rows r b k) (block_listed S.rows r b k).1

module _ {P : List Point} {i t : ℕ} (Z : Element → Type 0) where
  -- the leaf that blocks is forced
  pub block_forced : {S : Skeleton} → Ready P i t S → Closed (forest_of (meshed P S) t) Z → Inside (meshed P S) t Z → (r b : ℕ) → Open S r → blocking S.rows r ≡ Some b → Z (element_of (meshed P S) t r) → Z (element_of (meshed P S) t b)
  block_forced {S} y c d r b o k z = held_forced Z y.grown c d b r (block_open y r b o k).there o.there (block_both S.rows r b k) z

  -- the leaf waits while the one that blocks it is refined
  pub still_open : {S T : Skeleton} → Ready P i t S → (r b : ℕ) → Open S r → blocking S.rows r ≡ Some b → Refined P i t S T b Z → Open T r
  still_open {S} {T} y r b o k w =
      let same = w.grows.row r o.there in
      let there : r < length T.rows = omega (arith, o.there, w.grows.more_rows) in
      record {
        there = there;
        leaf = elim (ℕ_discrete (row_in T.rows r).child 0) [
          | yes l ↦ l
          | no d ↦ absurd (elim (w.falls r there d) [
            | inl s ↦ s.split o.leaf
            | inr l ↦ omega (arith, l, block_falls y r b o k, rank_kept w.grows r o.there)
          ])
        ];
        shallow = rw (ap (λ (x : Row). x.depth) same) o.shallow;
      }

  clear_refined : {S : Skeleton} {r : ℕ} → Ready P i t S → length S.records + 1 < 4294967295 → Open S r → Closed (forest_of (meshed P S) t) Z → Inside (meshed P S) t Z → Z (element_of (meshed P S) t r)
      → blocking S.rows r ≡ None → Refined P i t S (split_patch S r) r Z
  clear_refined {S} {r} y few o c d z k = record {
    ready = patch_ready y few r o.there o.leaf o.shallow k;
    grows = p.grows;
    split = p.gone r own;
    falls = λ q h n. elim (p.splits q h n) [ inl s ↦ inl s | inr j ↦ inr (late q j) ];
    inside = λ e s. elim (p.splits s.row s.there s.split) [
      | inl w ↦ d e (record { row = s.row; there = w.there; split = w.split; is = sym (p.grows.element s.row w.there) ∙ s.is })
      | inr j ↦ let (h, both) = both_of S.rows r s.row j in subst Z (sym (p.grows.element s.row h) ∙ s.is) (held_forced Z y.grown c d s.row r h o.there both z)
    ];
  }
    where
      p : Patched (meshed P S) (meshed P (split_patch S r)) i t (length S.records) (holders S.rows (edge_of (row_in S.rows r)))
      p = patch_patched y few r o.there o.leaf o.shallow k

      own : Memᴰ r (holders S.rows (edge_of (row_in S.rows r)))
      own = let b = own_both (row_in S.rows r) in holders_has S.rows (edge_of (row_in S.rows r)) r (record { there = o.there; holding = record { leaf = o.leaf; small = b.small; large = b.large } })

      late : (q : ℕ) → Memᴰ q (holders S.rows (edge_of (row_in S.rows r))) → edge_rank (meshed P (split_patch S r)) i t q ≤ edge_rank (meshed P S) i t r
      late q j = let (h, both) = both_of S.rows r q j in omega (arith, rank_kept p.grows q h, edge_most y.grown q r h o.there both)

  blocked_refined : {S T S' : Skeleton} {r b : ℕ} → Ready P i t S → Open S r → blocking S.rows r ≡ Some b → Refined P i t S T b Z → Refined P i t T S' r Z → Refined P i t S S' r Z
  blocked_refined {S} {T} {S'} {r} {b} y o k u w = record {
    ready = w.ready;
    grows = grows_on u.grows w.grows;
    split = w.split;
    falls = λ q h n. elim (w.falls q h n) [
      | inr l ↦ inr (omega (arith, l, rank_kept u.grows r o.there))
      | inl s ↦ elim (u.falls q s.there s.split) [ inl x ↦ inl x | inr l ↦ inr (omega (arith, l, block_falls y r b o k, rank_kept w.grows q s.there)) ]
    ];
    inside = w.inside;
  }

module _ (P : List Point) (i t : ℕ) (Z : Element → Type 0) where
  -- what a run from S leads to
  record Leads (S : Skeleton) (r : ℕ) (S' : Skeleton) : Type 0 where
    from : Ready P i t S → length S'.records < 4294967295 → Open S r → Closed (forest_of (meshed P S) t) Z → Inside (meshed P S) t Z → Z (element_of (meshed P S) t r) → Refined P i t S S' r Z

  clear_leads : {S S' : Skeleton} {r : ℕ} → blocking S.rows r ≡ None → S' ≡ split_patch S r → Leads S r S'
  clear_leads {S} {S'} {r} k e = record { from = λ y few o c d z. subst (λ (x : Skeleton). Refined P i t S x r Z) (sym e) (clear_refined Z y (omega (arith, few, run_records (clear k e))) o c d z k) }

  blocked_leads : {S T S' : Skeleton} {r b : ℕ} → blocking S.rows r ≡ Some b → Run T r S' → Leads S b T → Leads T r S' → Leads S r S'
  blocked_leads {S} {T} {S'} {r} {b} k q f g = record {
    from = λ y few o c d z.
        let u = f.from y (omega (arith, few, run_records q)) (block_open y r b o k) c d (block_forced Z y c d r b o k z) in
        let w = g.from u.ready few (still_open Z y r b o k u) (rw u.grows.forest c) u.inside (rw (u.grows.element r o.there) z) in
        blocked_refined Z y o k u w;
  }

  leads : {S S' : Skeleton} {r : ℕ} → Run S r S' → Leads S r S'
  leads (clear k e) = clear_leads k e
  leads (blocked k p q) = blocked_leads k q (leads p) (leads q)

  pub run_refined : {S S' : Skeleton} {r : ℕ} → Run S r S' → Ready P i t S → length S'.records < 4294967295 → Open S r → Closed (forest_of (meshed P S) t) Z → Inside (meshed P S) t Z → Z (element_of (meshed P S) t r)
      → Refined P i t S S' r Z
  run_refined p = (leads p).from
