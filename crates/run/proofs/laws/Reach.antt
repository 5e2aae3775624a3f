-- What refining leaves one after the other leads to, and that the edge of the leaf that blocks comes first.
use Rattle.std.proofs.Common.{Some}
use mathlib.Core.Path.{◌≡◌, refl, sym, subst, ◌∙◌}
use mathlib.Core.Bool.{Bool, true, false}
use mathlib.Core.List.{List, []}
use mathlib.Core.Logic.{inl, inr}
use Prim.Native.Nat.{ℕ, zero, suc, ◌≤◌, ◌<◌}
use native.Mathlib.Omega.{arith}
use borrow.Author.Tests.{eq-eqb, ne_eqb}
use lib.Dec.{eqb}
use lib.ListN.{length, get_or}
use Rattle.split.specs.declared.point.Point.{Point}
use Rattle.split.proofs.laws.Places.{le_or_lt}
use Rattle.tables.specs.Layout.{no_record}
use Rattle.forest.specs.Element.{Element}
use Rattle.intake.specs.Search.{count}
use Rattle.sound.specs.Forest.{largest_in, element_within}
use Rattle.run.specs.Skeleton.{Skeleton, row_in, meshed}
use Rattle.run.specs.Ready.{Ready, Open, Reach, here, onward, edge_rank, rank_in}
use Rattle.run.specs.Run.{blocking, Run}
use Rattle.run.proofs.laws.Grows.{Grows, grows_same, grows_on}
use Rattle.run.proofs.laws.Runs.{Refined, rank_kept, block_open, block_falls, still_open, run_refined}

-- the set of all elements is closed, so nothing is asked of what is split
abbrev any : Element → Type 0
any e = Unit

pub run_grows : {P : List Point} {i t : ℕ} {S S' : Skeleton} {r : ℕ} → Run S r S' → Ready P i t S → length S'.records < 4294967295 → Open S r → Refined P i t S S' r any
run_grows {P} {i} {t} p y few o = run_refined P i t any p y few o (record { parents = λ k s q h. tt; edges = λ e u x s h. tt }) (λ e s. tt) tt

-- ---- leaf after leaf

record Led (S T : Skeleton) : Type 0 where
  from : (P : List Point) (i t : ℕ) → Ready P i t S → Ready P i t T × Grows (meshed P S) (meshed P T) i t

led_here : {S T : Skeleton} → T ≡ S → Led S T
led_here {S} e = subst (Led S) (sym e) (record { from = λ P i t y. (y, grows_same (meshed P S) i t) })

led_on : {S T U : Skeleton} {r : ℕ} → Led S T → Open T r → Run T r U → length U.records < 4294967295 → Led S U
led_on l o p few = record { from = λ P i t y. let (z, g) = l.from P i t y in let w = run_grows p z few o in (w.ready, grows_on g w.grows) }

led : {S T : Skeleton} → Reach S T → Led S T
led (here e) = led_here e
led (onward x o p few) = led_on (led x) o p few

pub reach_ready : {S T : Skeleton} {P : List Point} {i t : ℕ} → Reach S T → Ready P i t S → Ready P i t T
reach_ready {P = P} {i} {t} x y = ((led x).from P i t y).0

pub reach_grows : {S T : Skeleton} {P : List Point} {i t : ℕ} → Reach S T → Ready P i t S → Grows (meshed P S) (meshed P T) i t
reach_grows {P = P} {i} {t} x y = ((led x).from P i t y).1

pub reach_on : {S T U : Skeleton} → Reach S T → Reach T U → Reach S U
reach_on {S} x (here e) = subst (Reach S) (sym e) x
reach_on x (onward y o p few) = onward (reach_on x y) o p few

pub reach_run : {S T : Skeleton} {r : ℕ} → Open S r → Run S r T → length T.records < 4294967295 → Reach S T
reach_run o p few = onward (here refl) o p few

-- ---- the rank of an edge, told from the skeleton alone

count_front : (test : ℕ → Bool) (n k : ℕ) → k ≤ n → ((j : ℕ) → j < k → test j ≡ true) → ((j : ℕ) → k ≤ j → j < n → test j ≡ false) → count test n ≡ k
unfolding count
count_front test zero k h a b = omega arith
count_front test (suc n) k h a b = elim (le_or_lt k n) [
  | inl l ↦ rw (b n l (omega arith), count_front test n k l a (λ j x y. b j x (omega arith))) (omega arith)
  | inr l ↦ let e : k ≡ suc n = omega arith in rw (a n l, count_front test n n (omega arith) (λ j x. a j (omega arith)) (λ j x y. absurd (omega arith))) (omega arith)
]

within_pointless : (P : List Point) (S : Skeleton) (t steps r : ℕ) → element_within (meshed [] S) t steps r ≡ element_within (meshed P S) t steps r
unfolding element_within
within_pointless P S t zero r = refl
within_pointless P S t (suc steps) r = rw (within_pointless P S t steps (row_in S.rows r).parent)

rank_pointless : (P : List Point) (S : Skeleton) (i t r : ℕ) → edge_rank (meshed [] S) i t r ≡ edge_rank (meshed P S) i t r
unfolding largest_in
rank_pointless P S i t r = rw (within_pointless P S t r r)

module _ {P : List Point} {i t : ℕ} {S : Skeleton} (y : Ready P i t S) where
  initials_are : count (λ v. eqb (get_or S.records v no_record).second 4294967295) (length S.records) ≡ i
  initials_are = let p = y.grown.parted in count_front _ (length S.records) i p.vertices_in (λ v h. eq-eqb _ _ (p.initial v h)) (λ v h l. ne_eqb _ _ (p.midpoints v h l))

  roots_are : count (λ q. eqb (row_in S.rows q).parent q) (length S.rows) ≡ t
  roots_are = let p = y.grown.parted in count_front _ (length S.rows) t p.rows_in (λ q h. eq-eqb _ _ (p.roots q h)) (λ q h l. ne_eqb _ _ (p.children q h l))

  pub rank_in_lem : (r : ℕ) → rank_in S r ≡ edge_rank (meshed P S) i t r
  unfolding rank_in
  rank_in_lem r = rw (initials_are, roots_are) (rank_pointless P S i t r)

  -- the leaf that blocks has the smaller rank
  pub block_less : (r b : ℕ) → Open S r → blocking S.rows r ≡ Some b → rank_in S b < rank_in S r
  block_less r b o k = rw (rank_in_lem r, rank_in_lem b) (block_falls y r b o k)

  -- the leaf waits while the one that blocks it is refined
  pub waits : {T : Skeleton} (r b : ℕ) → Open S r → blocking S.rows r ≡ Some b → Run S b T → length T.records < 4294967295 → Open T r
  waits r b o k p few = still_open any y r b o k (run_grows p y few (block_open y r b o k))

-- the rank stays
pub rank_stays : {P : List Point} {i t : ℕ} {S T : Skeleton} → Ready P i t S → Reach S T → (r : ℕ) → r < length S.rows → rank_in T r ≡ rank_in S r
rank_stays y x r h = rank_in_lem (reach_ready x y) r ∙ rank_kept (reach_grows x y) r h ∙ sym (rank_in_lem y r)
