-- The steps of the check put together: what each answer says of the whole.
use mathlib.Core.Path.{◌≡◌}
use mathlib.Core.Bool.{Bool, true, false}
use mathlib.Core.List.{List}
use Prim.Native.Nat.{ℕ, ◌+◌, ◌*◌, ◌≤◌}
use native.Mathlib.Omega.{arith}
use lib.ListN.{length, replicate, length-replicate}
use lib.Ieee.{Float}
use Rattle.tables.specs.Layout.{most_vertices}
use Rattle.tables.specs.declared.layout.Counts.{Counts}
use Rattle.tables.specs.Mesh.{mesh_of}
use Rattle.sound.specs.Sound.{Sound, Afresh}
use Rattle.sound.specs.Check.{Decides, lent}
use Rattle.sound.proofs.laws.Deciding.{decides_true, decides_false, decides_same}
use Rattle.std.proofs.Common.{Option, Some, None}
use Rattle.shape.specs.declared.answer.Runs.{Runs}
use Rattle.shape.specs.Shape.{Shapely, Shapes}
use Rattle.shape.proofs.laws.Fitted.{fitting_inside}
use Rattle.soundness.specs.Check.{memory_for, Run, Rising, Rest, Pairs, Clauses, AllRuled}
use Rattle.soundness.proofs.laws.Checked.{initials_of, roots_of, sound_of, clauses_of, whole_of}

module _ {p : List Float} {r w : List ℕ} {c : Counts} {i t : ℕ} (b : Shapely p r w c i t) where
  -- what the index of pairs relies on
  pub run_from : Run i c.vertices
  run_from = record { order = b.begun.initials.within; few = (fitting_inside b.begun.fitting).few_vertices }

  rising_from : AllRuled p r c i → Rising r i c.vertices
  rising_from s = record { rises = λ v h l. (s v h l).rising }

  -- without midpoints there is nothing to ask
  rest_none : c.vertices ≤ i → Rest p r w c i
  rest_none n = record { ruled = λ v h l. absurd (omega arith); pairs = record { single = λ v h l. absurd (omega arith); whole = λ q k. record { leaf = λ z v h l. absurd (omega arith) } } }

  clauses_from : Afresh (mesh_of (lent p r w) c) i t → Rest p r w c i → Clauses p r w c i t
  clauses_from a s =
      record {
        fitting = b.begun.fitting;
        unused = b.begun.unused;
        midpoints = b.half.midpoints;
        later = b.half.later;
        afresh = a;
        children = b.half.bred.children;
        parents = b.half.parents;
        ruled = s.ruled;
        single = s.pairs.single;
        used = b.half.bred.used;
      }

  sound_from : Afresh (mesh_of (lent p r w) c) i t → Rest p r w c i → Sound (lent p r w) c
  sound_from a s = sound_of b.begun.initials b.begun.roots (clauses_from a s) s.pairs.whole

  afresh_of : Sound (lent p r w) c → Afresh (mesh_of (lent p r w) c) i t
  afresh_of s = (clauses_of s b.begun.initials b.begun.roots).afresh

  rest_of : Sound (lent p r w) c → Rest p r w c i
  rest_of s =
      let x = clauses_of s b.begun.initials b.begun.roots in
      record { ruled = x.ruled; pairs = record { single = x.single; whole = whole_of s b.begun.initials b.begun.roots } }

  -- ---- the answers

  module _ {a : Bool} (x : Decides (Afresh (mesh_of (lent p r w) c) i t) a) where
    pub judge_stale : a ≡ false → Decides (Sound (lent p r w) c) false
    judge_stale e = decides_false (λ s. x.no e (afresh_of s))

    module _ (e : a ≡ true) where
      pub judge_roots : c.vertices ≤ i → Decides (Sound (lent p r w) c) true
      judge_roots n = decides_true (sound_from (x.yes e) (rest_none n))

      pub judge_pairs : {f : Bool} → Decides (AllRuled p r c i) f → f ≡ true → {q : Bool} → Decides (Pairs r w c i) q → Decides (Sound (lent p r w) c) q
      judge_pairs y g = decides_same (λ q. sound_from (x.yes e) (record { ruled = y.yes g; pairs = q })) (λ s. (rest_of s).pairs)

  module _ {f : Bool} (y : Decides (AllRuled p r c i) f) where
    pub judge_unruled : f ≡ false → Decides (Sound (lent p r w) c) f
    judge_unruled g = rw g (decides_false (λ s. y.no g (rest_of s).ruled))

    pub rising_ruled : f ≡ true → Rising r i c.vertices
    rising_ruled g = rising_from (y.yes g)

pub ruleset judging = (run_from, judge_stale, judge_roots, judge_pairs, judge_unruled, rising_ruled)

-- ---- what the shape says

module _ {p : List Float} {r w : List ℕ} {c : Counts} where
  shapely_sound : (s : Sound (lent p r w) c) → Shapely p r w c s.initials s.roots
  shapely_sound s =
      let ini = initials_of s in
      let roo = roots_of s in
      let x = clauses_of s ini roo in
      record {
        begun = record { fitting = s.fitting; unused = s.unused; initials = ini; roots = roo };
        half = record { midpoints = x.midpoints; later = x.later; bred = record { children = x.children; used = x.used }; parents = x.parents };
      }

  module _ {o : Option Runs} (x : Shapes p r w c o) where
    pub shape_runs : {s : Runs} → o ≡ Some s → Shapely p r w c s.initials s.roots
    shape_runs {s} e = x.runs s.initials s.roots e

    pub shape_not : o ≡ None → Decides (Sound (lent p r w) c) false
    shape_not e = decides_false (λ s. x.not e s.initials s.roots (shapely_sound s))

-- ---- the memory

-- zeros over any length, so that none are written out
pub enough_small : (rows n : ℕ) → n ≡ 60000 → rows ≤ 10000 → memory_for rows ≤ length (replicate {A = ℕ} n 0)
enough_small rows n e h = rw length-replicate (omega arith)

pub enough_large : (rows n : ℕ) → n ≡ 420000 → memory_for rows ≤ length (replicate {A = ℕ} n 0)
enough_large rows n e = rw length-replicate (omega arith)

-- enough for the index of opening
pub roots_enough : {p : List Float} {r w : List ℕ} {c : Counts} {i t n : ℕ} → Shapely p r w c i t → memory_for c.rows ≤ n → most_vertices + 4 * t ≤ n
roots_enough b h = omega (arith, b.begun.roots.within, (fitting_inside b.begun.fitting).few_rows)
