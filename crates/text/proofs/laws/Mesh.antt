-- The text of a refined mesh, put together.
use mathlib.Core.Path.{◌≡◌, refl, sym, ◌∙◌}
use mathlib.Core.List.{List, ◌++◌, map}
use mathlib.Core.Logic.{inl, inr}
use Prim.Native.Nat.{ℕ, zero, suc, ◌+◌, ◌-◌, ◌*◌, ◌≤◌, ◌<◌}
use native.Mathlib.Omega.{arith}
use lib.Ieee.{Float}
use lib.Seq.{take_at}
use lib.ListN.{length, take, replicate, length-map}
use Rattle.split.specs.declared.row.Row.{Row}
use Rattle.tables.specs.declared.layout.Counts.{Counts}
use Rattle.tables.specs.Layout.{room_of, sized}
use Rattle.tables.specs.Mesh.{Lent, mesh_of}
use Rattle.tables.specs.Report.{done}
use Rattle.opening.proofs.laws.Counting.{count_below}
use Rattle.sound.specs.Check.{lent}
use Rattle.closure.specs.declared.answer.Refined.{Refined}
use Rattle.closure.specs.Refine.{Refines}
use Rattle.closure.proofs.laws.Accepted.{accepted_sound, accepted_counted, accepted_points, accepted_records, accepted_rows}
use Rattle.std.specs.Prelude.{Result, Ok, Err}
use Rattle.tables.specs.declared.refusal.Refusal.{Refusal}
use Rattle.leaves.specs.Listing.{level_in, listing}
use Rattle.leaves.specs.Lists.{Accepts, Lists, unsound, sound, short, fits}
use Rattle.leaves.specs.Walk.{leaf_at}
use Rattle.leaves.proofs.laws.Promise.{done_same, done_never}
use Rattle.leaves.proofs.laws.Sound.{sound_listable}
use Rattle.text.specs.Output.{p_lines, l_lines, texts}
use Rattle.text.specs.Putting.{Puts}
use Rattle.text.specs.Printing.{PrintsLeaves}
use Rattle.text.specs.Program.{headline, leaf_lines, refined_text}
use Rattle.text.specs.Working.{Held, Listable, Printable, Finished, Finishes}
use Rattle.text.proofs.laws.Putting.{puts_both}

-- ---- how much there is of a mesh in tables of 512 vertices and 768 rows

room_is : room_of 1536 1024 6144 ≡ sized 512 768
unfolding room_of
room_is = refl

module _ {t : Lent} {c : Counts} (h : Held t c) where
  held_room : room_of (length t.points) (length t.records) (length t.rows) ≡ sized 512 768
  held_room = rw (h.points, h.records, h.rows) room_is

  vertices_few : c.vertices ≤ 512
  vertices_few = rw held_room at h.sound.fitting.vertices_fit

  rows_few : c.rows ≤ 768
  rows_few = rw held_room at h.sound.fitting.rows_fit

leaves_few : {p : List Float} {r w : List ℕ} {c : Counts} → Held (lent p r w) c → length (listing (mesh_of (lent p r w) c).rows) ≤ 768
unfolding mesh_of
leaves_few {w = w} {c} h = omega (arith, (sound_listable h.sound).size, count_below (leaf_at w) c.rows, rows_few h)

-- ---- the L lines

pub texts_same : (f g : ℕ → List ℕ) (n : ℕ) → ((j : ℕ) → j < n → f j ≡ g j) → texts f n ≡ texts g n
unfolding texts
texts_same f g zero s = refl
texts_same f g (suc n) s = rw (texts, s n (omega arith), texts_same f g n (λ j h. s j (omega arith)))

module _ {p : List Float} {r w : List ℕ} {c : Counts} {at : ℕ} (x : Listable (lent p r w) c at) {l v : List ℕ} {a : Result ℕ Refusal} {l' v' : List ℕ} (o : Lists (lent p r w) c l v a l' v') (el : length l ≡ 768) (ev : length v ≡ 768) where
  abbrev W : List Row
  W = (mesh_of (lent p r w) c).rows

  abbrev L : List ℕ
  L = listing W

  few : length L ≤ 768
  few = leaves_few x.held

  got : Accepts W l v a l' v'
  got = go o
    where
      go : Lists (lent p r w) c l v a l' v' → Accepts W l v a l' v'
      go (unsound n y) = absurd (n x.held.sound)
      go (sound s (short (inl z) y)) = absurd (omega (arith, z, few, el))
      go (sound s (short (inr z) y)) = absurd (omega (arith, z, few, ev))
      go (sound s (fits n y)) = y

  -- so the listing does not refuse
  pub listed_not : {q : Refusal} → a ≡ Err q → {k i j : ℕ} {b d f : List ℕ} → Puts k b i d f j
  listed_not z = done_never (sym z ∙ got.answers)

  module _ {n : ℕ} (z : a ≡ Ok n) where
    all : n ≡ length L
    all = done_same (sym z ∙ got.answers)

    list_is : take n l' ≡ L
    list_is = rw (all, got.list_is) (take_at L (replicate (length l - length L) 0) (length L) refl)

    level_count : length (map (level_in W) L) ≡ length L
    level_count = length-map L (level_in W)

    levels_are : take n v' ≡ map (level_in W) L
    levels_are = rw (all, got.levels_is) (take_at (map (level_in W) L) (replicate (length v - length (map (level_in W) L)) 0) (length L) level_count)

    pub listed_ready : PrintsLeaves (take n l') (take n v') at
    listed_ready = record { levelled = rw (list_is, levels_are) level_count; fits = rw list_is (omega (arith, x.room.fits, few)) }

    pub listed_put : {o' o₂ : List ℕ} {e : ℕ} → Puts (191 * length (take n l')) o' at (l_lines w (take n l') (take n v') (length (take n l'))) o₂ e → Puts 146688 o' at (leaf_lines (lent p r w) c) o₂ e
    unfolding leaf_lines
    listed_put y = let q : Puts (191 * length L) _ at (l_lines w L (map (level_in W) L) (length L)) _ _ = rw (list_is, levels_are) at y in record { stores = q.stores; ends = q.ends; few = omega (arith, q.few, few) }

pub ruleset listing_laws = (listed_not, listed_ready, listed_put)

-- ---- the whole mesh

module _ {p : List Float} {r w : List ℕ} {c : Counts} {initial : ℕ} (x : Printable (lent p r w) c initial) {head : List ℕ} {o o₁ : List ℕ} {at e : ℕ} (empty : at ≡ 0) (y : Puts 86 o at head o₁ e) where
  module _ {o₂ : List ℕ} {f : ℕ} (z : Puts (116 * (c.vertices - initial)) o₁ e (p_lines p r initial c.vertices) o₂ f) where
    pub mesh_put : (v : Refined) → v.counts ≡ c → head ≡ headline (done v.counts v.splits) → {o₃ : List ℕ} {g : ℕ} → Puts 146688 o₂ f (leaf_lines (lent p r w) c) o₃ g → Puts 262144 o at (refined_text initial (Ok v) (lent p r w)) o₃ g
    unfolding refined_text
    mesh_put v same s q =
        let a : Puts (86 + 116 * (c.vertices - initial) + 146688) o at (head ++ p_lines p r initial c.vertices ++ leaf_lines (lent p r w) c) _ _ = puts_both (puts_both y z) q in
        rw (← s, same) (record { stores = a.stores; ends = a.ends; few = omega (arith, a.few, vertices_few x.held) })

-- ---- refining once

module _ {t : Lent} {c : Counts} (h : Held t c) {marks : List ℕ} {a : Result Refined Refusal} {t' : Lent} (x : Refines t c marks a t') where
  module _ {w : Refined} (z : a ≡ Ok w) where
    done_refines : Refines t c marks (Ok w) t'
    done_refines = rw z at x

    pub once_ready : Printable t' w.counts c.vertices
    once_ready = record {
      held = record {
        sound = (accepted_sound h.sound done_refines).sound;
        points = accepted_points h.sound done_refines ∙ h.points;
        records = accepted_records h.sound done_refines ∙ h.records;
        rows = accepted_rows h.sound done_refines ∙ h.rows;
      };
      initials = (accepted_counted h.sound done_refines).vertices;
    }

    pub once_done : {o o' : List ℕ} {e : ℕ} → Puts 262144 o 0 (refined_text c.vertices (Ok w) t') o' e → Finishes t c marks o (Ok e) o'
    once_done {o} {o'} {e} y = record { done = λ e' q. let s : e ≡ e' = cc in rw (← s) finished; refuses = λ q z. let n : ◌≡◌ {A = ℕ} 0 1 = cc in absurd (omega (arith, n)) }
      where
        finished : Finished t c marks o e o'
        finished = record { text = refined_text c.vertices (Ok w) t'; refining = record { answer = Ok w; after = t'; refines = done_refines; prints = refl }; puts = y }

  pub once_refused : {q : Refusal} → a ≡ Err q → {r : Result ℕ Refusal} → r ≡ Err q → {o : List ℕ} → Finishes t c marks o r o
  unfolding refined_text
  once_refused {q} z e = record {
    done = λ k s. let n : ◌≡◌ {A = ℕ} 0 1 = cc in absurd (omega (arith, n));
    refuses = λ p s. let k : q ≡ p = cc in (refl, record { answer = Err q; after = t'; refines = rw z at x; prints = rw k });
  }

pub ruleset once = (once_ready, once_done, once_refused)
