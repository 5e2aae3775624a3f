-- When refining refuses: each number exactly where its cause is present and none before it is (demand 1), and depth or room exactly if the smallest closed set over all marks so far asks for it (demand 3).
use Rattle.std.proofs.Common.{None, Some, Result}
use mathlib.Core.Path.{◌≡◌, refl, sym, ap, subst, ◌∙◌}
use mathlib.Core.Bool.{false, true≢false}
use mathlib.Core.List.{List, ◌∷◌}
use mathlib.Core.Logic.Iff
use mathlib.Core.Logic.{◌↔◌, ◌⊎◌, ⊎_elim, inl, inr}
use Prim.Native.Nat.{ℕ}
use lib.Dec.{eqb}
use lib.ListN.{length}
use borrow.Author.Tests.{eq-eqb}
use Rattle.tables.specs.declared.refusal.Cause.{Cause}
use Rattle.tables.specs.declared.refusal.Cause.TheVariants.{Depth, Mark, Room, Unsound}
use Rattle.tables.specs.declared.refusal.Refusal.{Refusal}
use Rattle.tables.specs.Refusal.{number_of, refused}
use Rattle.tables.specs.declared.layout.Counts.{Counts}
use Rattle.tables.specs.declared.layout.Size.{Size}
use Rattle.tables.specs.Mesh.{Lent, mesh_of}
use Rattle.forest.specs.Element.{Name, Forest, Element}
use Rattle.forest.proofs.History.{since_forced, nothing_before}
use Rattle.intake.specs.Search.{first}
use Rattle.intake.specs.First.{FirstAt, Nowhere}
use Rattle.intake.proofs.laws.First.{found_never, found_one, first_found, found_first, none_first, first_nowhere}
use Rattle.sound.specs.Sound.{Sound}
use Rattle.run.specs.Demand.{DeepIn, HalvedIn, OutgrowsIn, rows, vertices, marked_elements, Needed, Deep, MarkedDeep, Outgrows}
use Rattle.run.proofs.laws.Calls.{needed_called}
use Rattle.closure.specs.declared.answer.Refined.{Refined}
use Rattle.closure.specs.Refine.{refined_to, absent, room_in, Engine, OnRoom, outgrown, fits, OnDepth, deep, shallow, OnMarks, missing, present, RefinesBy, unsound, sound}
use Rattle.closure.specs.History.{Since, History, SinceMarks, WithMarks, RefusedExactly}
use Rattle.closure.proofs.laws.Judged.{deep_by_marks}
use Rattle.closure.proofs.laws.History.{since_held}
use Rattle.closure.proofs.laws.Promise.{done_never, judged_by, same_cause, same_place}

-- two causes with two numbers
differ : {X : Type 0} {a b : Cause} → eqb (number_of a) (number_of b) ≡ false → a ≡ b → X
differ f e = absurd (true≢false (sym (eq-eqb _ _ (ap number_of e)) ∙ f))

-- ---- depth and room of two sets with the same members

module _ {S T : Element → Type 0} (same : (e : Element) → S e ↔ T e) where
  deep_along : DeepIn S → DeepIn T
  deep_along d = record { element = d.element; needed = (same d.element).0 d.needed; deep = d.deep }

  halved_along : {F : Forest} {x : Name} → HalvedIn F S x → HalvedIn F T x
  halved_along h = record { element = h.element; needed = (same h.element).0 h.needed; is = h.is }

  outgrows_along : {room : Size} {F : Forest} {i : ℕ} → OutgrowsIn room F i S → OutgrowsIn room F i T
  outgrows_along (rows es once all o) = rows es once (λ e k. (same e).0 (all e k)) o
  outgrows_along (vertices xs once all o) = vertices xs once (λ x k. halved_along (all x k)) o

either_iff : {A A' B B' : Type 0} → A ↔ A' → B ↔ B' → (A ⊎ B) ↔ (A' ⊎ B')
either_iff f g = (⊎_elim (λ a. inl (f.0 a)) (λ b. inr (g.0 b)), ⊎_elim (λ a. inl (f.1 a)) (λ b. inr (g.1 b)))

-- ---- the answer of a call whose marks are all rows

module _ {E : Engine} {t : Lent} {c : Counts} {i roots : ℕ} {marks : List ℕ} {r : Result Refined Refusal} {t' : Lent} where
  marks_there : first (absent c.rows marks) (length marks) ≡ None → OnMarks E t c i roots marks r t' → OnDepth E t c i roots marks r t'
  marks_there e (missing p f x) = found_never f e
  marks_there e (present f x) = x

  room_number : {n : Cause} {p : ℕ} → OnRoom E t c i roots marks r t' → r ≡ refused n p → n ≡ Room
  room_number (outgrown o x) e = sym (same_cause (sym x.answers ∙ e))
  room_number (fits o x) e = done_never (sym x.answers ∙ e)

  depth_exact : OnDepth E t c i roots marks r t' → r ≡ refused Depth 0 ↔ Deep (mesh_of t c) roots marks
  depth_exact (deep d x) = (λ e. d, λ d'. x.answers)
  depth_exact (shallow n x) = (λ e. differ refl (room_number x e), λ d. absurd (n d))

  room_exact : (Deep (mesh_of t c) roots marks → ⊥) → OnDepth E t c i roots marks r t' → r ≡ refused Room 0 ↔ Outgrows (room_in t) (mesh_of t c) i roots marks
  room_exact not (deep d x) = absurd (not d)
  room_exact not (shallow n (outgrown o x)) = (λ e. o, λ o'. x.answers)
  room_exact not (shallow n (fits o x)) = (λ e. done_never (sym x.answers ∙ e), λ o'. absurd (o o'))

  done_exact : (Deep (mesh_of t c) roots marks → ⊥) → (Outgrows (room_in t) (mesh_of t c) i roots marks → ⊥) → OnDepth E t c i roots marks r t' → (d : Counts) × (n : ℕ) × (r ≡ refined_to d n)
  done_exact not fit (deep d x) = absurd (not d)
  done_exact not fit (shallow n (outgrown o x)) = absurd (fit o)
  done_exact not fit (shallow n (fits o x)) = (_, _, x.answers)

  depth_or_room : OnDepth E t c i roots marks r t' → ((r ≡ refused Depth 0) ⊎ (r ≡ refused Room 0)) ↔ (Deep (mesh_of t c) roots marks ⊎ Outgrows (room_in t) (mesh_of t c) i roots marks)
  depth_or_room (deep d x) = (λ e. inl d, λ o. inl x.answers)
  depth_or_room (shallow n (outgrown o x)) = (λ e. inr o, λ o'. inr x.answers)
  depth_or_room (shallow n (fits f x)) = (⊎_elim (λ e. done_never (sym x.answers ∙ e)) (λ e. done_never (sym x.answers ∙ e)), ⊎_elim (λ d. absurd (n d)) (λ o. absurd (f o)))

  depth_number : {n : Cause} {p : ℕ} → OnDepth E t c i roots marks r t' → r ≡ refused n p → (n ≡ Depth) ⊎ (n ≡ Room)
  depth_number (deep d x) e = inl (sym (same_cause (sym x.answers ∙ e)))
  depth_number (shallow n x) e = inr (room_number x e)

-- ---- numbers 9 and 10 (demand 1), and 11 once they are past (02, L9)

module _ {E : Engine} {t : Lent} {c : Counts} {marks : List ℕ} {r : Result Refined Refusal} {t' : Lent} (x : RefinesBy E t c marks r t') where
  on_marks_lem : (s : Sound t c) → OnMarks E t c s.initials s.roots marks r t'
  on_marks_lem s = go x
    where
      go : RefinesBy E t c marks r t' → OnMarks E t c s.initials s.roots marks r t'
      go (unsound n y) = absurd (n s)
      go (sound s' y) = judged_by s s' y

  marks_number : {i roots p : ℕ} → OnMarks E t c i roots marks r t' → r ≡ refused Unsound p → ⊥
  marks_number (missing q f y) e = differ refl (same_cause (sym y.answers ∙ e))
  marks_number (present f y) e = ⊎_elim (differ refl) (differ refl) (depth_number y e)

  -- refused by 9 exactly if the tables are not sound (01, number 9)
  pub refused_unsound : r ≡ refused Unsound 0 ↔ (Sound t c → ⊥)
  refused_unsound = (λ e s. marks_number (on_marks_lem s) e, go x)
    where
      go : RefinesBy E t c marks r t' → (Sound t c → ⊥) → r ≡ refused Unsound 0
      go (unsound n y) f = y.answers
      go (sound s y) f = absurd (f s)

  -- refused by 10 at p exactly if the tables are sound and p is the first position of a mark that is not below the row count at entry (01, number 10)
  pub refused_absent : (s : Sound t c) (p : ℕ) → r ≡ refused Mark p ↔ FirstAt (absent c.rows marks) (length marks) p
  refused_absent s p = (go (on_marks_lem s), λ f. back (on_marks_lem s) (found_first (absent c.rows marks) (length marks) p f))
    where
      go : OnMarks E t c s.initials s.roots marks r t' → r ≡ refused Mark p → FirstAt (absent c.rows marks) (length marks) p
      go (missing q f y) e = first_found (absent c.rows marks) (length marks) p (f ∙ ap Some (same_place (sym y.answers ∙ e)))
      go (present f y) e = ⊎_elim (differ refl) (differ refl) (depth_number y e)

      back : OnMarks E t c s.initials s.roots marks r t' → first (absent c.rows marks) (length marks) ≡ Some p → r ≡ refused Mark p
      back (missing q f y) g = y.answers ∙ ap (λ (k : ℕ). refused Mark k) (found_one f g)
      back (present f y) g = found_never g f

  -- once 9 and 10 are past, refused by 11 exactly if a marked row is a leaf of depth 60: never from closure alone (02, L9)
  pub refused_deep : Sound t c → Nowhere (absent c.rows marks) (length marks) → r ≡ refused Depth 0 ↔ MarkedDeep (mesh_of t c) marks
  refused_deep s there = let e = none_first (absent c.rows marks) (length marks) there in Iff.trans (depth_exact (marks_there e (on_marks_lem s))) (deep_by_marks s marks e)

  -- the same, where the answer tells that they are past: it is neither
  pub answered_deep : (r ≡ refused Unsound 0 → ⊥) → ((p : ℕ) → r ≡ refused Mark p → ⊥) → r ≡ refused Depth 0 ↔ MarkedDeep (mesh_of t c) marks
  answered_deep not-9 not-10 = go x
    where
      go : RefinesBy E t c marks r t' → r ≡ refused Depth 0 ↔ MarkedDeep (mesh_of t c) marks
      go (unsound n y) = absurd (not-9 y.answers)
      go (sound s (missing p f y)) = absurd (not-10 p y.answers)
      go (sound s (present f y)) = refused_deep s (first_nowhere (absent c.rows marks) (length marks) f)

  -- 11 comes of a marked row that is a leaf of depth 60 alone, whatever the tables and the marks are
  pub deep_marked : (p : ℕ) → r ≡ refused Depth p → MarkedDeep (mesh_of t c) marks
  deep_marked p e = go x
    where
      go : RefinesBy E t c marks r t' → MarkedDeep (mesh_of t c) marks
      go (unsound n y) = differ refl (same_cause (sym y.answers ∙ e))
      go (sound s (missing q f y)) = differ refl (same_cause (sym y.answers ∙ e))
      go (sound s (present f (deep d y))) = (deep_by_marks s marks f).0 d
      go (sound s (present f (shallow n y))) = differ refl (room_number y e)

  -- so a caller that marks no leaf of depth 60 never sees it (02, L9)
  pub never_deep : (MarkedDeep (mesh_of t c) marks → ⊥) → (p : ℕ) → r ≡ refused Depth p → ⊥
  never_deep none p e = none (deep_marked p e)

-- ---- depth and room after a history (demand 3), of a call by any engine

module _ {F : Forest} {o : Counts} {B : Element → Type 0} {t : Lent} {c : Counts} {calls : List (List Element)} (h : Since F o B t c calls) where
  -- what the call needs is what the splits at the start and all marks so far force
  pub since_needed : (marks : List ℕ) (e : Element) → Needed (mesh_of t c) o.rows marks e ↔ SinceMarks F o B t c calls marks e
  since_needed marks e = let w = since_held h in Iff.trans (needed_called w.after marks e) (since_forced F B w.base (marked_elements (mesh_of t c) o.rows marks ∷ calls) e)

  module _ {marks : List ℕ} {W : Element → Type 0} (same : (e : Element) → Needed (mesh_of t c) o.rows marks e ↔ W e) where
    needed_deep : Deep (mesh_of t c) o.rows marks ↔ DeepIn W
    unfolding Deep
    needed_deep = (deep_along same, deep_along (λ e. Iff.symm (same e)))

    needed_outgrows : Outgrows (room_in t) (mesh_of t c) o.vertices o.rows marks ↔ OutgrowsIn (room_in t) F o.vertices W
    unfolding Outgrows
    needed_outgrows =
        subst (λ (X : Forest). Outgrows (room_in t) (mesh_of t c) o.vertices o.rows marks ↔ OutgrowsIn (room_in t) X o.vertices W) (since_held h).after.forest
        (outgrows_along same, outgrows_along (λ e. Iff.symm (same e)))

    -- once the marks are rows, it would split an element of depth 60 exactly if a marked row is a leaf of depth 60
    needed_marked : Nowhere (absent c.rows marks) (length marks) → DeepIn W ↔ MarkedDeep (mesh_of t c) marks
    needed_marked there =
        let held = since_held h in
        let by_marks = deep_by_marks held.sound marks (none_first (absent c.rows marks) (length marks) there) in
        Iff.trans (Iff.symm needed_deep) (subst (λ (k : ℕ). Deep (mesh_of t c) k marks ↔ MarkedDeep (mesh_of t c) marks) held.roots_are by_marks)

    module _ {E : Engine} {r : Result Refined Refusal} {t' : Lent} (x : RefinesBy E t c marks r t') (there : Nowhere (absent c.rows marks) (length marks)) where
      on_depth : OnDepth E t c o.vertices o.rows marks r t'
      on_depth =
          let held = since_held h in
          subst (λ (i : ℕ). OnDepth E t c i o.rows marks r t') held.initials_are
          (subst (λ (k : ℕ). OnDepth E t c held.sound.initials k marks r t') held.roots_are (marks_there (none_first (absent c.rows marks) (length marks) there) (on_marks_lem x held.sound)))

      exactly : RefusedExactly F o (room_in t) W r
      exactly = record {
        deep = Iff.trans (depth_exact on_depth) needed_deep;
        either = Iff.trans (depth_or_room on_depth) (either_iff needed_deep needed_outgrows);
        full = λ low. Iff.trans (room_exact (λ d. low (needed_deep.0 d)) on_depth) needed_outgrows;
        done = λ low fit. done_exact (λ d. low (needed_deep.0 d)) (λ y. fit (needed_outgrows.0 y)) on_depth;
      }

  -- depth or room refuses it exactly if the smallest closed set that holds the splits at the start and all marks, this call's added, would split an element already 60 splits deep, or outgrow the tables (demand 3; 02, L5)
  pub since_exactly : {E : Engine} {marks : List ℕ} {r : Result Refined Refusal} {t' : Lent} → RefinesBy E t c marks r t' → Nowhere (absent c.rows marks) (length marks) → RefusedExactly F o (room_in t) (SinceMarks F o B t c calls marks) r
  since_exactly {marks = marks} x there = exactly (since_needed marks) x there

  -- that set has an element of depth 60 exactly if a row marked in this call is a leaf of depth 60 (02, L9)
  pub since_marked : {marks : List ℕ} → Nowhere (absent c.rows marks) (length marks) → DeepIn (SinceMarks F o B t c calls marks) ↔ MarkedDeep (mesh_of t c) marks
  since_marked {marks} = needed_marked (since_needed marks)

module _ {F : Forest} {o : Counts} {t : Lent} {c : Counts} {calls : List (List Element)} (h : History F o t c calls) where
  -- from an opened mesh on, what the call needs is what all marks so far force
  pub history_needed : (marks : List ℕ) (e : Element) → Needed (mesh_of t c) o.rows marks e ↔ WithMarks F o t c calls marks e
  history_needed marks e = Iff.trans (since_needed h marks e) (nothing_before e)

  -- the smallest closed set that holds all marks, this call's added, has an element of depth 60 exactly if a row marked in this call is a leaf of depth 60 (02, L9)
  pub history_marked : {marks : List ℕ} → Nowhere (absent c.rows marks) (length marks) → DeepIn (WithMarks F o t c calls marks) ↔ MarkedDeep (mesh_of t c) marks
  history_marked {marks} = needed_marked h (history_needed marks)

  module _ {E : Engine} {marks : List ℕ} {r : Result Refined Refusal} {t' : Lent} (x : RefinesBy E t c marks r t') (there : Nowhere (absent c.rows marks) (length marks)) where
    opened_exactly : RefusedExactly F o (room_in t) (WithMarks F o t c calls marks) r
    opened_exactly = exactly h (history_needed marks) x there

    -- refused by 11 exactly if the smallest closed set that holds all marks, this call's added, has an element of depth 60 (demand 3; 01, number 11)
    pub history_deep : r ≡ refused Depth 0 ↔ DeepIn (WithMarks F o t c calls marks)
    history_deep = opened_exactly.deep

    -- depth or room refuses it exactly if that set would split an element already 60 splits deep, or outgrow the tables (demand 3)
    pub history_refuses : ((r ≡ refused Depth 0) ⊎ (r ≡ refused Room 0)) ↔ (DeepIn (WithMarks F o t c calls marks) ⊎ OutgrowsIn (room_in t) F o.vertices (WithMarks F o t c calls marks))
    history_refuses = opened_exactly.either

    module _ (shallow-set : DeepIn (WithMarks F o t c calls marks) → ⊥) where
      -- else refused by 2 exactly if that set outgrows the room (demand 3; 01, number 2)
      pub history_room : r ≡ refused Room 0 ↔ OutgrowsIn (room_in t) F o.vertices (WithMarks F o t c calls marks)
      history_room = opened_exactly.full shallow-set

      -- else accepted
      pub history_done : (OutgrowsIn (room_in t) F o.vertices (WithMarks F o t c calls marks) → ⊥) → (d : Counts) × (n : ℕ) × (r ≡ refined_to d n)
      history_done = opened_exactly.done shallow-set
