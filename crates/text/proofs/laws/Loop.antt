-- Line after line.
use mathlib.Core.Path.{◌≡◌, refl, sym, ap, ◌∙◌}
use mathlib.Core.List.{List, [], ◌∷◌}
use Prim.Native.Nat.{ℕ, suc, ◌+◌, ◌-◌, ◌≤◌, ◌<◌}
use native.Mathlib.Numerals.{add-one}
use native.Mathlib.Omega.{arith}
use borrow.Author.Tests.{ne_eqb}
use lib.ListN.{length, take, drop, length-drop}
use lib.Seq.{drop-drop, drop-length}
use Rattle.std.specs.Prelude.{Result, Ok, Err}
use Rattle.std.specs.Result.{result_and}
use Rattle.fields.specs.declared.line.Line.{Line}
use Rattle.fields.specs.declared.line.Line.TheVariants as line
use Rattle.fields.specs.Field.{parts, before, stop_of}
use Rattle.fields.specs.Line.{line_of, reported}
use Rattle.tables.specs.declared.refusal.Cause.{Cause}
use Rattle.tables.specs.declared.refusal.Cause.TheVariants as cause
use Rattle.tables.specs.declared.refusal.Refusal.{Refusal}
use Rattle.tables.specs.Refusal.{number_of, refusal_at, refused}
use Rattle.text.specs.Input.{Input, nothing, takes, read_from, read_all}
use Rattle.text.specs.Reading.{Turns}
use Rattle.fields.proofs.laws.Reports.{line_reported}
use Rattle.fields.proofs.laws.Fields.{Inside, parts_some, parts_more, parts_last, parts_none, part, part_order, part_fits}

-- ---- the definition, line by line

module _ (i : Input) (k : ℕ) (p : List ℕ) where
  read_end : (length p ≡ 0 → ⊥) → read_from i k (p ∷ []) ≡ refused cause.Line k
  unfolding read_from
  read_end h = rw (read_from, ne_eqb (length p) 0 h)

  pub read_taken : (ps : List (List ℕ)) → 0 < length ps → (j : Input) → takes i (line_of p k) ≡ Ok j → read_from i k (p ∷ ps) ≡ read_from j (suc k) ps
  unfolding read_from
  read_taken [] h j e = absurd (omega (arith, h))
  read_taken (q ∷ ps) h j e = rw (read_from, e)

  pub read_fault : (ps : List (List ℕ)) → 0 < length ps → (c : Cause) → takes i (line_of p k) ≡ Err c → read_from i k (p ∷ ps) ≡ refused c k
  unfolding read_from
  read_fault [] h c e = absurd (omega (arith, h))
  read_fault (q ∷ ps) h c e = rw (read_from, e)

malformed_fault : (i : Input) (v : Line) → ((reported v).number ≡ 0 → ⊥) → (number_of cause.Line ≡ (reported v).number) × (takes i v ≡ Err cause.Line)
unfolding takes
malformed_fault i (line.Vertex x y z) n = absurd (n refl)
malformed_fault i (line.Element a b c d) n = absurd (n refl)
malformed_fault i (line.Mark r) n = absurd (n refl)
malformed_fault i (line.Refused p) n = (refl, refl)

-- a line that is not well formed ends the reading, by the number and the place that it reports
pub read_malformed : (i : Input) (k : ℕ) (p q : List ℕ) (ps : List (List ℕ)) → ((reported (line_of p k)).number ≡ 0 → ⊥) → (number_of cause.Line ≡ (reported (line_of p k)).number) × (read_from i k (p ∷ q ∷ ps) ≡ refused cause.Line (reported (line_of p k)).place)
read_malformed i k p q ps n =
    let m = malformed_fault i (line_of p k) n in
    (m.0, read_fault i k p (q ∷ ps) (omega arith) cause.Line m.1 ∙ ap (refused cause.Line) (sym (line_reported p k n).1))

read_none : (i : Input) (k : ℕ) → read_from i k ([] ∷ []) ≡ Ok i
unfolding read_from
read_none i k = refl

-- ---- answers by their cases

module _ (l : List ℕ) (at k : ℕ) (i j : Input) where
  turn_fault : (c : Cause) → read_from i k (parts 10 (drop at l)) ≡ refused c k → Turns l at k i (refused c k) j
  turn_fault c q = record { next = λ a z. let s : ◌≡◌ {A = ℕ} 0 1 = cc in absurd (omega (arith, s)); faults = λ e z. let s : refusal_at c k ≡ e = cc in q ∙ ap (λ (x : Refusal). Err x) s }

  turn_next : (a : ℕ) → at < a → a ≤ length l → read_from i k (parts 10 (drop at l)) ≡ read_from j (suc k) (parts 10 (drop a l)) → Turns l at k i (Ok a) j
  turn_next a h w q = record {
    next = λ b z. let s : a ≡ b = cc in rw (← s) (h, w, q);
    faults = λ e z. let s : ◌≡◌ {A = ℕ} 0 1 = cc in absurd (omega (arith, s));
  }

-- ---- one line

pub one_inside : (at : ℕ) (l : List ℕ) → at < length l → Inside at l
one_inside at l h = record { within = omega (arith, h) }

module _ {at : ℕ} (l : List ℕ) (r : at < length l) {end : ℕ} (q : end ≡ stop_of 10 l at) where
  rest : length (drop at l) ≡ length l - at
  rest = length-drop at l

  stands : end ≡ at + before 10 (drop at l)
  unfolding stop_of
  stands = q

  pub one_last : (k : ℕ) (i j : Input) → end ≡ length l → Turns l at k i (refused cause.Line k) j
  one_last k i j h =
      let whole : parts 10 (drop at l) ≡ drop at l ∷ [] = parts_last 10 (drop at l) (omega (arith, rest, stands, h)) in
      turn_fault l at k i j cause.Line (rw whole (read_end i k (drop at l) (λ z. omega (arith, z, rest, r))))

  module _ (h : end ≡ length l → ⊥) where
    pub one_within : end < length l
    one_within = omega (arith, part_fits (one_inside at l r) 10 q, h)

    pub one_add : {b : ℕ} → length l < b → end + 1 < b
    one_add y = omega (arith, one_within, y)

    one_parts : parts 10 (drop at l) ≡ take (end - at) (drop at l) ∷ parts 10 (drop (end + 1) l)
    one_parts =
        let b : before 10 (drop at l) ≡ end - at = omega (arith, stands) in
        let d : end + 1 ≡ at + suc (before 10 (drop at l)) = omega (arith, stands) in
        rw (d, ← drop-drop (suc (before 10 (drop at l))) at l, ← b) (parts_more 10 (drop at l) (omega (arith, rest, stands, one_within)))

    module _ {k : ℕ} {ln : Line} (ql : ln ≡ line_of (take (end - at) (drop at l)) k) {s : Result (Unit {0}) Cause} {i j : Input} (t : takes i ln ≡ result_and s (Ok j)) where
      pub one_taken : (u : Unit {0}) → s ≡ Ok u → Turns l at k i (Ok (end + 1)) j
      one_taken u z =
          turn_next l at k i j (end + 1) (omega (arith, part_order (one_inside at l r) 10 q)) (omega (arith, one_within))
          (rw one_parts (read_taken i k (take (end - at) (drop at l)) (parts 10 (drop (end + 1) l)) (parts_some 10 (drop (end + 1) l)) j (rw (ql, z) at t)))

      pub one_fault : (c : Cause) → s ≡ Err c → Turns l at k i (refused c k) j
      one_fault c z =
          turn_fault l at k i j c
          (rw one_parts (read_fault i k (take (end - at) (drop at l)) (parts 10 (drop (end + 1) l)) (parts_some 10 (drop (end + 1) l)) c (rw (ql, z) at t)))

pub ruleset one = (one_inside, part, one_last, one_within, one_add, one_taken, one_fault)

-- ---- the loop

-- k lines are read, up to `at`; i is what they gave
pub record Looping (l : List ℕ) (i : Input) (at k : ℕ) : Type 0 where
  pub within : at ≤ length l
  pub early : k ≤ at
  pub same : read_all l ≡ read_from i (suc k) (parts 10 (drop at l))

pub loop_start : {l : List ℕ} → Looping l nothing 0 0
loop_start = record { within = omega arith; early = omega arith; same = refl }

module _ {l : List ℕ} {i : Input} {at k : ℕ} (x : Looping l i at k) where
  module _ (h : at < length l) where
    pub loop_fits : {b : ℕ} → length l < b → k + 1 < b
    loop_fits y = omega (arith, h, x.early, y)

    module _ {t : Result ℕ Refusal} {j : Input} (y : Turns l at (k + 1) i t j) where
      line_number : k + 1 ≡ suc k
      line_number = add-one k

      pub loop_next : {a : ℕ} → t ≡ Ok a → Looping l j a (k + 1)
      loop_next {a} q =
          let n = y.next a q in
          record { within = n.1; early = omega (arith, n.0, x.early); same = x.same ∙ rw (← line_number) n.2 }

      pub loop_falls : {a : ℕ} → t ≡ Ok a → length l - a < length l - at
      loop_falls {a} q = let n = y.next a q in omega (arith, n.0, h)

      pub loop_fault : {e : Refusal} → t ≡ Err e → Err e ≡ read_all l
      loop_fault {e} q = sym (x.same ∙ rw line_number at (y.faults e q))

  pub loop_all : length l ≤ at → Ok i ≡ read_all l
  loop_all h = let q : at ≡ length l = omega (arith, x.within, h) in sym (x.same ∙ rw (q, drop-length l, parts_none 10) (read_none i (suc k)))

pub ruleset looping = (loop_start, loop_fits, loop_next, loop_falls, loop_fault, loop_all)
