-- The first 22325 bytes decide what is read: no more than 256 lines of a kind are taken, and none of them is long.
use mathlib.Core.Path.{◌≡◌, refl, sym, ap, ◌∙◌}
use mathlib.Core.Bool.{Bool, true, false, cond}
use mathlib.Core.List.{List, [], ◌∷◌, ◌++◌}
use Prim.Native.Nat.{ℕ, zero, suc, ◌+◌, ◌-◌, ◌*◌, ◌≤◌, ◌<◌}
use native.Mathlib.Omega.{arith}
use borrow.Author.Tests.{ne_eqb, ltb-true, ltb-false, eqb-true, eqb-false}
use lib.Dec.{ltb, eqb}
use lib.Ieee.{binary64, of_bits}
use lib.ListN.{length, take, length-append}
use lib.Seq.{take-append-le, take-append-add, length-take-le}
use Rattle.fields.specs.declared.line.Line.{Line}
use Rattle.fields.specs.Digits.{decimal, sixteen}
use Rattle.fields.specs.Field.{parts, tabbed}
use Rattle.text.specs.Program.{Program}
use Rattle.std.specs.Prelude.{Result, Ok, Err}
use Rattle.tables.specs.declared.refusal.Cause.{Cause}
use Rattle.tables.specs.declared.refusal.Cause.TheVariants as cause
use Rattle.tables.specs.Refusal.{refused}
use Rattle.text.specs.Input.{Input, nothing, takes, read_from, read_all}
use Rattle.fields.specs.Line.{line_of}
use Rattle.fields.proofs.Inverse.{Free, bare, more, parts_free, parts_split, HasPart, some, some_parts, Written, line_written, length_sixteen, decimal_length}
use Rattle.fields.proofs.Inverse as inverse

-- ---- a text by its lines

data Lines : List ℕ → Type 0 where
  last : {l : List ℕ} → Free 10 l → Lines l
  next : {p r : List ℕ} → Free 10 p → Lines r → Lines (p ++ (10 ∷ r))

lines_onto : (x : ℕ) {l : List ℕ} → (x ≡ 10 → ⊥) → Lines l → Lines (x ∷ l)
lines_onto x f (last g) = last (more f g)
lines_onto x f (next g h) = next (more f g) h

lines_of : (l : List ℕ) → Lines l
lines_of [] = last bare
lines_of (x ∷ l) = go (lines_of l) (eqb x 10) refl
  where
    go : Lines l → (t : Bool) → eqb x 10 ≡ t → Lines (x ∷ l)
    go h true e = rw (eqb-true x 10 e) (next bare h)
    go h false e = lines_onto x (eqb-false x 10 e) h

free_take : {s : ℕ} {l : List ℕ} → (n : ℕ) → Free s l → Free s (take n l)
free_take zero bare = bare
free_take (suc n) bare = bare
free_take zero (more f r) = bare
free_take (suc n) (more f r) = more f (free_take n r)

-- ---- one line of the text

module _ (i : Input) (k : ℕ) where
  read_end : (q : List ℕ) → 0 < length q → read_from i k (q ∷ []) ≡ refused cause.Line k
  unfolding read_from
  read_end q h = rw (ne_eqb (length q) 0 (λ e. omega (arith, e)))

  module _ (p : List ℕ) where
    read_taken : {ps : List (List ℕ)} → HasPart ps → (j : Input) → takes i (line_of p k) ≡ Ok j → read_from i k (p ∷ ps) ≡ read_from j (suc k) ps
    unfolding read_from
    read_taken (some q qs) j e = rw (read_from, e)

    read_fault : {ps : List (List ℕ)} → HasPart ps → (c : Cause) → takes i (line_of p k) ≡ Err c → read_from i k (p ∷ ps) ≡ refused c k
    unfolding read_from
    read_fault (some q qs) c e = rw (read_from, e)

-- ---- how long a line is

length_tabbed : (f : List ℕ) (fs : List (List ℕ)) → length (tabbed (f ∷ fs)) ≡ suc (length f) + length (tabbed fs)
unfolding tabbed
length_tabbed f fs = length-append (9 ∷ f) (tabbed fs)

length_none : length (tabbed []) ≡ 0
unfolding tabbed
length_none = refl

vertex_length : (l : List ℕ) (a b c : ℕ) → l ≡ 86 ∷ tabbed (sixteen a ∷ sixteen b ∷ sixteen c ∷ []) → length l ≡ 52
vertex_length l a b c e =
    rw (e, length_tabbed (sixteen a) (sixteen b ∷ sixteen c ∷ []), length_tabbed (sixteen b) (sixteen c ∷ []), length_tabbed (sixteen c) [], length_none, length_sixteen a, length_sixteen b, length_sixteen c)

element_length : (l : List ℕ) (a b c d : ℕ) → a < 100000 → b < 100000 → c < 100000 → d < 100000 → l ≡ 84 ∷ tabbed (decimal a ∷ decimal b ∷ decimal c ∷ decimal d ∷ []) → length l ≤ 25
element_length l a b c d ha hb hc hd e =
    rw (e, length_tabbed (decimal a) (decimal b ∷ decimal c ∷ decimal d ∷ []), length_tabbed (decimal b) (decimal c ∷ decimal d ∷ []), length_tabbed (decimal c) (decimal d ∷ []), length_tabbed (decimal d) [], length_none)
    (omega (arith, decimal_length a ha, decimal_length b hb, decimal_length c hc, decimal_length d hd))

mark_length : (l : List ℕ) (a : ℕ) → a < 100000 → l ≡ 77 ∷ tabbed (decimal a ∷ []) → length l ≤ 7
mark_length l a ha e = rw (e, length_tabbed (decimal a) [], length_none) (omega (arith, decimal_length a ha))

-- a long line is not well formed
long_fault : (i : Input) (l : List ℕ) (k : ℕ) → 52 < length l → takes i (line_of l k) ≡ Err cause.Line
unfolding takes
long_fault i l k h = go (line_written l k)
  where
    go : {v : Line} → Written l k v → takes i v ≡ Err cause.Line
    go (inverse.vertex a b c ha hb hc e) = absurd (omega (arith, vertex_length l a b c e))
    go (inverse.element a b c d ha hb hc hd e) = absurd (omega (arith, element_length l a b c d ha hb hc hd e))
    go (inverse.mark a ha e) = absurd (omega (arith, mark_length l a ha e))
    go inverse.refused = refl

-- ---- what the lines still to be taken may need

-- v V lines and t T lines are taken; the n bytes left hold every line that may still be taken, and one more
record Room (i : Input) (n : ℕ) : Type 0 where
  v : ℕ
  t : ℕ
  coordinates : length i.coordinates ≡ 3 * v
  elements : length i.elements ≡ 4 * t
  vertexes : v ≤ 256
  tets : t ≤ 256
  marks : length i.marks ≤ 256
  left : 22325 ≤ n + 53 * v + 26 * t + 8 * length i.marks

room_start : (n : ℕ) → 22325 ≤ n → Room nothing n
room_start n h = record { v = 0; t = 0; coordinates = refl; elements = refl; vertexes = omega arith; tets = omega arith; marks = omega arith; left = omega arith }

room_some : {i : Input} {n : ℕ} → Room i n → 52 < n
room_some r = omega (arith, r)

cond_taken : (s t : Bool) (a j : Input) → cond s (cond t (Err cause.Lines) (Ok a)) (Err cause.Line) ≡ Ok j → (t ≡ false) × (a ≡ j)
cond_taken true true a j e = let n : ◌≡◌ {A = ℕ} 0 1 = cc in absurd (omega (arith, n))
cond_taken true false a j e = (refl, cc)
cond_taken false t a j e = let n : ◌≡◌ {A = ℕ} 0 1 = cc in absurd (omega (arith, n))

room_next : (i j : Input) (l : List ℕ) (k n : ℕ) → Room i (length l + suc n) → takes i (line_of l k) ≡ Ok j → Room j n
unfolding takes
room_next i j l k n r = go (line_written l k)
  where
    go : {v : Line} → Written l k v → takes i v ≡ Ok j → Room j n
    go (inverse.vertex a b c ha hb hc e) q =
        let x = of_bits binary64 a ∷ of_bits binary64 b ∷ of_bits binary64 c ∷ [] in
        let w = cond_taken (eqb (length i.elements + length i.marks) 0) (ltb 768 (length i.coordinates + 3)) (record { coordinates = i.coordinates ++ x; elements = i.elements; marks = i.marks }) j q in
        let m = ltb-false 768 (length i.coordinates + 3) w.0 in
        let z : length (i.coordinates ++ x) ≡ length i.coordinates + 3 = length-append i.coordinates x in
        let s = vertex_length l a b c e in
        rw (← w.1) record { v = suc r.v; t = r.t; coordinates = omega (arith, z, r.coordinates); elements = r.elements; vertexes = omega (arith, m, r.coordinates); tets = r.tets; marks = r.marks; left = omega (arith, s, r.left) }
    go (inverse.element a b c d ha hb hc hd e) q =
        let x = a ∷ b ∷ c ∷ d ∷ [] in
        let w = cond_taken (eqb (length i.marks) 0) (ltb 1024 (length i.elements + 4)) (record { coordinates = i.coordinates; elements = i.elements ++ x; marks = i.marks }) j q in
        let m = ltb-false 1024 (length i.elements + 4) w.0 in
        let z : length (i.elements ++ x) ≡ length i.elements + 4 = length-append i.elements x in
        let s = element_length l a b c d ha hb hc hd e in
        rw (← w.1) record { v = r.v; t = suc r.t; coordinates = r.coordinates; elements = omega (arith, z, r.elements); vertexes = r.vertexes; tets = omega (arith, m, r.elements); marks = r.marks; left = omega (arith, s, r.left) }
    go (inverse.mark a ha e) q =
        let w = cond_taken true (ltb 256 (length i.marks + 1)) (record { coordinates = i.coordinates; elements = i.elements; marks = i.marks ++ (a ∷ []) }) j q in
        let m = ltb-false 256 (length i.marks + 1) w.0 in
        let z : length (i.marks ++ (a ∷ [])) ≡ length i.marks + 1 = length-append i.marks (a ∷ []) in
        let s = mark_length l a ha e in
        rw (← w.1) record { v = r.v; t = r.t; coordinates = r.coordinates; elements = r.elements; vertexes = r.vertexes; tets = r.tets; marks = omega (arith, z, m); left = omega (arith, z, s, r.left) }
    go inverse.refused q = let n : ◌≡◌ {A = ℕ} 0 1 = cc in absurd (omega (arith, n))

-- ---- the cut

-- what follows the last line feed, cut or whole, is nothing or refused
read_last : (i : Input) (k n : ℕ) (l : List ℕ) → 0 < n → read_from i k (take n l ∷ []) ≡ read_from i k (l ∷ [])
read_last i k zero l h = absurd (omega (arith, h))
read_last i k (suc n) [] h = refl
read_last i k (suc n) (x ∷ l) h = read_end i k (x ∷ take n l) (omega arith) ∙ sym (read_end i k (x ∷ l) (omega arith))

read_prefix : {l : List ℕ} → Lines l → (i : Input) (k n : ℕ) → Room i n → read_from i k (parts 10 (take n l)) ≡ read_from i k (parts 10 l)
read_prefix {l} (last f) i k n r =
    rw (parts_free f, parts_free (free_take n f)) (read_last i k n l (omega (arith, room_some r)))
read_prefix (next {p = p} {r = l} f h) i k n r = go (λ j m s. read_prefix h j (suc k) m s) (ltb (length p) n) refl
  where
    -- the cut is behind the line: by what the line does
    whole : (m : ℕ) → Room i (length p + suc m) → ((j : Input) → Room j m → read_from j (suc k) (parts 10 (take m l)) ≡ read_from j (suc k) (parts 10 l)) → (t : Result Input Cause) → takes i (line_of p k) ≡ t → read_from i k (p ∷ parts 10 (take m l)) ≡ read_from i k (p ∷ parts 10 l)
    whole m s c (Ok j) e =
        read_taken i k p (some_parts 10 (take m l)) j e ∙ c j (room_next i j p k m s e) ∙ sym (read_taken i k p (some_parts 10 l) j e)
    whole m s c (Err x) e = read_fault i k p (some_parts 10 (take m l)) x e ∙ sym (read_fault i k p (some_parts 10 l) x e)

    go : ((j : Input) (m : ℕ) → Room j m → read_from j (suc k) (parts 10 (take m l)) ≡ read_from j (suc k) (parts 10 l)) → (t : Bool) → ltb (length p) n ≡ t → read_from i k (parts 10 (take n (p ++ (10 ∷ l)))) ≡ read_from i k (parts 10 (p ++ (10 ∷ l)))
    go c true e =
        let b = ltb-true (length p) n e in
        let m = n - suc (length p) in
        let z : n ≡ length p + suc m = omega arith in
        let u : take n (p ++ (10 ∷ l)) ≡ p ++ (10 ∷ take m l) = ap (λ (x : ℕ). take x (p ++ (10 ∷ l))) z ∙ take-append-add p (10 ∷ l) (suc m) in
        rw (u, parts_split f (take m l), parts_split f l) (whole m (rw z at r) (λ j s. c j m s) (takes i (line_of p k)) refl)
    go c false e =
        let b = ltb-false (length p) n e in
        let a = room_some r in
        let z = length-take-le n p b in
        rw (take-append-le n p (10 ∷ l) b, parts_free (free_take n f), parts_split f l)
        (read_end i k (take n p) (omega (arith, z)) ∙ sym (read_fault i k p (some_parts 10 l) cause.Line (long_fault i p k (omega arith))))

pub read_all_prefix : (l : List ℕ) (n : ℕ) → 22325 ≤ n → read_all (take n l) ≡ read_all l
read_all_prefix l n h = read_prefix (lines_of l) nothing 1 n (room_start n h)

-- so a buffer of that many bytes holds all that the program's answer hangs on
pub program_prefix : (l text : List ℕ) (n : ℕ) → 22325 ≤ n → Program (take n l) text → Program l text
program_prefix l text n h x = record { answers = rw (read_all_prefix l n h) at x.answers }
