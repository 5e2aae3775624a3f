-- The program never answers 9 or 11: it refines opened tables, which are sound, and all of whose rows have depth 0.
use mathlib.Core.Path.{◌≡◌, refl, sym, ap, subst, ◌∙◌}
use mathlib.Core.Bool.{Bool, true, false, cond}
use mathlib.Core.List.{List, [], ◌∷◌, ◌++◌, append_assoc}
use Prim.Native.Nat.{ℕ, suc, ◌+◌, ◌/◌, ◌≤◌, ◌<◌}
use native.Mathlib.Omega.{arith}
use borrow.Author.Tests.{eqb-true}
use lib.Dec.{eqb}
use lib.ListN.{length}
use Rattle.tables.specs.declared.layout.Counts.{Counts}
use Rattle.tables.specs.Layout.{started}
use Rattle.tables.specs.Mesh.{Lent, mesh_of}
use Rattle.tables.specs.Report.{Report, refusal, done}
use Rattle.intake.specs.Verdict.{Verdict}
use Rattle.opening.specs.Opening.{judged, answer}
use Rattle.opening.proofs.laws.Refusals.{judged_number}
use Rattle.sound.specs.Sound.{Sound}
use Rattle.sound.proofs.laws.Afresh.{root_depth}
use Rattle.run.specs.Demand.{MarkedDeep}
use Rattle.closure.specs.declared.answer.Refined.{Refined}
use Rattle.closure.specs.Refine as closure
use Rattle.closure.specs.Refine.{Refines}
use Rattle.closure.proofs.laws.Taken.{sound_rows}
use Rattle.closure.proofs.laws.Refusals.{never_deep}
use Rattle.closure.proofs.laws.Opened.{Unsplit, laid_unsplit}
use Rattle.fields.specs.declared.line.Line.{Line}
use Rattle.fields.specs.declared.line.Line.TheVariants as line
use Rattle.fields.specs.Digits.{number_of, decimal}
use Rattle.fields.specs.Field.{tabbed, field_of}
use Rattle.fields.specs.Line.{line_of}
use Rattle.fields.proofs.Inverse.{bare, more, parts_split, free_spelled, number_decimal}
use Rattle.fields.proofs.laws.Reading.{is_same}
use Rattle.std.specs.Prelude.{Result, Ok, Err}
use Rattle.tables.specs.declared.refusal.Cause.{Cause}
use Rattle.tables.specs.declared.refusal.Cause.TheVariants as cause
use Rattle.tables.specs.declared.refusal.Refusal.{Refusal}
use Rattle.tables.specs.Refusal.{number_of as number_in, refusal_at, refused}
use Rattle.text.specs.Input.{Input, input, over, takes, read_from, read_all}
use Rattle.text.specs.Output.{c_line, p_lines}
use Rattle.text.specs.Program.{headline, leaf_lines, refined_text, Refining, opens, opened_tables, Outcome, Answer, Program}
use Rattle.text.proofs.laws.Loop.{read_taken, read_fault}

-- ---- the first line tells its number

-- the text begins with C and this number
record Begins (n : ℕ) (text : List ℕ) : Type 0 where
  rest : List ℕ
  is : text ≡ 67 ∷ 9 ∷ (decimal n ++ (9 ∷ rest))

begins_c : (a b c d : ℕ) → Begins a (c_line a b c d)
unfolding c_line tabbed
begins_c a b c d =
    let after = decimal b ++ tabbed (decimal c ∷ decimal d ∷ []) in
    record { rest = after ++ (10 ∷ []); is = ap (λ (l : List ℕ). 67 ∷ 9 ∷ l) (append_assoc (decimal a) (9 ∷ after) (10 ∷ [])) }

begins_more : {n : ℕ} {text : List ℕ} (after : List ℕ) → Begins n text → Begins n (text ++ after)
begins_more {n} after b = record { rest = b.rest ++ after; is = rw b.is (ap (λ (l : List ℕ). 67 ∷ 9 ∷ l) (append_assoc (decimal n) (9 ∷ b.rest) after)) }

second_field : {n : ℕ} {text : List ℕ} → Begins n text → field_of text 1 ≡ decimal n
unfolding field_of
second_field {n} b = rw (b.is, parts_split {s = 9} {p = 67 ∷ []} (more (λ q. omega (arith, q)) bare) (decimal n ++ (9 ∷ b.rest)), parts_split (free_spelled 10 10 20 n) b.rest)

begins_one : {m n : ℕ} {text : List ℕ} → m < 100000 → n < 100000 → Begins m text → Begins n text → m ≡ n
begins_one {m} {n} hm hn x y = is_same (sym (number_decimal m hm) ∙ ap number_of (sym (second_field x) ∙ second_field y) ∙ number_decimal n hn)

headline_begins : (r : Report) → Begins r.number (headline r)
unfolding headline
headline_begins r = go (eqb r.number 0) refl
  where
    go : (t : Bool) → eqb r.number 0 ≡ t → Begins r.number (cond t (c_line 0 r.counts.vertices r.counts.rows r.splits) (c_line r.number r.place 0 0))
    go true e = rw (eqb-true r.number 0 e) (begins_c 0 r.counts.vertices r.counts.rows r.splits)
    go false e = begins_c r.number r.place 0 0

-- ---- which numbers come

-- neither 9 nor 11
record Comes (n : ℕ) : Type 0 where
  few : n ≤ 13
  nine : n ≡ 9 → ⊥
  eleven : n ≡ 11 → ⊥

comes_is : {m n : ℕ} → m ≡ n → Comes m → Comes n
comes_is e c = rw e at c

comes_low : {n : ℕ} → n ≤ 8 → Comes n
comes_low h = record { few = omega arith; nine = λ e. omega arith; eleven = λ e. omega arith }

ten : Comes 10
ten = record { few = omega arith; nine = λ e. omega (arith, e); eleven = λ e. omega (arith, e) }

twelve : Comes 12
twelve = record { few = omega arith; nine = λ e. omega (arith, e); eleven = λ e. omega (arith, e) }

thirteen : Comes 13
thirteen = record { few = omega arith; nine = λ e. omega (arith, e); eleven = λ e. omega (arith, e) }

-- ---- reading: 12 and 13

cause_is : {c d : Cause} → ◌≡◌ {A = Result Input Cause} (Err c) (Err d) → Comes (number_in c) → Comes (number_in d)
cause_is {c} {d} e k = let s : c ≡ d = cc in comes_is (ap number_in s) k

taken_fault : {X : Type 0} {i : Input} {c : Cause} → Ok i ≡ Err c → X
taken_fault e = let z : ◌≡◌ {A = ℕ} 0 1 = cc in absurd (omega arith)

cond_fault : (s t : Bool) (j : Input) {c : Cause} → cond s (cond t (Err cause.Lines) (Ok j)) (Err cause.Line) ≡ Err c → Comes (number_in c)
cond_fault true true j e = cause_is e thirteen
cond_fault true false j e = taken_fault e
cond_fault false t j e = cause_is e twelve

takes_fault : (i : Input) (l : Line) {c : Cause} → takes i l ≡ Err c → Comes (number_in c)
unfolding takes
takes_fault i (line.Vertex x y z) e =
    cond_fault (eqb (length i.elements + length i.marks) 0) (over 3 (length i.coordinates) 768) (input (i.coordinates ++ (x ∷ y ∷ z ∷ [])) i.elements i.marks) e
takes_fault i (line.Element a b c d) e = cond_fault (eqb (length i.marks) 0) (over 4 (length i.elements) 1024) (input i.coordinates (i.elements ++ (a ∷ b ∷ c ∷ d ∷ [])) i.marks) e
takes_fault i (line.Mark r) e = cond_fault true (over 1 (length i.marks) 256) (input i.coordinates i.elements (i.marks ++ (r ∷ []))) e
takes_fault i (line.Refused p) e = cause_is e twelve

refused_is : {c : Cause} {k : ℕ} {r : Refusal} → refused {A = Input} c k ≡ Err r → Comes (number_in c) → Comes (number_in r.cause)
refused_is {c} {k} {r} e x = let s : refusal_at c k ≡ r = cc in comes_is (ap (λ (q : Refusal). number_in q.cause) s) x

all_refused : {X : Type 0} {i : Input} {r : Refusal} → Ok i ≡ Err r → X
all_refused e = let z : ◌≡◌ {A = ℕ} 0 1 = cc in absurd (omega arith)

read_number : (ps : List (List ℕ)) (i : Input) (k : ℕ) {r : Refusal} → read_from i k ps ≡ Err r → Comes (number_in r.cause)
unfolding read_from
read_number [] i k e = all_refused e
read_number (l ∷ []) i k {r} e = go (eqb (length l) 0) e
  where
    go : (t : Bool) → cond t (Ok i) (refused cause.Line k) ≡ Err r → Comes (number_in r.cause)
    go true e = all_refused e
    go false e = refused_is e twelve
read_number (l ∷ q ∷ ps) i k {r} e = go (λ j f. read_number (q ∷ ps) j (suc k) f) (takes i (line_of l k)) refl
  where
    go : ((j : Input) → read_from j (suc k) (q ∷ ps) ≡ Err r → Comes (number_in r.cause)) → (t : Result Input Cause) → takes i (line_of l k) ≡ t → Comes (number_in r.cause)
    go f (Ok j) g = f j (sym (read_taken i k l (q ∷ ps) (omega arith) j g) ∙ e)
    go f (Err c) g = refused_is (sym (read_fault i k l (q ∷ ps) (omega arith) c g) ∙ e) (takes_fault i (line_of l k) g)

-- ---- opening: 1 to 8

counted_not : {X : Type 0} {r : Refusal} {c : Counts} → ◌≡◌ {A = Result Counts Refusal} (Err r) (Ok c) → X
counted_not e = let z : ◌≡◌ {A = ℕ} 0 1 = cc in absurd (omega arith)

opens_number : (i : Input) {r : Refusal} → opens i ≡ Err r → Comes (number_in r.cause)
unfolding opens
opens_number i {r} = go (judged i.coordinates i.elements 1536 1024 6144) refl
  where
    go : (v : Verdict) → judged i.coordinates i.elements 1536 1024 6144 ≡ v → answer v (length i.coordinates / 3) (length i.elements / 4) ≡ Err r → Comes (number_in r.cause)
    go (Err q) f e = let s : q ≡ r = cc in comes_is (ap (λ (x : Refusal). number_in x.cause) s) (comes_low (judged_number i.coordinates i.elements 1536 1024 6144 q.cause q.place f).1)
    go (Ok u) f e = counted_not (sym e)

pub opens_unsplit : (i : Input) {c : Counts} → opens i ≡ Ok c → Unsplit (opened_tables i) c
unfolding opens opened_tables
opens_unsplit i {c} = go (judged i.coordinates i.elements 1536 1024 6144) refl
  where
    go : (v : Verdict) → judged i.coordinates i.elements 1536 1024 6144 ≡ v → answer v (length i.coordinates / 3) (length i.elements / 4) ≡ Ok c → Unsplit (opened_tables i) c
    go (Err q) f e = counted_not e
    go (Ok u) f e =
        let s : started (length i.coordinates / 3) (length i.elements / 4) ≡ c = cc in
        subst (λ (d : Counts). Unsplit (opened_tables i) d) s (laid_unsplit i.coordinates i.elements 1536 1024 6144 f)

pub opens_rows : (i : Input) {c : Counts} → opens i ≡ Ok c → c.rows ≡ length i.elements / 4
unfolding opens
opens_rows i {c} = go (judged i.coordinates i.elements 1536 1024 6144)
  where
    go : (v : Verdict) → answer v (length i.coordinates / 3) (length i.elements / 4) ≡ Ok c → c.rows ≡ length i.elements / 4
    go (Err q) e = counted_not e
    go (Ok u) e =
        let s : started (length i.coordinates / 3) (length i.elements / 4) ≡ c = cc in
        sym (ap (λ (d : Counts). d.rows) s)

-- ---- refining opened tables: 0, 10 and 2

module _ {t : Lent} {c : Counts} (u : Unsplit t c) (marks : List ℕ) where
  abbrev s : Sound t c
  s = u.sound

  -- rows are roots, so none is of depth 60
  unsplit_shallow : MarkedDeep (mesh_of t c) marks → ⊥
  unsplit_shallow d = omega (arith, d.deep, root_depth s.grown d.row (rw (u.roots_are, ← sound_rows s) d.there))

  unsplit_number : {r : Result Refined Refusal} {t' : Lent} → Refines t c marks r t' → Comes (closure.reported r).number
  unsplit_number {r} {t'} x = go x
    where
      go : Refines t c marks r t' → Comes (closure.reported r).number
      go (closure.unsound f y) = absurd (f s)
      go (closure.sound s' (closure.missing p e y)) = rw y.reports ten
      go (closure.sound s' (closure.present e (closure.deep d y))) = absurd (never_deep x unsplit_shallow 0 y.answers)
      go (closure.sound s' (closure.present e (closure.shallow n (closure.outgrown o y)))) = rw y.reports (comes_low (omega arith))
      go (closure.sound s' (closure.present e (closure.shallow n (closure.fits o y)))) = rw y.reports (comes_low (omega arith))

-- opened tables are never refused by 9 or 11
pub opened_never : (i : Input) {c : Counts} → opens i ≡ Ok c → {marks : List ℕ} {r : Result Refined Refusal} {t' : Lent} → Refines (opened_tables i) c marks r t' → (p : ℕ) → (r ≡ refused cause.Unsound p → ⊥) × (r ≡ refused cause.Depth p → ⊥)
opened_never i o {marks} {r} x p =
    let c = unsplit_number (opens_unsplit i o) marks x in
    (λ e. c.nine (ap (λ (a : Result Refined Refusal). (closure.reported a).number) e), λ e. c.eleven (ap (λ (a : Result Refined Refusal). (closure.reported a).number) e))

-- ---- the texts

record Answered (text : List ℕ) : Type 0 where
  number : ℕ
  begins : Begins number text
  comes : Comes number

headline_answered : (r : Report) {text : List ℕ} → text ≡ headline r → Comes r.number → Answered text
headline_answered r e c = record { number = r.number; begins = rw e (headline_begins r); comes = c }

refining_answered : {t : Lent} {c : Counts} {marks text : List ℕ} → Unsplit t c → Refining t c marks text → Answered text
unfolding refined_text
refining_answered {t} {c} {marks} {text} u x = go x.answer (unsplit_number u marks x.refines) x.prints
  where
    go : (r : Result Refined Refusal) → Comes (closure.reported r).number → text ≡ refined_text c.vertices r x.after → Answered text
    go (Err r) k e = headline_answered (refusal (number_in r.cause) r.place) e k
    go (Ok r) k e = record { number = 0; begins = rw e (begins_more (leaf_lines x.after r.counts) (begins_more (p_lines x.after.points x.after.records c.vertices r.counts.vertices) (headline_begins (done r.counts r.splits)))); comes = k }

answered : (r : Result Input Refusal) {text : List ℕ} → ((q : Refusal) → r ≡ Err q → Comes (number_in q.cause)) → Answer r text → Answered text
answered (Err r) c x = headline_answered (refusal (number_in r.cause) r.place) x (c r refl)
answered (Ok i) {text} c x = go (opens i) refl x
  where
    go : (o : Result Counts Refusal) → opens i ≡ o → Outcome o i text → Answered text
    go (Err r) e x = headline_answered (refusal (number_in r.cause) r.place) x (opens_number i e)
    go (Ok c) e x = refining_answered (opens_unsplit i e) x

-- no text that the program writes is the C line of number 9 or of number 11 (01, "What comes back")
pub program_never : {input text : List ℕ} → Program input text → (p : ℕ) → (text ≡ headline (refusal 9 p) → ⊥) × (text ≡ headline (refusal 11 p) → ⊥)
program_never {input} {text} x p =
    let a = answered (read_all input) (λ q e. read_number _ _ _ e) x.answers in
    let few = a.comes.few in (
      λ e. a.comes.nine (begins_one (omega arith) (omega arith) a.begins (rw e (headline_begins (refusal 9 p)))),
      λ e. a.comes.eleven (begins_one (omega arith) (omega arith) a.begins (rw e (headline_begins (refusal 11 p)))),
    )
