-- From what was read to what is written.
use mathlib.Core.Path.{◌≡◌, refl, sym, ap, ◌∙◌}
use mathlib.Core.List.{List}
use Prim.Native.Nat.{ℕ, ◌/◌}
use native.Mathlib.Omega.{arith}
use lib.Ieee.{Float}
use lib.ListN.{length}
use lib.Seq.{sets}
use Rattle.tables.specs.declared.layout.Counts.{Counts}
use Rattle.tables.specs.Layout.{started}
use Rattle.tables.specs.Mesh.{Lent, laid}
use Rattle.intake.specs.Verdict.{Verdict}
use Rattle.intake.specs.Cells.{quads}
use Rattle.opening.specs.Opening.{answer, tables, judged, opened_mesh, Opens}
use Rattle.closure.proofs.laws.Promise.{one_outcome}
use Rattle.sound.specs.Sound.{Sound}
use Rattle.sound.proofs.laws.Opened.{opened_sound}
use Rattle.std.specs.Prelude.{Result, Ok, Err}
use Rattle.tables.specs.declared.refusal.Refusal.{Refusal}
use Rattle.text.specs.Input.{Input, read_all}
use Rattle.text.specs.Putting.{Puts}
use Rattle.text.specs.Program.{refusal_line, Refining, opens, opened_tables, Outcome, Answer, Program, Writes}
use Rattle.text.specs.Working.{Finishes, Answers, Replies}

refused_not : {e : Refusal} {c : Counts} → ◌≡◌ {A = Result Counts Refusal} (Err e) (Ok c) → ⊥
refused_not q = cc

done_counts : {c d : Counts} → ◌≡◌ {A = Result Counts Refusal} (Ok c) (Ok d) → c ≡ d
done_counts q = cc

ok_err : {X : Type 0} {n : ℕ} {q : Refusal} → ◌≡◌ {A = Result ℕ Refusal} (Ok n) (Err q) → X
ok_err e = absurd (cc)

-- ---- opening, in tables of these lengths

module _ {F : List Float} {E : List ℕ} {t : Lent} (ep : length t.points ≡ 1536) (er : length t.records ≡ 1024) (ew : length t.rows ≡ 6144) {a : Result Counts Refusal} {t' : Lent} (x : Opens F E t a t') where
  abbrev v : Verdict
  v = judged F E 1536 1024 6144

  is_answer : a ≡ answer v (length F / 3) (length E / 4)
  is_answer = rw (ep, er, ew) at x.answers

  is_tables : t' ≡ tables v F E t
  is_tables = rw (ep, er, ew) at x.leaves

  is_opens : (i : Input) → F ≡ i.coordinates → E ≡ i.elements → a ≡ opens i
  unfolding opens
  is_opens i ef ee = rw (← ef, ← ee) is_answer

  module _ {c : Counts} (q : a ≡ Ok c) where
    record Passed : Type 0 where
      passed : v ≡ Ok tt
      counts : c ≡ started (length F / 3) (length E / 4)
      after : t' ≡ laid (opened_mesh F (quads E)) 1536 1024 6144

    does_pass : Passed
    does_pass = go v refl
      where
        go : (u : Verdict) → v ≡ u → Passed
        go (Err r) e = let y : a ≡ Err r = rw e at is_answer in absurd (refused_not (sym y ∙ q))
        go (Ok u) e = record {
          passed = e;
          counts = let y : a ≡ Ok (started (length F / 3) (length E / 4)) = rw e at is_answer in done_counts (sym q ∙ y);
          after = let y : t' ≡ laid (opened_mesh F (quads E)) (length t.points) (length t.records) (length t.rows) = rw e at is_tables in rw (ep, er, ew) at y;
        }

    pub answer_sound : Sound t' c
    answer_sound = let d = does_pass in rw (d.after, d.counts) (opened_sound F E 1536 1024 6144 d.passed)

    module _ (i : Input) (ef : F ≡ i.coordinates) (ee : E ≡ i.elements) {m : List ℕ} (em : m ≡ i.marks) where
      same_tables : t' ≡ opened_tables i
      unfolding opened_tables
      same_tables = rw (← ef, ← ee) does_pass.after

      refining_outcome : {text : List ℕ} → Refining t' c m text → Outcome (opens i) i text
      unfolding opened_tables
      refining_outcome r = rw (← is_opens i ef ee, q, ← em, ← same_tables) r

      pub answer_done : {o o' : List ℕ} {r : Result ℕ Refusal} → Finishes t' c m o r o' → Answers i o r o'
      answer_done y = record {
        done = λ n z. let f = y.done n z in record { text = f.text; outcome = refining_outcome f.refining; puts = f.puts };
        refuses = λ p z. let f = y.refuses p z in (f.0, refining_outcome f.1);
      }

  pub answer_refused : (i : Input) → F ≡ i.coordinates → E ≡ i.elements → {p : Refusal} → a ≡ Err p → {r : Result ℕ Refusal} → r ≡ Err p → {o : List ℕ} → Answers i o r o
  answer_refused i ef ee {p} q z = record {
    done = λ n s. ok_err (sym s ∙ z);
    refuses = λ k s. let e : p ≡ k = cc in (refl, rw (← is_opens i ef ee, q, e) refl);
  }

pub ruleset answering = (answer_sound, answer_done, answer_refused)

-- ---- all of the input

module _ {l : List ℕ} {o : List ℕ} where
  pub reply_read : {o' : List ℕ} {r : Result ℕ Refusal} (i : Input) → Ok i ≡ read_all l → Answers i o r o' → Replies l o r o'
  reply_read i q y = record {
    done = λ n z. let a = y.done n z in
        record {
          text = a.text;
          program = record { answers = rw (← q) a.outcome };
          sized = omega (arith, a.puts.ends);
          fits = omega (arith, a.puts.ends, a.puts.few);
          stores = a.puts.stores;
        };
    refuses = λ p z. let a = y.refuses p z in (a.0, record { answers = rw (← q) a.1 });
  }

  pub reply_refused : (p : Refusal) → Err p ≡ read_all l → {r : Result ℕ Refusal} → r ≡ Err p → Replies l o r o
  reply_refused p q {r} z = record {
    done = λ n s. ok_err (sym s ∙ z);
    refuses = λ k s. let e : p ≡ k = cc in (refl, record { answers = rw (← q, e) refl });
  }

pub ruleset replying = (reply_read, reply_refused)

module _ {l o o' : List ℕ} {r : Result ℕ Refusal} (x : Replies l o r o') where
  pub program_done : {n : ℕ} → r ≡ Ok n → Writes l o n o'
  program_done {n} q = x.done n q

  pub program_refused : {p : Refusal} → r ≡ Err p → {o₂ : List ℕ} {n : ℕ} → Puts 86 o' 0 (refusal_line p) o₂ n → Writes l o n o₂
  program_refused {p} q y =
      let a = x.refuses p q in
      record { text = refusal_line p; program = a.1; sized = omega (arith, y.ends); fits = omega (arith, y.ends, y.few); stores = y.stores ∙ ap (λ (b : List ℕ). sets b 0 (refusal_line p)) a.0 }

pub ruleset writing = (program_done, program_refused)

-- ---- one text for an input

one_refining : {t : Lent} {c : Counts} {m a b : List ℕ} → Refining t c m a → Refining t c m b → a ≡ b
one_refining {c = c} x y =
    let o = one_outcome x.refines y.refines in
    x.prints ∙ rw (o.0, o.1) (sym y.prints)

one_answer : (r : Result Input Refusal) {a b : List ℕ} → Answer r a → Answer r b → a ≡ b
one_answer (Err r) x y = x ∙ sym y
one_answer (Ok i) x y = go (opens i) x y
  where
    go : (o : Result Counts Refusal) {a b : List ℕ} → Outcome o i a → Outcome o i b → a ≡ b
    go (Err r) x y = x ∙ sym y
    go (Ok c) x y = one_refining x y

pub one_text : {l a b : List ℕ} → Program l a → Program l b → a ≡ b
one_text {l} x y = one_answer (read_all l) x.answers y.answers

pub one_written : {l o : List ℕ} {n n' : ℕ} {o' o₂ : List ℕ} → Writes l o n o' → Writes l o n' o₂ → (n ≡ n') × (o' ≡ o₂)
one_written {o = o} x y = let e = one_text x.program y.program in (x.sized ∙ ap length e ∙ sym y.sized, x.stores ∙ ap (sets o 0) e ∙ sym y.stores)
