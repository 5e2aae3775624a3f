-- What the parts of the program need and leave. Nothing here is promised to callers.
use Rattle.std.specs.Prelude.{◌≡◌, List, ℕ, ◌≤◌, length, Result, Ok, Err}
use Rattle.tables.specs.declared.refusal.Refusal.{Refusal}
use Rattle.tables.specs.declared.layout.Counts.{Counts}
use Rattle.tables.specs.Mesh.{Lent}
use Rattle.sound.specs.Sound.{Sound}
use Rattle.text.specs.Input.{Input}
use Rattle.text.specs.Putting.{Room, Puts}
use Rattle.text.specs.Program.{refusal_line, Refining, Outcome, opens, Program, Writes}

-- sound tables of 512 vertices and 768 rows
pub record Held (t : Lent) (c : Counts) : Type 0 where
  pub sound : Sound t c
  pub points : length t.points ≡ 1536
  pub records : length t.records ≡ 1024
  pub rows : length t.rows ≡ 6144

-- and room for the L lines of 768 leaves
pub record Listable (t : Lent) (c : Counts) (at : ℕ) : Type 0 where
  pub held : Held t c
  pub room : Room 146688 at

-- and the first vertices are initial
pub record Printable (t : Lent) (c : Counts) (initial : ℕ) : Type 0 where
  pub held : Held t c
  pub initials : initial ≤ c.vertices

-- what the lists hold is opened and refined, and the text stands in the buffer; or the refusal, and nothing is written
pub record Finished (t : Lent) (c : Counts) (marks out : List ℕ) (e : ℕ) (out' : List ℕ) : Type 0 where
  pub text : List ℕ
  pub refining : Refining t c marks text
  pub puts : Puts 262144 out 0 text out' e

pub record Finishes (t : Lent) (c : Counts) (marks out : List ℕ) (r : Result ℕ Refusal) (out' : List ℕ) : Type 0 where
  pub done : (e : ℕ) → r ≡ Ok e → Finished t c marks out e out'
  pub refuses : (q : Refusal) → r ≡ Err q → (out' ≡ out) × Refining t c marks (refusal_line q)

-- the same of opening before it
pub record Answered (i : Input) (out : List ℕ) (e : ℕ) (out' : List ℕ) : Type 0 where
  pub text : List ℕ
  pub outcome : Outcome (opens i) i text
  pub puts : Puts 262144 out 0 text out' e

pub record Answers (i : Input) (out : List ℕ) (r : Result ℕ Refusal) (out' : List ℕ) : Type 0 where
  pub done : (e : ℕ) → r ≡ Ok e → Answered i out e out'
  pub refuses : (q : Refusal) → r ≡ Err q → (out' ≡ out) × Outcome (opens i) i (refusal_line q)

-- the same of reading before that
pub record Replies (l out : List ℕ) (r : Result ℕ Refusal) (out' : List ℕ) : Type 0 where
  pub done : (e : ℕ) → r ≡ Ok e → Writes l out e out'
  pub refuses : (q : Refusal) → r ≡ Err q → (out' ≡ out) × Program l (refusal_line q)
