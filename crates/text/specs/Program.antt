-- The program (01, "The program"): from the bytes read to the bytes written.
use Rattle.std.specs.Prelude.{◌≡◌, cond, List, ◌++◌, map, ℕ, ◌/◌, ◌≤◌, eqb, length, get_or, Result, Ok, Err}
use Rattle.std.proofs.lemmas.List.Edits.{sets}
use Rattle.tables.specs.declared.layout.Counts.{Counts}
use Rattle.tables.specs.Layout.{row_at}
use Rattle.tables.specs.Mesh.{Lent, mesh_of, laid}
use Rattle.tables.specs.Report.{Report, refusal}
use Rattle.forest.specs.Shallow as forest
use Rattle.intake.specs.Cells.{quads}
use Rattle.opening.specs.Opening as opening
use Rattle.sound.specs.Forest.{element_of}
use Rattle.closure.specs.declared.answer.Refined.{Refined}
use Rattle.closure.specs.Refine as closure
use Rattle.leaves.specs.Listing.{level_in, listing}
use Rattle.tables.specs.declared.refusal.Refusal.{Refusal}
use Rattle.tables.specs.Refusal.{number_of}
use Rattle.text.specs.Input.{Input, read_all}
use Rattle.text.specs.Output.{c_line, l_line, p_lines, l_lines, texts}

-- C, number, vertices, rows, splits; if refused C, number, place, 0, 0
unfoldable pub headline : Report → List ℕ
headline r = cond (eqb r.number 0) (c_line 0 r.counts.vertices r.counts.rows r.splits) (c_line r.number r.place 0 0)

-- refused: C, the number of the cause, the place, 0, 0
abbrev pub refusal_line : Refusal → List ℕ
refusal_line r = headline (refusal (number_of r.cause) r.place)

-- L lines of all leaves, in the order of the listing
unfoldable pub leaf_lines : Lent → Counts → List ℕ
leaf_lines t c = let W = (mesh_of t c).rows in l_lines t.rows (listing W) (map (level_in W) (listing W)) (length (listing W))

-- the L line of row k with the root of its element, in the forest of the first `roots` rows
abbrev pub rooted_line : Lent → Counts → ℕ → ℕ → List ℕ
rooted_line t c roots k = l_line k (forest.root_of (element_of (mesh_of t c) roots k)) (level_in (mesh_of t c).rows k) (row_at t.rows k)

-- the same of all leaves: the law on the printed roots speaks of it, and nothing is promised with it
unfoldable pub rooted_lines : Lent → Counts → ℕ → List ℕ
rooted_lines t c roots = let L = listing (mesh_of t c).rows in texts (λ j. rooted_line t c roots (get_or L j 0)) (length L)

-- what is printed of refining a mesh of the given number of initial vertices: where it refused, the C line alone
unfoldable pub refined_text : ℕ → Result Refined Refusal → Lent → List ℕ
refined_text initial (Err r) t = headline (closure.reported (Err r))
refined_text initial (Ok r) t = headline (closure.reported (Ok r)) ++ p_lines t.points t.records initial r.counts.vertices ++ leaf_lines t r.counts

-- the text is that of refining once
pub record Refining (t : Lent) (c : Counts) (marks text : List ℕ) : Type 0 where
  pub answer : Result Refined Refusal
  pub after : Lent
  pub refines : closure.Refines t c marks answer after
  pub prints : text ≡ refined_text c.vertices answer after

-- tables of 512 vertices and 768 rows
unfoldable pub opens : Input → Result Counts Refusal
opens i = opening.answer (opening.judged i.coordinates i.elements 1536 1024 6144) (length i.coordinates / 3) (length i.elements / 4)

unfoldable pub opened_tables : Input → Lent
opened_tables i = laid (opening.opened_mesh i.coordinates (quads i.elements)) 1536 1024 6144

-- the text is that of the opened mesh; where opening refused, the C line alone
abbrev pub Outcome : Result Counts Refusal → Input → List ℕ → Type 0
Outcome (Err r) i text = text ≡ headline (opening.reported (Err r))
Outcome (Ok c) i text = Refining (opened_tables i) c i.marks text

-- all lines are read before opening starts; where one is bad, the C line alone
abbrev pub Answer : Result Input Refusal → List ℕ → Type 0
Answer (Err r) text = text ≡ refusal_line r
Answer (Ok i) text = Outcome (opens i) i text

-- the text is what the program writes for this input
pub record Program (input text : List ℕ) : Type 0 where
  pub answers : Answer (read_all input) text

-- The promise of the function under `main`: the text stands at the front of the lent buffer, which is long enough, and the answer is its length. What lies after it is as it was.
pub record Writes (input out : List ℕ) (size : ℕ) (out' : List ℕ) : Type 0 where
  pub text : List ℕ
  pub program : Program input text
  pub sized : size ≡ length text
  pub fits : size ≤ 262144
  pub stores : out' ≡ sets out 0 text
