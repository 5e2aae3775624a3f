-- Opening (01, "Opening" and "What comes back"): tests 1 to 8 in that order, each over the whole input before the next, the smallest place; or the opened mesh.
use Rattle.std.specs.Prelude.{◌≡◌, List, ℕ, ◌/◌, length, get_or, Float, Result, Ok, Err}
use Rattle.tables.specs.declared.record.Record.{Record}
use Rattle.tables.specs.Layout.{point_at, started, point_width}
use Rattle.tables.specs.Mesh.{Lent, Mesh, up_to, laid}
use Rattle.tables.specs.Report.{Report, refusal, done}
use Rattle.tables.specs.declared.layout.Counts.{Counts}
use Rattle.tables.specs.declared.refusal.Cause.TheVariants.{Same, Third, Colour}
use Rattle.tables.specs.declared.refusal.Refusal.{Refusal}
use Rattle.tables.specs.Refusal.{number_of}
use Rattle.intake.specs.Search.{first}
use Rattle.intake.specs.Cells.{Cells, quads}
use Rattle.intake.specs.Causes.{same, third}
use Rattle.intake.specs.Verdict.{Verdict, at, plain, fitting}
use Rattle.opening.specs.Colours.{colours, garish, largest}
use Rattle.opening.specs.Order.{root_of}

-- tests 6 to 8, through the index
unfoldable pub late : Cells → ℕ → Verdict
late E vertices = at (first (same E) E.count) Same (at (first (third E) E.count) Third (at (first (garish E) vertices) Colour (Ok tt)))

-- all tests in their order
unfoldable pub judged : List Float → List ℕ → ℕ → ℕ → ℕ → Verdict
judged F E points records rows = fitting (length F) (length E) points records rows (plain F (quads E) (late (quads E) (length F / point_width)))

-- an initial vertex: its colour, then 4294967295 (01, "The tables")
abbrev pub initial : ℕ → Record
initial colour = record { first = colour; second = 4294967295 }

-- the opened mesh: the points as given, the colours of Algorithm 2, the rows of Definition 2
unfoldable pub opened_mesh : List Float → Cells → Mesh
opened_mesh F E =
    let vertices = length F / point_width in
    let cs = colours E vertices in
    record {
      points = up_to (point_at F) vertices;
      records = up_to (λ v. initial (get_or cs v 0)) vertices;
      rows = up_to (root_of (largest cs) (λ v. get_or cs v 0) E) E.count;
    }

-- the answer: the counts of the mesh, or the refusal
abbrev pub answer : Verdict → ℕ → ℕ → Result Counts Refusal
answer (Err r) vertices rows = Err r
answer (Ok x) vertices rows = Ok (started vertices rows)

-- the numbers that each case of the answer stands for; opening splits nothing (01, "What comes back")
abbrev pub reported : Result Counts Refusal → Report
reported (Ok c) = done c 0
reported (Err r) = refusal (number_of r.cause) r.place

-- the numbers that the verdict asks for
abbrev pub report : Verdict → ℕ → ℕ → Report
report (Err r) vertices rows = refusal (number_of r.cause) r.place
report (Ok x) vertices rows = done (started vertices rows) 0

-- the tables: as at entry where refused, else the mesh and zeros after it, to the end of the lent tables
abbrev pub tables : Verdict → List Float → List ℕ → Lent → Lent
tables (Err r) F E t = t
tables (Ok x) F E t = laid (opened_mesh F (quads E)) (length t.points) (length t.records) (length t.rows)

abbrev pub verdict_on : List Float → List ℕ → Lent → Verdict
verdict_on F E t = judged F E (length t.points) (length t.records) (length t.rows)

abbrev pub lent : List Float → List ℕ → List ℕ → Lent
lent points records rows = record { points = points; records = records; rows = rows }

-- The promise of opening F and E into the lent tables t: the answer r, and the tables t' afterwards.
pub record Opens (F : List Float) (E : List ℕ) (t : Lent) (r : Result Counts Refusal) (t' : Lent) : Type 0 where
  pub answers : r ≡ answer (verdict_on F E t) (length F / point_width) (length E / 4)
  pub reports : reported r ≡ report (verdict_on F E t) (length F / point_width) (length E / 4)
  pub leaves : t' ≡ tables (verdict_on F E t) F E t
