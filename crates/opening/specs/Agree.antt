-- Whether tables hold what opening afresh would give (01, "Sound tables": the same colours and, but for the first child, the same rows).
use Rattle.std.specs.Prelude.{Bool, true, ◌&&◌, List, ℕ, zero, suc, ◌+◌, ◌*◌, ◌/◌, eqb, leb, length, get_or, Float, is_ok}
use Rattle.split.specs.Row.{same_row}
use Rattle.tables.specs.declared.record.Record.{Record}
use Rattle.tables.specs.Layout.{record_at, row_at, most_rows, most_vertices, point_width}
use Rattle.intake.specs.Verdict.{plain}
use Rattle.intake.specs.Cells.{Cells}
use Rattle.opening.specs.Colours.{colours, largest}
use Rattle.opening.specs.Order.{root_of}
use Rattle.opening.specs.Opening.{initial, late}
use Rattle.opening.specs.Scratch.{links_at}

-- the test holds at all places below n
unfoldable pub every : (ℕ → Bool) → ℕ → Bool
every test zero = true
every test (suc n) = every test n && test n

unfoldable pub same_record : Record → Record → Bool
same_record a b = eqb a.first b.first && eqb a.second b.second

unfoldable pub records_agree : (ℕ → ℕ) → List ℕ → ℕ → Bool
records_agree colour records n = every (λ v. same_record (record_at records v) (initial (colour v))) n

unfoldable pub rows_agree : ℕ → (ℕ → ℕ) → Cells → List ℕ → ℕ → Bool
rows_agree N colour E rows n = every (λ k. same_row (row_at rows k) (root_of N colour E k)) n

-- the colour of each vertex by Algorithm 2
abbrev pub paint : List Float → Cells → ℕ → ℕ
paint F E v = get_or (colours E (length F / point_width)) v 0

-- there is an element, all is within capacity, and the memory has room for an index of all corner slots
unfoldable pub workable : ℕ → ℕ → ℕ → Bool
workable coordinates elements memory = leb coordinates (point_width * most_vertices) && (leb 1 elements && (leb elements most_rows && leb (links_at + 4 * elements) memory))

-- opening F and E passes tests 3 to 8, and the tables have its records and, but for the first child, its rows
unfoldable pub agreed : List Float → Cells → List ℕ → List ℕ → Bool
agreed F E records rows =
    is_ok (plain F E (late E (length F / point_width)))
    && (records_agree (paint F E) records (length F / point_width) && rows_agree (largest (colours E (length F / point_width))) (paint F E) E rows E.count)
