-- Refining (01, "Closure" and "What comes back"): the tests 9, 10, 11 and 2 in that order, or all marks with all that they force.
use Rattle.std.specs.Prelude.{◌≡◌, Bool, List, ℕ, ◌-◌, ◌/◌, leb, length, get_or, Some, None, Result, Ok, Err}
use Rattle.tables.specs.declared.refusal.Cause.{Cause}
use Rattle.tables.specs.declared.refusal.Cause.TheVariants.{Depth, Mark, Room, Unsound}
use Rattle.tables.specs.declared.refusal.Refusal.{Refusal}
use Rattle.tables.specs.Refusal.{number_of, refused}
use Rattle.tables.specs.declared.layout.Counts.{Counts}
use Rattle.tables.specs.declared.layout.Size.{Size}
use Rattle.tables.specs.Layout.{room_of, resized}
use Rattle.tables.specs.Mesh.{Lent, mesh_of, laid}
use Rattle.tables.specs.Report.{Report, refusal, done}
use Rattle.intake.specs.Search.{first}
use Rattle.sound.specs.Sound.{Sound}
use Rattle.run.specs.Skeleton.{Skeleton, skeleton, meshed}
use Rattle.run.specs.Run.{RunAll}
use Rattle.run.specs.Demand.{Deep, Outgrows}
use Rattle.closure.specs.declared.answer.Refined.{Refined}

-- the mark at position j is not below the row count at entry (01, number 10)
abbrev pub absent : ℕ → List ℕ → ℕ → Bool
absent rows marks j = leb rows (get_or marks j 0)

abbrev pub room_in : Lent → Size
room_in t = room_of (length t.points) (length t.records) (length t.rows)

-- accepted: the counts afterwards and the number of splits
abbrev pub refined_to : Counts → ℕ → Result Refined Refusal
refined_to c splits = Ok (record { counts = c; splits = splits })

-- the numbers that each case of the answer stands for (01, "What comes back")
abbrev pub reported : Result Refined Refusal → Report
reported (Ok r) = done r.counts r.splits
reported (Err e) = refusal (number_of e.cause) e.place

-- refused for this cause at this place, with every lent number as at entry
pub record Refuses (t : Lent) (cause : Cause) (place : ℕ) (r : Result Refined Refusal) (t' : Lent) : Type 0 where
  pub answers : r ≡ refused cause place
  pub reports : reported r ≡ refusal (number_of cause) place
  pub leaves : t' ≡ t

-- what an engine makes of records and rows over marks: `RunAll`, or that of another engine (02, L10)
abbrev pub Engine : Type 1
Engine = Skeleton → List ℕ → Skeleton → Type 0

-- accepted: the tables are those that the engine leads to over all marks, with the midpoints' points after the rule and zeros to the end; each split added two rows
pub record Accepts (E : Engine) (t : Lent) (c : Counts) (marks : List ℕ) (r : Result Refined Refusal) (t' : Lent) : Type 0 where
  pub after : Skeleton
  pub run : E (skeleton (mesh_of t c)) marks after
  pub answers : r ≡ refined_to (resized c (length after.records) (length after.rows)) ((length after.rows - c.rows) / 2)
  pub reports : reported r ≡ done (resized c (length after.records) (length after.rows)) ((length after.rows - c.rows) / 2)
  pub leaves : t' ≡ laid (meshed (mesh_of t c).points after) (length t.points) (length t.records) (length t.rows)

-- number 2: what is needed outgrows the room
pub data OnRoom (E : Engine) (t : Lent) (c : Counts) (i roots : ℕ) (marks : List ℕ) (r : Result Refined Refusal) (t' : Lent) : Type 0 where
  outgrown : Outgrows (room_in t) (mesh_of t c) i roots marks → Refuses t Room 0 r t' → OnRoom E t c i roots marks r t'
  fits : (Outgrows (room_in t) (mesh_of t c) i roots marks → ⊥) → Accepts E t c marks r t' → OnRoom E t c i roots marks r t'

-- number 11, before 2: what is needed would split an element of depth 60. When that is so the marks alone tell: `refused_deep` of proofs/laws/Refusals.antt (02, L9)
pub data OnDepth (E : Engine) (t : Lent) (c : Counts) (i roots : ℕ) (marks : List ℕ) (r : Result Refined Refusal) (t' : Lent) : Type 0 where
  deep : Deep (mesh_of t c) roots marks → Refuses t Depth 0 r t' → OnDepth E t c i roots marks r t'
  shallow : (Deep (mesh_of t c) roots marks → ⊥) → OnRoom E t c i roots marks r t' → OnDepth E t c i roots marks r t'

-- number 10, before 11: a mark that is not below the row count, at its first position
pub data OnMarks (E : Engine) (t : Lent) (c : Counts) (i roots : ℕ) (marks : List ℕ) (r : Result Refined Refusal) (t' : Lent) : Type 0 where
  missing : (p : ℕ) → first (absent c.rows marks) (length marks) ≡ Some p → Refuses t Mark p r t' → OnMarks E t c i roots marks r t'
  present : first (absent c.rows marks) (length marks) ≡ None → OnDepth E t c i roots marks r t' → OnMarks E t c i roots marks r t'

-- The promise of refining the marks by an engine in the lent tables t with counts c: the answer r, and the tables t' afterwards. Number 9 comes first.
pub data RefinesBy (E : Engine) (t : Lent) (c : Counts) (marks : List ℕ) (r : Result Refined Refusal) (t' : Lent) : Type 0 where
  unsound : (Sound t c → ⊥) → Refuses t Unsound 0 r t' → RefinesBy E t c marks r t'
  sound : (s : Sound t c) → OnMarks E t c s.initials s.roots marks r t' → RefinesBy E t c marks r t'

-- Refining by closure in row order (01, "Closure")
abbrev pub Refines : Lent → Counts → List ℕ → Result Refined Refusal → Lent → Type 0
Refines t c marks r t' = RefinesBy RunAll t c marks r t'
