use Rattle.closure.specs.Marking.{Marking}
use Rattle.closure.proofs.marks.refine_marks.Given as goal

abbrev pub invariant-loop-mark : goal.invariant-loop-mark
invariant-loop-mark l = Marking l.initial.records l.initial.rows l.initial.scratch l.initial.d l.room l.marks l.records l.rows l.scratch l.d l.mark-index
