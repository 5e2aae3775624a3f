use borrow.Author.Rules.{rules}
use Rattle.closure.proofs.laws.Call.{refine_unsound, refine_sound}
use Rattle.closure.proofs.refine_in.Goals as goal

pub returns-then-not-check_in : goal.returns-then-not-check_in
returns-then-not-check_in c = refine_unsound c.requires (c.check_in.ensures.decides, c.check_in.ensures.work_after) (search rules) c.at.ensures

pub returns : goal.returns
returns c = refine_sound c.requires (c.check_in.ensures.decides, c.check_in.ensures.work_after) (search rules) c.refine_sound.ensures
