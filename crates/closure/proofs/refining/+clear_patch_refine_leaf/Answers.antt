use Rattle.std.proofs.lemmas.Result.{err_from_is_err_and}
use Rattle.closure.proofs.laws.Clearing.{half_falls, clearing_falls, clearing, refining}
use Rattle.closure.proofs.refining.+clear_patch_refine_leaf.Goals as goal

pub clear_patch-loop-b-init : goal.clear_patch-loop-b-init
clear_patch-loop-b-init t c = search clearing

pub clear_patch-look-seen-requires : goal.clear_patch-look-seen-requires
clear_patch-look-seen-requires t c = search clearing

pub clear_patch-refine_leaf-requires : goal.clear_patch-refine_leaf-requires
clear_patch-refine_leaf-requires t c = (search (half_falls, clearing_falls), search clearing)

pub clear_patch-returns-in_err-d-in-Some : goal.clear_patch-returns-in_err-d-in-Some
clear_patch-returns-in_err-d-in-Some t c = let p = err_from_is_err_and c.from_residual.result c.from_residual.ensures.1 in rw (p.1, p.2) (search (clearing, c.in_err-d-in-Some.was))

pub clear_patch-loop-b-smaller : goal.clear_patch-loop-b-smaller
clear_patch-loop-b-smaller t c = search (clearing, c.in_ok-d-in-Some.was)

pub clear_patch-loop-b-preserved : goal.clear_patch-loop-b-preserved
clear_patch-loop-b-preserved t c = search (clearing, c.in_ok-d-in-Some.was)

pub refine_leaf-returns-in_err-patch : goal.refine_leaf-returns-in_err-patch
refine_leaf-returns-in_err-patch t c = let p = err_from_is_err_and c.from_residual.result c.from_residual.ensures.1 in rw (p.1, p.2) (search (refining, c.in_err-patch.was))

pub refine_leaf-returns : goal.refine_leaf-returns
refine_leaf-returns t c = search (refining, c.in_ok-patch.was)
