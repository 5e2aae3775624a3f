use Rattle.closure.proofs.laws.Call.{close_finish, close_full, close_done, closing}
use Rattle.closure.proofs.call.close.Goals as goal

pub index_rows-requires : goal.index_rows-requires
index_rows-requires c = search closing

pub refine_marks-requires : goal.refine_marks-requires
refine_marks-requires c = search closing

pub finish-requires : goal.finish-requires
finish-requires c = close_finish c.requires c.room-room.ensures c.refine_marks.ensures c.in-Ok.is

pub returns-in-Err : goal.returns-in-Err
returns-in-Err c = close_full c.requires c.room-room.ensures c.refine_marks.ensures c.in-Err.is (c.undo.ensures.rows_after, c.undo.ensures.records_after) c.at.ensures

pub returns-in-Ok : goal.returns-in-Ok
returns-in-Ok c = close_done c.requires c.room-room.ensures c.refine_marks.ensures c.in-Ok.is c.finish.ensures
