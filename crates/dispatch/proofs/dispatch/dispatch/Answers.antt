use Rattle.std.proofs.Common.{refl, rules}
use Rattle.dispatch.proofs.Made.{dispatches}
use Rattle.dispatch.proofs.dispatch.dispatch.Goals as goal

pub returns-in-RequestRead : goal.returns-in-RequestRead
returns-in-RequestRead g c = dispatches c.in-RequestRead.is c.request_read.result c.request_read.ensures.takes c.request_read.ensures.own (search rules)

pub returns-in-RequestWrite : goal.returns-in-RequestWrite
returns-in-RequestWrite g c = dispatches c.in-RequestWrite.is c.request_write.result c.request_write.ensures.takes c.request_write.ensures.own (search rules)

pub returns-in-Advance : goal.returns-in-Advance
returns-in-Advance g c = dispatches c.in-Advance.is c.advance.result c.advance.ensures.takes c.advance.ensures.own (search rules)

pub returns-in-Leave : goal.returns-in-Leave
returns-in-Leave g c = dispatches c.in-Leave.is c.leave.result c.leave.ensures.takes c.leave.ensures.own (search rules)

pub returns-in-Look : goal.returns-in-Look
returns-in-Look g c = dispatches c.in-Look.is c.look.result c.look.ensures refl (search rules)

pub returns-in-Fill : goal.returns-in-Fill
returns-in-Fill g c = dispatches c.in-Fill.is c.fill.result (search rules) (search rules) (search rules)

pub returns-in-Begin : goal.returns-in-Begin
returns-in-Begin g c = dispatches c.in-Begin.is c.begin.result (search rules) (search rules) (search rules)

pub returns-in-Drop : goal.returns-in-Drop
returns-in-Drop g c = dispatches c.in-Drop.is c.drop_coin.result c.drop_coin.ensures.takes c.drop_coin.ensures.own (search rules)

pub returns-in-Settle : goal.returns-in-Settle
returns-in-Settle g c = dispatches c.in-Settle.is c.settle.result c.settle.ensures.takes c.settle.ensures.own (search rules)
