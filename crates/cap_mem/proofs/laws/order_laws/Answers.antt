use Rattle.cap_mem.proofs.ByOwner.{entered-by_owner, filter-by_owner, find-by_owner}
use Rattle.cap_mem.proofs.laws.order_laws.Goals as goal

pub returns-clause-stores : goal.returns-clause-stores
returns-clause-stores c = entered-by_owner

pub returns-clause-lists : goal.returns-clause-lists
returns-clause-lists c = filter-by_owner

pub returns-clause-tags : goal.returns-clause-tags
returns-clause-tags c = find-by_owner
