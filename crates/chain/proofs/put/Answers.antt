use borrow.Author.Rules.{rules}
use lib.Seq.{set_out}
use Rattle.chain.proofs.put.Goals as goal

-- past the end nothing is stored
pub returns-else-i-table : goal.returns-else-i-table
returns-else-i-table c = search (rules, set_out)
