use Rattle.table_reader.proofs.Orders.{order_of_strings}
use Rattle.table_reader.proofs.laws.law_order.Goals as goal

pub returns : goal.returns
returns c = order_of_strings
