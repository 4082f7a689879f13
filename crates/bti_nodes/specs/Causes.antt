-- What a node that doesn't begin at a position is called in a damage.
use Rattle.bti_nodes.specs.declared.node.NodeError.{NodeError}
use Rattle.bti_nodes.specs.declared.node.NodeError.TheVariants as node
use Rattle.bti_nodes.specs.declared.damage.Cause.{Cause}
use Rattle.bti_nodes.specs.declared.damage.Cause.TheVariants.{PastPage, BadOrder, BadPointer, BadPayload}

abbrev pub cause_of : NodeError → Cause
cause_of node.PastPage = PastPage
cause_of node.BadOrder = BadOrder
cause_of node.BadPointer = BadPointer
cause_of node.BadPayload = BadPayload
