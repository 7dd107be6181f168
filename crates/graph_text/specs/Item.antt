-- What an item says, without where its words lie. No public clause cites it.
use Rattle.graph_text.specs.declared.item.Item.{Item}
use Rattle.graph_text.specs.declared.item.Item.TheVariants as item
use Rattle.graph_text.specs.Said.{Said, Skipped, Header, Node, Edge, Arc, End, Other}

abbrev pub said : Item → Said
said item.Skipped = Skipped
said (item.Header kind) = Header kind
said (item.Node name number) = Node name.now number.now
said (item.Edge tail head) = Edge tail.now head.now
said (item.Arc tail head fixed cost) = Arc tail.now head.now fixed cost.now
said item.End = End
said item.Other = Other
