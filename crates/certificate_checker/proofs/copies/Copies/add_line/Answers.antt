use Rattle.std.proofs.Common.{◌+◌}
use Rattle.graph_core.specs.Side.{has}
use Rattle.graph_core.specs.declared.graph.Kind.TheVariants.{Undirected, Directed}
use Rattle.flow_cuts.specs.Network.{across}
use Rattle.certificate_checker.specs.Copies.{line_count}
use Rattle.certificate_checker.proofs.CopyLaws.{line-both, line-turned, more-same, more-both, more-at}
use Rattle.certificate_checker.proofs.copies.Copies.add_line.Goals as goal

pub returns-in-Undirected-clause-counted : goal.returns-in-Undirected-clause-counted
returns-in-Undirected-clause-counted c =
    let me = c.args.self.now in
    let u = c.args.tail in
    let v = c.args.head in
    let first = c.add.ensures in
    let second = c.add-in-Undirected.ensures in
    let old = me.table.items in
    let now = c.add.new.self.table.items in
    let new = c.add-in-Undirected.new.self.table.items in
    rw c.in-Undirected.is
    (more-same me.n me.most old new (λ X. across (has X u) (has X v) 1 + across (has X v) (has X u) 1) (λ X. line_count Undirected X u v) (λ X. line-both X u v)
    (more-both me.n me.most old now new (λ X. across (has X u) (has X v) 1) (λ X. across (has X v) (has X u) 1) first.counted
    (more-at c.add.new.self.n me.n c.add.new.self.most me.most now new (λ X. across (has X v) (has X u) 1) first.n first.most second.counted)))

pub returns-in-Directed-clause-counted : goal.returns-in-Directed-clause-counted
returns-in-Directed-clause-counted c =
    let me = c.args.self.now in
    rw c.in-Directed.is
    (more-same me.n me.most me.table.items c.add-in-Directed.new.self.table.items (λ X. across (has X c.args.head) (has X c.args.tail) 1) (λ X. line_count Directed X c.args.tail c.args.head) (λ X. line-turned X c.args.tail c.args.head) c.add-in-Directed.ensures.counted)
