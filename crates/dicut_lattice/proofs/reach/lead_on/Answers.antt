use Rattle.dicut_lattice.proofs.Rows.{done-more, left-more}
use Rattle.dicut_lattice.proofs.reach.lead_on.Goals as goal

pub loop-v-preserved : goal.loop-v-preserved
loop-v-preserved c =
    let i = c.loop-v.invariant in
    let e = c.join_row.ensures in
    record {
      square = rw i.square.count at e.square;
      done = done-more c.args.k c.loop-v.v c.args.rows.now c.loop-v.rows c.join_row.new.rows i.done i.left e.here e.others;
      left = left-more c.args.k c.loop-v.v c.args.rows.now c.loop-v.rows c.join_row.new.rows i.done i.left e.here e.others;
    }
