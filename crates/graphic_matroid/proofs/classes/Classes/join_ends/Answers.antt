use Rattle.std.proofs.Common.{refl}
use Rattle.graphic_matroid.proofs.Steps.{classes_kept, classes_after}
use Rattle.graphic_matroid.proofs.classes.Classes.join_ends.Goals as goal

pub returns-in_default-clause-classes : goal.returns-in_default-clause-classes
returns-in_default-clause-classes c = λ ls more w adds.
    let one = c.in_default.ensures.one in
    classes_kept c.args.self.now.parents.items c.args.line c.requires.tail c.requires.head one.root one.root one.tail one.head ls more w adds refl

pub returns-clause-classes : goal.returns-clause-classes
returns-clause-classes c = λ ls more w adds.
    let two = c.in-Some.ensures.two in
    classes_after c.args.self.now.parents.items c.args.line c.requires.tail c.requires.head c.in-Some.tail c.in-Some.head two.tail two.head ls more w adds two.apart c.join.new.self.parents.items c.join.ensures.linked
