use Rattle.std.proofs.Common.{◌+◌, ◌*◌, ◌<◌, ◌≤◌, length, set, ap, subst}
use Rattle.std.proofs.lemmas.Nat.{mul-add-lt, div-mul-add, mod-mul-add}
use Rattle.std.proofs.lemmas.List.{get_or_read}
use Rattle.certificate_checker.proofs.CopyLaws.{counts-one, counts-full}
use Rattle.certificate_checker.proofs.copies.Copies.add.Goals as goal

pub returns-then-index-self-clause-counted : goal.returns-then-index-self-clause-counted
returns-then-index-self-clause-counted c = λ f counts.
    let me = c.args.self.now in
    let place = c.args.tail * me.n + c.args.head in
    let short : place < length me.table.items = rw me.long (mul-add-lt c.args.tail me.n c.args.head me.n c.requires.tail c.requires.head) in
    let read = get_or_read me.table.items place c.index.result.now short c.index.ensures 0 in
    let same = get_or_read me.table.items place c.index_mut.result.now short c.index_mut.ensures.value 0 in
    counts-one me.n me.most c.args.tail c.args.head me.table.items (set me.table.items place (c.index_mut.result.now + 1)) f short (div-mul-add c.args.tail me.n c.args.head c.requires.head) (mod-mul-add c.args.tail me.n c.args.head c.requires.head) counts
    (subst (λ x. x < me.most) read c.if-index-self.true) (ap (λ x. set me.table.items place (x + 1)) same)

pub returns-else-index-self-clause-counted : goal.returns-else-index-self-clause-counted
returns-else-index-self-clause-counted c = λ f counts.
    let me = c.args.self.now in
    let place = c.args.tail * me.n + c.args.head in
    let short : place < length me.table.items = rw me.long (mul-add-lt c.args.tail me.n c.args.head me.n c.requires.tail c.requires.head) in
    let read = get_or_read me.table.items place c.index.result.now short c.index.ensures 0 in
    counts-full me.n me.most c.args.tail c.args.head me.table.items me.table.items f short (div-mul-add c.args.tail me.n c.args.head c.requires.head) (mod-mul-add c.args.tail me.n c.args.head c.requires.head) counts
    (subst (λ x. me.most ≤ x) read c.if-index-self.false)
