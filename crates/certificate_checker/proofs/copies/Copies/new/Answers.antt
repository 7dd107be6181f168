use Rattle.std.proofs.Common.{rules, ◌≡◌, ◌*◌, inl, replicate, ap, ◌∙◌}
use Rattle.certificate_checker.specs.Copies.{leaving_by}
use Rattle.certificate_checker.proofs.CopyLaws.{leaving-none}
use Rattle.certificate_checker.proofs.copies.Copies.new.Goals as goal

pub returns-clause-none : goal.returns-clause-none
returns-clause-none c =
    let start : c.in_ok-table.table.items ≡ replicate (c.args.n * c.args.n) 0 = search rules in
    λ X. inl (ap (leaving_by c.args.n X) start ∙ leaving-none c.args.n (c.args.n * c.args.n) X)
