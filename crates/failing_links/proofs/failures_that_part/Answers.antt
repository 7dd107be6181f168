use Rattle.std.proofs.Common.{◌≡◌, ◌∙◌, ◌≤◌, length, subst, sym}
use Rattle.problem_defs.specs.Flow.{IsFeasible, IsDual, bound}
use Rattle.problem_defs.specs.Flow.Law.{law}
use Rattle.failing_links.proofs.failures_that_part.Goals as goal

pub returns-clause-walks : goal.returns-clause-walks
returns-clause-walks c =
    let g = c.args.graph.now in
    let answer = c.in_ok-found.found in
    let found = c.in_ok-found.ensures in
    let feasible : IsFeasible c.args.from c.args.to g answer.object = subst (λ ask. IsFeasible ask.from ask.to g answer.object) found.ask found.certified.feasible in
    let dual : IsDual c.args.from c.args.to g answer.dual = subst (λ ask. IsDual ask.from ask.to g answer.dual) found.ask found.certified.dual_feasible in
    let equal : bound g answer.dual ≡ c.len.result = sym found.certified.equal ∙ sym c.len.ensures in
    record {
      walks = answer.object;
      feasible = feasible;
      many = sym c.len.ensures;
      most = λ others f. subst (λ k. length others ≤ k) equal (law c.args.from c.args.to g others answer.dual c.requires f dual);
    }

pub returns-clause-cut : goal.returns-clause-cut
returns-clause-cut c =
    let g = c.args.graph.now in
    let answer = c.in_ok-found.found in
    let found = c.in_ok-found.ensures in
    let feasible : IsFeasible c.args.from c.args.to g answer.object = subst (λ ask. IsFeasible ask.from ask.to g answer.object) found.ask found.certified.feasible in
    let dual : IsDual c.args.from c.args.to g answer.dual = subst (λ ask. IsDual ask.from ask.to g answer.dual) found.ask found.certified.dual_feasible in
    record {
      side = answer.dual;
      dual = dual;
      crossed = sym found.certified.equal ∙ sym c.len.ensures;
      least = λ X d. subst (λ k. k ≤ bound g X) (sym c.len.ensures) (law c.args.from c.args.to g answer.object X c.requires feasible d);
    }
