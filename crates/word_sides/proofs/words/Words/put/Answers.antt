use Rattle.std.proofs.Common.{◌<◌, ◌∙◌, ap, sym, subst, length, set, arith}
use Rattle.word_sides.specs.Held.{len_of, words_of}
use Rattle.word_sides.specs.Words.{values, IsClean}
use Rattle.word_sides.proofs.WordLaws.{length-values, values-put, clean-put}
use Rattle.word_sides.proofs.words.Words.put.Goals as goal

pub put-requires : goal.put-requires
put-requires c = omega (arith, length-values (len_of c.self.inside.held) (words_of c.self.inside.held), ap length c.self.view_is, c.self.invariant.long)

pub invariant_of-self : goal.invariant_of-self
invariant_of-self c =
    let n = len_of c.self.inside.held in
    let ws = words_of c.self.inside.held in
    let within : c.args.v < n = omega (arith, length-values n ws, ap length c.self.view_is) in
    subst (λ k. IsClean k (words_of c.put.new.self)) (sym c.put.ensures.len)
    (clean-put n ws (words_of c.put.new.self) c.args.v c.args.on c.self.invariant within c.put.ensures.long c.put.ensures.here c.put.ensures.elsewhere)

pub returns : goal.returns
returns c =
    let n = len_of c.self.inside.held in
    let ws = words_of c.self.inside.held in
    let within : c.args.v < n = omega (arith, length-values n ws, ap length c.self.view_is) in
    ap (λ k. values k (words_of c.put.new.self)) c.put.ensures.len
    ∙ values-put n ws (words_of c.put.new.self) c.args.v c.args.on c.self.invariant within c.put.ensures.long c.put.ensures.here c.put.ensures.elsewhere
    ∙ ap (λ X. set X c.args.v c.args.on) c.self.view_is
