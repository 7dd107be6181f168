use Rattle.std.proofs.Common.{refl, ◌∙◌, arith}
use Rattle.matroid_union.specs.Parts.{own_of}
use Rattle.matroid_union.proofs.SearchLaws.{begins_refl, begins_trans, search_next}
use Rattle.matroid_union.proofs.ScanLaws.{shut_still}
use Rattle.matroid_union.proofs.search.scan_element.Goals as goal

pub scan_part-requires-clause-place : goal.scan_part-requires-clause-place
scan_part-requires-clause-place g c = let b = c.loop-number.invariant.begins.longer in let l = c.requires.place in omega arith

pub scan_part-requires-clause-shut : goal.scan_part-requires-clause-shut
scan_part-requires-clause-shut g c =
    shut_still (g.M.Matroid.count c.args.matroid.now) (g.M.Matroid.free c.args.matroid.now) (g.met.M.Matroid.laws c.args.matroid.now) c.args.k (own_of c.args.owner.now) c.args.search.now.queue.items c.loop-number.search.queue.items c.args.at c.loop-number.invariant.begins c.requires.place c.requires.shut

pub loop-number-init : goal.loop-number-init
loop-number-init g c = record {
  filled = c.requires.met;
  trial = c.requires.trial;
  dead = refl;
  begins = begins_refl c.args.search.now.queue.items;
  search = c.requires.search;
  passed = λ p l out. absurd (omega arith);
}

pub loop-number-preserved : goal.loop-number-preserved
loop-number-preserved g c = record {
  filled = c.in_ok-scan_part.ensures.met;
  trial = c.in_ok-scan_part.ensures.trial;
  dead = c.scan_part.ensures.dead ∙ c.loop-number.invariant.dead;
  begins = begins_trans c.args.search.now.queue.items c.loop-number.search.queue.items c.scan_part.new.search.queue.items c.loop-number.invariant.begins c.in_ok-scan_part.ensures.begins;
  search = c.in_ok-scan_part.ensures.search;
  passed = c.in_ok-scan_part.ensures.passed;
}

pub returns-clause-search : goal.returns-clause-search
returns-clause-search g c =
    search_next (g.M.Matroid.count c.args.matroid.now) (g.M.Matroid.free c.args.matroid.now) (g.met.M.Matroid.laws c.args.matroid.now) c.args.k (own_of c.args.owner.now) c.loop-number.search.dead c.loop-number.search.reached c.loop-number.search.queue.items c.loop-number.search.back.items c.args.at c.loop-number.invariant.search
    (λ p l out. c.loop-number.invariant.passed p (omega arith) out)
