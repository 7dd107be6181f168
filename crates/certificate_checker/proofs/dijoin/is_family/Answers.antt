use Rattle.certificate_checker.proofs.dijoin.is_family.Goals as goal

pub returns-then-are_closed : goal.returns-then-are_closed
returns-then-are_closed c = (λ apart. record { members = c.are_closed.ensures.0 c.if-are_closed.true; apart = c.are_apart.ensures.0 apart }, λ dual. c.are_apart.ensures.1 dual.apart)
