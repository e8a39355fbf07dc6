use Rattle.std.proofs.Common.{ap, ◌∙◌, refl, arith}
use Rattle.dd_cards.specs.Cards.{card_of, has_card}
use Rattle.dd_cards.proofs.CallerLemmas.{has_card-with_card, same_card-self}
use Rattle.dd_quick.proofs.Highest.{with-more}
use Rattle.dd_quick.proofs.joint_trumps.with_trump.Goals as goal

pub returns-clause-more : goal.returns-clause-more
returns-clause-more c d has = ap (λ cards. has_card cards d) c.with.ensures ∙ with-more c.args.cards (card_of c.args.trump c.args.rank) c.holding.ensures.real d has

pub returns-clause-there : goal.returns-clause-there
returns-clause-there c =
    let card = card_of c.args.trump c.args.rank in
    let e = c.code.ensures.value in
    let low = c.code.ensures.low in
    let high = c.code.ensures.high in
    ap (λ cards. has_card cards card) c.with.ensures ∙ has_card-with_card c.args.cards card card (omega (arith, e, low), omega (arith, e, high)) ∙ rw (same_card-self card) refl
