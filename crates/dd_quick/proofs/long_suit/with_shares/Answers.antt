use Rattle.std.specs.Prelude.{min}
use Rattle.dd_cards.specs.declared.suit.Suit.TheVariants.{Spades, Hearts, Diamonds}
use Rattle.dd_quick.proofs.Claims.{rests-more}
use Rattle.dd_quick.proofs.long_suit.with_shares.Goals as goal

pub returns-clause-spades : goal.returns-clause-spades
returns-clause-spades c =
    rests-more c.args.position.now Spades c.with_winners-cards.result c.with_winners.result (min c.args.shares.spades c.args.cashed.spades.depth)
    (λ e k. c.with_winners.ensures.more e (c.with_winners-cards-3.ensures.more e (c.with_winners-cards-2.ensures.more e k))) c.with_winners-cards.ensures.winners

pub returns-clause-hearts : goal.returns-clause-hearts
returns-clause-hearts c =
    rests-more c.args.position.now Hearts c.with_winners-cards-2.result c.with_winners.result (min c.args.shares.hearts c.args.cashed.hearts.depth)
    (λ e k. c.with_winners.ensures.more e (c.with_winners-cards-3.ensures.more e k)) c.with_winners-cards-2.ensures.winners

pub returns-clause-diamonds : goal.returns-clause-diamonds
returns-clause-diamonds c = rests-more c.args.position.now Diamonds c.with_winners-cards-3.result c.with_winners.result (min c.args.shares.diamonds c.args.cashed.diamonds.depth) c.with_winners.ensures.more c.with_winners-cards-3.ensures.winners
