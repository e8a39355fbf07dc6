use Rattle.dd_cards.specs.declared.suit.Suit.TheVariants.{Spades, Hearts, Diamonds}
use Rattle.dd_quick.proofs.AcrossClaims.{next-more}
use Rattle.dd_quick.proofs.crossing.with_partners.Goals as goal

pub returns-clause-more : goal.returns-clause-more
returns-clause-more c e k = c.with_next.ensures.more e (c.with_next-cards-3.ensures.more e (c.with_next-cards-2.ensures.more e (c.with_next-cards.ensures.more e k)))

pub returns-clause-spades : goal.returns-clause-spades
returns-clause-spades c =
    next-more c.args.position.now Spades c.with_next-cards.result c.with_next.result c.args.shares.spades
    (λ e k. c.with_next.ensures.more e (c.with_next-cards-3.ensures.more e (c.with_next-cards-2.ensures.more e k))) c.with_next-cards.ensures.next

pub returns-clause-hearts : goal.returns-clause-hearts
returns-clause-hearts c =
    next-more c.args.position.now Hearts c.with_next-cards-2.result c.with_next.result c.args.shares.hearts
    (λ e k. c.with_next.ensures.more e (c.with_next-cards-3.ensures.more e k)) c.with_next-cards-2.ensures.next

pub returns-clause-diamonds : goal.returns-clause-diamonds
returns-clause-diamonds c = next-more c.args.position.now Diamonds c.with_next-cards-3.result c.with_next.result c.args.shares.diamonds c.with_next.ensures.more c.with_next-cards-3.ensures.next
