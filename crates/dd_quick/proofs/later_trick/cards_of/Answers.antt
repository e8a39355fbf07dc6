use Rattle.dd_cards.specs.declared.suit.Suit.{Suit}
use Rattle.dd_cards.specs.declared.suit.Suit.TheVariants.{Spades, Hearts, Diamonds, Clubs}
use Rattle.dd_quick.specs.QuickTricks.{RestsOnGuard}
use Rattle.dd_quick.proofs.LaterClaims.{later-claim}
use Rattle.dd_quick.proofs.Reached.{guard-more}
use Rattle.dd_quick.proofs.later_trick.cards_of.Goals as goal
use Rattle.dd_quick.proofs.later_trick.cards_of.Goals.{After-with_honour}

-- the cards of the left opponent
on-left : (c : After-with_honour) (u : Suit) → RestsOnGuard c.args.position.now 1 u c.with_honour.result
on-left c Spades = guard-more c.args.position.now 1 Spades c.with_honour-cards.result c.with_honour.result (λ d h. c.with_honour.ensures.more d (c.with_honour-cards-3.ensures.more d (c.with_honour-cards-2.ensures.more d h))) c.with_honour-cards.ensures.left
on-left c Hearts = guard-more c.args.position.now 1 Hearts c.with_honour-cards-2.result c.with_honour.result (λ d h. c.with_honour.ensures.more d (c.with_honour-cards-3.ensures.more d h)) c.with_honour-cards-2.ensures.left
on-left c Diamonds = guard-more c.args.position.now 1 Diamonds c.with_honour-cards-3.result c.with_honour.result (λ d h. c.with_honour.ensures.more d h) c.with_honour-cards-3.ensures.left
on-left c Clubs = c.with_honour.ensures.left

-- and of the right one
on-right : (c : After-with_honour) (u : Suit) → RestsOnGuard c.args.position.now 3 u c.with_honour.result
on-right c Spades = guard-more c.args.position.now 3 Spades c.with_honour-cards.result c.with_honour.result (λ d h. c.with_honour.ensures.more d (c.with_honour-cards-3.ensures.more d (c.with_honour-cards-2.ensures.more d h))) c.with_honour-cards.ensures.right
on-right c Hearts = guard-more c.args.position.now 3 Hearts c.with_honour-cards-2.result c.with_honour.result (λ d h. c.with_honour.ensures.more d (c.with_honour-cards-3.ensures.more d h)) c.with_honour-cards-2.ensures.right
on-right c Diamonds = guard-more c.args.position.now 3 Diamonds c.with_honour-cards-3.result c.with_honour.result (λ d h. c.with_honour.ensures.more d h) c.with_honour-cards-3.ensures.right
on-right c Clubs = c.with_honour.ensures.right

pub returns : goal.returns
returns c = later-claim c.args.position.now c.with_honour.result c.requires.start c.requires.later (on-left (goal.at.returns c).After-with_honour) (on-right (goal.at.returns c).After-with_honour)
