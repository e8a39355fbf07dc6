use Rattle.std.proofs.Common.{◌≡◌, ap, ◌∙◌, subst}
use Rattle.dd_cards.specs.declared.seat.Seat.TheVariants.{East, South, West}
use Rattle.dd_cards.specs.declared.suit.Suit.TheVariants.{Spades, Hearts, Diamonds, Clubs}
use Rattle.dd_cards.specs.Hands.{AreHands, hand_of}
use Rattle.dd_play.specs.Board.{Board}
use Rattle.dd_rank.proofs.Closed.{gapless-owners}
use Rattle.dd_rank.proofs.Seated.{shape-strings}
use Rattle.dd_rank.proofs.owner_strings.OwnerStrings.of_closed_up.Goals as goal

pub returns : goal.returns
returns c =
    let p = c.args.start.now in
    let hands : c.hands-hands.result.now ≡ p.hands = c.hands-hands.ensures.hands ∙ ap (λ (b : Board). b.hands) c.position-position.ensures.value in
    let owners = gapless-owners p c.hand-second.result c.hand-third.result c.hand-fourth.result c.mask.result c.mask-2.result (subst AreHands hands c.hand-second.ensures.hands) c.requires.leader
    (c.hand-second.ensures.hand ∙ ap (λ hs. hand_of hs East) hands) (c.hand-third.ensures.hand ∙ ap (λ hs. hand_of hs South) hands) (c.hand-fourth.ensures.hand ∙ ap (λ hs. hand_of hs West) hands)
    (c.mask.ensures.cards ∙ c.union-odd.ensures.cards) (c.mask-2.ensures.cards ∙ c.union-far.ensures.cards) c.requires.closed in
    shape-strings p c.args.shape _ _ _ _ c.requires.shape (owners Spades) (owners Hearts) (owners Diamonds) (owners Clubs)
