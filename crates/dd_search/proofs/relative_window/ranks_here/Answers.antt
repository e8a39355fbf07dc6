use Rattle.std.proofs.Common.{◌≡◌, true, ap, ◌∙◌, sym, List}
use Rattle.dd_cards.specs.PlayingCard.{PlayingCard}
use Rattle.dd_cards.specs.Ranks.{IsRank}
use Rattle.dd_cards.specs.Cards.{has_card}
use Rattle.dd_play.specs.Play.{after}
use Rattle.dd_play.proofs.CallerLemmas.{legal-leads}
use Rattle.dd_search.proofs.relative_window.ranks_here.Goals as goal

-- the cards of a list are real where those of an equal one are
real-of : (cards ranks : List PlayingCard) → cards ≡ ranks → ((d : PlayingCard) → has_card cards d ≡ true → IsRank d.rank) → (d : PlayingCard) → has_card ranks d ≡ true → IsRank d.rank
real-of cards ranks same real d has = real d (ap (λ xs. has_card xs d) same ∙ has)

pub returns-clause-leaders : goal.returns-clause-leaders
returns-clause-leaders c n = c.claims_before.ensures.leaders (after c.args.trick.now c.args.card) c.args.next.now c.args.later.now c.ranks_before-ranks.result n
    (real-of c.cards-after.result c.args.later.now c.cards-after.ensures.cards c.holding-after.ensures.real) (real-of c.cards-before.result c.ranks_before-ranks.result c.cards-before.ensures.cards c.holding-before.ensures.real)
    (legal-leads c.args.trick.now c.args.card c.requires.board c.requires.legal).valid c.requires.relative c.requires.alike
    c.cards-after.ensures.top c.ranks_before-ranks.ensures

pub returns-clause-others : goal.returns-clause-others
returns-clause-others c n = c.claims_before.ensures.others (after c.args.trick.now c.args.card) c.args.next.now c.args.later.now c.ranks_before-ranks.result n
    (real-of c.cards-after.result c.args.later.now c.cards-after.ensures.cards c.holding-after.ensures.real) (real-of c.cards-before.result c.ranks_before-ranks.result c.cards-before.ensures.cards c.holding-before.ensures.real)
    (legal-leads c.args.trick.now c.args.card c.requires.board c.requires.legal).valid c.requires.relative c.requires.alike
    c.cards-after.ensures.top c.ranks_before-ranks.ensures
