use Rattle.std.proofs.Common.{◌≡◌, ◌≤◌, ap, sym, subst, ◌∙◌}
use Rattle.dd_cards.specs.declared.suit.Suit.{Suit}
use Rattle.dd_play.specs.Board.{Board}
use Rattle.dd_play.specs.Covers.{count_of}
use Rattle.dd_play.specs.Reach.{reach}
use Rattle.dd_rank.specs.Depths.{all_cards, depth_in, depths_of}
use Rattle.dd_rank.proofs.HighestCards.{AreHighest, both-counts, both-highest, within-left}
use Rattle.dd_rank.proofs.depths.Depths.of_highest.Goals as goal

pub of_bits-requires : goal.of_bits-requires
of_bits-requires c =
    both-highest c.position.result.now c.cards_left-all.result c.args.cards c.difference-others.result c.difference.result c.cards_left-all.ensures.board c.cards_left-all.ensures.set c.cards_left-all.ensures.cards
    c.difference-others.ensures c.difference.ensures c.requires.cards (subst (λ (p : Board). AreHighest (all_cards p)) (sym c.position.ensures.value) c.requires.start)

pub returns-clause-depths : goal.returns-clause-depths
returns-clause-depths c = λ u.
    c.of_bits.ensures u
    ∙ both-counts c.position.result.now c.cards_left-all.result c.args.cards c.difference-others.result c.difference.result c.cards_left-all.ensures.board c.cards_left-all.ensures.set c.cards_left-all.ensures.cards
    c.difference-others.ensures c.difference.ensures c.requires.cards u
    ∙ ap (λ (p : Board). depths_of (reach c.args.cards) p u) c.position.ensures.value

pub returns-clause-within : goal.returns-clause-within
returns-clause-within c = λ u.
    subst (λ n. n ≤ count_of u (all_cards c.args.start.now)) (sym (returns-clause-depths c u))
    (subst (λ (p : Board). depths_of (reach c.args.cards) p u ≤ count_of u (all_cards p)) c.position.ensures.value
    (within-left c.position.result.now c.cards_left-all.result c.args.cards c.difference-others.result c.difference.result c.cards_left-all.ensures.board c.cards_left-all.ensures.set c.cards_left-all.ensures.cards
    c.difference-others.ensures c.difference.ensures c.requires.cards u))
