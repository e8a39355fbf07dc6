use Rattle.std.proofs.Common.{◌≡◌, ◌+◌, ◌-◌, ◌%◌, ◌≤◌, get_or, refl, sym, ap, subst, arith, [], ◌∷◌}
use Rattle.std.specs.Prelude.{true}
use Rattle.dd_cards.specs.PlayingCard.{PlayingCard}
use Rattle.dd_cards.specs.declared.suit.Suit.{Suit}
use Rattle.dd_play.specs.Board.{Board, IsBoard}
use Rattle.dd_play.specs.Play.{completes}
use Rattle.dd_play.specs.Covers.{count_of}
use Rattle.dd_play.proofs.Contests.{IsFour, is-four, settled-by-top, settled-alone}
use Rattle.dd_play.proofs.position.Position.contested_winner.Goals as goal
use Rattle.dd_play.proofs.position.Position.contested_winner.Goals.{After-count_of}

four : (c : After-count_of) → completes c.args.self.now ≡ true
    → IsFour c.args.self.now c.args.card (get_or c.self.inside.trick 0 c.index-self-0.result ∷ get_or c.self.inside.trick 1 c.index-self-1.result ∷ get_or c.self.inside.trick 2 c.index-self-2.result ∷ c.args.card ∷ []) c.self.inside.first c.in-Some.seat ((c.code.result + 4 - c.code-2.result) % 4) c.one_of_four-won.result
four c whole =
    is-four c.args.self.now c.args.card c.index-self-0.result c.index-self-1.result c.index-self-2.result c.one_of_four-won.result c.self.inside.trick c.self.inside.played c.self.inside.first c.in-Some.seat c.args.winner c.code.result c.code-2.result ((c.code.result + 4 - c.code-2.result) % 4)
    (ap (λ (b : Board). b.trick) (sym c.self.view_is)) c.self.invariant.1 c.self.invariant.0 (ap (λ (b : Board). b.first) c.self.view_is) c.in-Some.is c.requires.winner whole c.code.ensures.value c.code-2.ensures.value refl
    c.one_of_four-won.ensures

pub returns-then-count_of-gt1 : goal.returns-then-count_of-gt1
returns-then-count_of-gt1 c = λ top on whole. settled-by-top c.args.self.now c.args.card _ _ _ _ _ (subst IsBoard c.self.view_is c.self.invariant.2) c.requires.legal refl (four (goal.at.returns-then-count_of-gt1 c).After-count_of whole) top on whole

pub returns-else-count_of-gt1 : goal.returns-else-count_of-gt1
returns-else-count_of-gt1 c = λ top on whole. settled-alone c.args.self.now c.args.card _ _ _ _ c.one_of_four-won.result (subst IsBoard c.self.view_is c.self.invariant.2) c.requires.legal refl (four (goal.at.returns-else-count_of-gt1 c).After-count_of whole)
    (subst (λ (u : Suit). count_of u (get_or c.self.inside.trick 0 c.index-self-0.result ∷ get_or c.self.inside.trick 1 c.index-self-1.result ∷ get_or c.self.inside.trick 2 c.index-self-2.result ∷ c.args.card ∷ []) ≤ 1) (ap (λ (d : PlayingCard). d.suit) c.won.view_is) (let e = c.count_of.ensures in let f = c.if-count_of-gt1.false in omega (arith, e, f))) top whole
