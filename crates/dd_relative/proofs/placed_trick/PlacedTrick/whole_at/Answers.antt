use Rattle.std.proofs.Common.{◌≡◌, ◌∙◌, ◌≤◌, ◌⊎◌, ap, refl, sym, subst, true, List, filter}
use mathlib.Core.Bool.{not}
use Rattle.std.specs.Prelude.{◌||◌}
use Rattle.dd_cards.specs.PlayingCard.{PlayingCard}
use Rattle.dd_cards.specs.Cards.{deck, has_card}
use Rattle.dd_cards.specs.Sequences.{is_headed}
use Rattle.dd_play.specs.Board.{Board, IsBoard, cards_at, mover}
use Rattle.dd_play.specs.Play.{legal}
use Rattle.dd_play.specs.Reach.{reach}
use Rattle.dd_play.specs.Simulations.{IsLegal}
use Rattle.dd_equal.specs.EqualCards.{IsWhole, are_equal, other_cards}
use Rattle.dd_relative.specs.WinningRanks.{AreTop}
use Rattle.dd_relative.proofs.Tops.{own-or-other}
use Rattle.dd_relative.proofs.Whole.{IsWidened, in-ranks, whole-already, widened-only, widened-top, widened-whole}
use Rattle.dd_relative.proofs.placed_trick.PlacedTrick.whole_at.Goals as goal
use Rattle.dd_relative.proofs.placed_trick.PlacedTrick.whole_at.Goals.{After-copy, After-headed-lower}

-- what is made of the ranks
made : (c : After-headed-lower) → IsWidened c.args.self.now c.hand_at-own.result c.difference-others.result c.cards-top.result c.difference-reached.result c.headed-lower.result
made c = record {
  valid = subst (λ (q : Board). IsBoard q) c.self.view_is c.self.invariant.2.board;
  mine = c.hand_at-own.ensures;
  theirs = c.difference-others.ensures ∙ ap (filter (λ d. not (has_card c.hand_at-own.result d))) c.pack.ensures;
  kept = c.difference-reached.ensures;
  joins = c.headed-lower.ensures ∙ ap (filter (is_headed c.difference-reached.result c.difference-others.result)) c.choices_at.ensures;
  top = subst (λ (l : List PlayingCard). AreTop l) (sym c.cards-top.ensures.cards) c.cards-top.ensures.top;
  real = c.holding-spades.ensures.real;
  there = subst (λ (q : Board). (d k : PlayingCard) → has_card (cards_at q (mover q)) d ≡ true → k.suit ≡ d.suit → d.rank ≤ k.rank → k.rank ≤ 14
      → (has_card (cards_at q (mover q)) k ≡ true) ⊎ (has_card (other_cards q) k ≡ true)) c.self.view_is
      (λ d k. own-or-other c.self.inside.start.now c.self.inside.trick c.self.inside.played d k c.start-start.ensures.relative c.self.invariant.1 c.self.invariant.0);
}

-- the top cards are those of the ranks
ranks : (c : After-headed-lower) → c.cards-top.result ≡ c.args.ranks.now
ranks c = c.cards-top.ensures.cards

pub with-requires : goal.with-requires
with-requires c = subst (λ (l : List PlayingCard). AreTop (filter (λ d. has_card l d || has_card c.headed-lower.result d) deck)) (ranks c) (widened-top _ _ _ _ _ _ (made c))

pub returns-clause-more : goal.returns-clause-more
returns-clause-more c = λ d h.
    let before = (goal.at.returns-clause-more c).After-headed-lower in
    ap (λ l. has_card l d) (c.with.ensures ∙ ap (λ l. filter (λ e. has_card l e || has_card c.headed-lower.result e) deck) (sym (ranks before)))
    ∙ in-ranks _ _ _ _ _ _ (made before) d (c.holding-spades.ensures.real d (ap (λ l. has_card l d) (ranks before) ∙ h)) (ap (λ l. has_card l d) (ranks before) ∙ h)

pub returns-clause-only : goal.returns-clause-only
returns-clause-only c = λ d h.
    let before = (goal.at.returns-clause-only c).After-headed-lower in
    subst (λ (l : List PlayingCard). (has_card l d ≡ true) ⊎ ((t : PlayingCard) × (has_card l t ≡ true) × IsLegal c.args.self.now t × IsLegal c.args.self.now d × (are_equal c.args.self.now t d ≡ true))) (ranks before)
    (widened-only _ _ _ _ _ _ (made before) d (ap (λ l. has_card l d) (sym (c.with.ensures ∙ ap (λ l. filter (λ e. has_card l e || has_card c.headed-lower.result e) deck) (sym (ranks before)))) ∙ h))

pub returns-clause-whole : goal.returns-clause-whole
returns-clause-whole c =
    let before = (goal.at.returns-clause-whole c).After-headed-lower in
    subst (λ (l : List PlayingCard). IsWhole (reach l) c.args.self.now) (sym (c.with.ensures ∙ ap (λ l. filter (λ e. has_card l e || has_card c.headed-lower.result e) deck) (sym (ranks before))))
    (widened-whole _ _ _ _ _ _ (made before))

-- where nothing joins
alone : (c : After-copy) → IsWidened c.args.self.now c.hand_at-own.result c.difference-others.result c.cards-top.result c.difference-reached.result
    (filter (is_headed c.difference-reached.result c.difference-others.result) (legal c.args.self.now))
alone c = record {
  valid = subst (λ (q : Board). IsBoard q) c.self.view_is c.self.invariant.2.board;
  mine = c.hand_at-own.ensures;
  theirs = c.difference-others.ensures ∙ ap (filter (λ d. not (has_card c.hand_at-own.result d))) c.pack.ensures;
  kept = c.difference-reached.ensures;
  joins = refl;
  top = subst (λ (l : List PlayingCard). AreTop l) (sym c.cards-top.ensures.cards) c.cards-top.ensures.top;
  real = c.holding-spades.ensures.real;
  there = subst (λ (q : Board). (d k : PlayingCard) → has_card (cards_at q (mover q)) d ≡ true → k.suit ≡ d.suit → d.rank ≤ k.rank → k.rank ≤ 14
      → (has_card (cards_at q (mover q)) k ≡ true) ⊎ (has_card (other_cards q) k ≡ true)) c.self.view_is
      (λ d k. own-or-other c.self.inside.start.now c.self.inside.trick c.self.inside.played d k c.start-start.ensures.relative c.self.invariant.1 c.self.invariant.0);
}

pub returns-then-have_none_below-clause-whole : goal.returns-then-have_none_below-clause-whole
returns-then-have_none_below-clause-whole c = subst (λ (l : List PlayingCard). IsWhole (reach l) c.args.self.now) (c.cards-top.ensures.cards ∙ sym c.copy.ensures)
    (whole-already _ _ _ _ _ _ (alone c) (c.if-have_none_below.ensures refl))
