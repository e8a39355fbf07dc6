use Rattle.std.proofs.Common.{◌≡◌, true, false, sym, ap, ◌∙◌}
use Rattle.dd_cards.specs.PlayingCard.{PlayingCard}
use Rattle.dd_cards.specs.Cards.{is_of, has_card}
use Rattle.dd_cards.specs.Hands.{hand_of}
use Rattle.dd_play.specs.Board.{Board, cards_at, mover}
use Rattle.dd_play.proofs.Choices.{same-suit, not-legal, legal-led, follows-suit, discards}
use Rattle.dd_play.proofs.position.Position.is_legal.Goals as goal

pub returns-then-not-has : goal.returns-then-not-has
returns-then-not-has c =
    let hand : hand_of c.self.inside.hands c.mover-mover.result ≡ cards_at c.args.self.now (mover c.args.self.now) =
    ap (hand_of c.self.inside.hands) c.mover-mover.ensures.seat ∙ ap (λ (p : Board). hand_of p.hands (mover c.args.self.now)) c.self.view_is in
    sym (not-legal c.args.self.now c.args.card (ap (λ cards. has_card cards c.args.card) (sym hand) ∙ sym c.has.ensures ∙ c.if-not-has.true))

pub returns-then-eq : goal.returns-then-eq
returns-then-eq c =
    let p = c.args.self.now in
    let hand : hand_of c.self.inside.hands c.mover-mover.result ≡ cards_at p (mover p) =
    ap (hand_of c.self.inside.hands) c.mover-mover.ensures.seat ∙ ap (λ (p : Board). hand_of p.hands (mover c.args.self.now)) c.self.view_is in
    let own : has_card (cards_at p (mover p)) c.args.card ≡ true = ap (λ cards. has_card cards c.args.card) (sym hand) ∙ sym c.has.ensures ∙ c.if-not-has.false in
    let same : is_of c.led.inside.suit c.args.card ≡ true =
    ap (λ (card : PlayingCard). is_of c.led.inside.suit card) (sym c.card.view_is) ∙ sym (same-suit c.led.inside.suit c.card.inside.suit) ∙ sym c.eq.ensures ∙ c.if-eq.true in
    let legal_cards = legal-led p c.self.inside.played c.self.inside.trick c.index-self-0.result c.led.inside.suit (ap (λ (q : Board). q.trick) c.self.view_is) c.if-self-eq0.false c.self.invariant.1 (ap (λ (card : PlayingCard). card.suit) c.led.view_is) in
    c.if-eq.true ∙ sym (ap (λ cards. has_card cards c.args.card) legal_cards ∙ follows-suit c.led.inside.suit (cards_at p (mover p)) c.args.card own same)

pub returns-else-eq : goal.returns-else-eq
returns-else-eq c =
    let p = c.args.self.now in
    let hand : hand_of c.self.inside.hands c.mover-mover.result ≡ cards_at p (mover p) =
    ap (hand_of c.self.inside.hands) c.mover-mover.ensures.seat ∙ ap (λ (p : Board). hand_of p.hands (mover c.args.self.now)) c.self.view_is in
    let own : has_card (cards_at p (mover p)) c.args.card ≡ true = ap (λ cards. has_card cards c.args.card) (sym hand) ∙ sym c.has.ensures ∙ c.if-not-has.false in
    let other : is_of c.led.inside.suit c.args.card ≡ false =
    ap (λ (card : PlayingCard). is_of c.led.inside.suit card) (sym c.card.view_is) ∙ sym (same-suit c.led.inside.suit c.card.inside.suit) ∙ sym c.eq.ensures ∙ c.if-eq.false in
    let legal_cards = legal-led p c.self.inside.played c.self.inside.trick c.index-self-0.result c.led.inside.suit (ap (λ (q : Board). q.trick) c.self.view_is) c.if-self-eq0.false c.self.invariant.1 (ap (λ (card : PlayingCard). card.suit) c.led.view_is) in
    let held = c.hand.ensures.hand ∙ hand in
    discards c.led.inside.suit (cards_at p (mover p)) c.args.card c.is_empty.result own other (rw (c.of_suit.ensures, held) at c.is_empty.ensures)
    ∙ sym (ap (λ cards. has_card cards c.args.card) legal_cards)
