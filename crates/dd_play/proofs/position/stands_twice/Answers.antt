use Rattle.std.proofs.Common.{rules, ◌≡◌, arith, subst, List, take_all}
use Rattle.dd_cards.specs.declared.seat.Seat.TheVariants.{North}
use Rattle.dd_cards.specs.PlayingCard.{PlayingCard}
use Rattle.dd_cards.specs.Ranks.{IsRank}
use Rattle.dd_cards.specs.Cards.{with_card}
use Rattle.dd_cards.specs.Hands.{hand_of, with_hand}
use Rattle.dd_play.proofs.Twice.{Counted, counted-none, counted-take, second-time}
use Rattle.dd_play.proofs.position.stands_twice.Goals as goal

pub loop-card-init : goal.loop-card-init
loop-card-init c = rw c.copy-seen.ensures (counted-none c.args.hands.now c.requires)

pub returns-then-not-insert-clause-twice : goal.returns-then-not-insert-clause-twice
returns-then-not-insert-clause-twice c = λ once. (let no = c.insert.ensures.inserts.1 (second-time c.loop-card.seen c.args.hands.now c.args.trick.now c.loop-card.card-index c.card-item.result c.loop-card-test.true c.card-item.is c.loop-card.invariant.counted once) in cc (no, c.if-not-insert.true))

pub loop-card-preserved : goal.loop-card-preserved
loop-card-preserved c =
    let none = c.insert.ensures.inserts.0 c.if-not-insert.false in
    let real : IsRank c.card-item.result.rank = (search rules, search rules) in
    let new : c.insert.new.self ≡ with_hand c.loop-card.seen North (with_card (hand_of c.loop-card.seen North) c.card-item.result) = rw c.if-not-insert.false at c.insert.ensures.hands in
    rw new (counted-take c.loop-card.seen c.args.hands.now c.args.trick.now c.loop-card.card-index c.card-item.result c.loop-card-test.true c.card-item.is c.loop-card.invariant none real)

all : (c : goal.After-loop-card) → Counted c.loop-card.seen c.args.hands.now c.args.trick.now
all c = subst (λ (cards : List PlayingCard). Counted c.loop-card.seen c.args.hands.now cards) (take_all c.loop-card.card-index c.args.trick.now c.loop-card-test.false) c.loop-card.invariant

pub returns-clause-once : goal.returns-clause-once
returns-clause-once c = λ card. (let count = (all c).counted card in let once = (all c).once card in omega (arith, count, once))

pub returns-clause-real : goal.returns-clause-real
returns-clause-real c = (all c).real
