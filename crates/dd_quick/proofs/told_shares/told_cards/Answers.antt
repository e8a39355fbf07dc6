use Rattle.std.proofs.Common.{◌≡◌, ◌≤◌, ◌+◌, ◌-◌, ◌∙◌, ℕ, ap, arith, subst, false, true}
use Rattle.dd_cards.specs.declared.suit.Suit.{Suit}
use Rattle.dd_cards.specs.declared.suit.Suit.TheVariants.{Spades, Hearts, Diamonds, Clubs}
use Rattle.dd_cards.specs.Seats.{seat_after}
use Rattle.dd_cards.specs.Sides.{side_of}
use Rattle.dd_play.specs.Reach.{TakesBy, reach}
use Rattle.dd_quick.specs.QuickTricks.{RestsOnTrumps, cashed, joint_trumps, trumps_at}
use Rattle.dd_quick.specs.Sharing.{shares}
use Rattle.dd_quick.proofs.Cashing.{total}
use Rattle.dd_quick.proofs.Claims.{IsSure, leader-sure, trumps-left, cashed-share}
use Rattle.dd_quick.proofs.Covered.{leader-by}
use Rattle.dd_quick.proofs.SecondHand.{second-claim}
use Rattle.dd_quick.proofs.told_shares.told_cards.Goals as goal
use Rattle.dd_quick.proofs.told_shares.told_cards.Goals.{In_ok-cards}

-- what is taken, and the cards on which it rests
abbrev counts : In_ok-cards → Suit → ℕ
counts c = shares c.args.told.spades c.args.told.hearts c.args.told.diamonds c.args.told.clubs

abbrev side : In_ok-cards → ℕ
side c = c.args.told.spades + c.args.told.hearts + c.args.told.diamonds + c.args.told.clubs

sure : (c : In_ok-cards) → IsSure c.args.position.now c.in_ok-cards.cards (counts c) (c.args.need - side c)
sure c =
    let p = c.args.position.now in
    let t = c.args.told in
    let s = c.in_ok-spades in
    let h = c.in_ok-hearts in
    let d = c.in_ok-diamonds in
    let k = c.in_ok-clubs in
    let e = c.in_ok-cards in
    let m = c.args.need - side c in
    let seat = c.first-leader.ensures in
    let his = c.trumps.ensures.trumps ∙ ap (trumps_at p.strain p) (c.partner.ensures ∙ ap (λ x. seat_after x 2) seat) in
    let tricks = c.tricks_left.ensures.tricks in
    let room = c.if-tricks_left-thrown.false in
    leader-sure p k.clubs e.cards t.spades t.hearts t.diamonds t.clubs m c.requires.start
    (cashed-share p Spades s.spades k.clubs t.spades s.ensures.few s.ensures.rests (λ x has. k.ensures.more x (d.ensures.more x (h.ensures.more x has))))
    (cashed-share p Hearts h.hearts k.clubs t.hearts h.ensures.few h.ensures.rests (λ x has. k.ensures.more x (d.ensures.more x has)))
    (cashed-share p Diamonds d.diamonds k.clubs t.diamonds d.ensures.few d.ensures.rests k.ensures.more)
    (cashed-share p Clubs k.clubs k.clubs t.clubs k.ensures.few k.ensures.rests (λ x has. has))
    e.ensures.more
    (omega (arith, his, tricks, room))
    (subst (λ x. m ≤ joint_trumps p.strain p x) seat e.ensures.few)
    (subst (λ x. RestsOnTrumps p.strain p x e.cards m) seat e.ensures.trumps)

-- all of it is what was asked for
all : (c : In_ok-cards) → total (counts c) + (c.args.need - side c) ≡ c.args.need
all c = (let within = c.if-need-side.false in omega (arith, within))

pub returns-clause-leads : goal.returns-clause-leads
returns-clause-leads c =
    let p = c.args.position.now in
    let k = sure c in
    subst (λ n. TakesBy (reach c.in_ok-cards.cards) (side_of p.first) p n) (all c) (leader-by (reach c.in_ok-cards.cards) p (counts c) (c.args.need - side c) c.requires.start k.can k.tops k.joint)

pub returns-clause-after_a_lead : goal.returns-clause-after_a_lead
returns-clause-after_a_lead c = λ p led ready some.
    subst (λ n. TakesBy (reach c.in_ok-cards.cards) (side_of c.args.position.now.first) p n) (all c) (second-claim p led c.args.position.now c.in_ok-cards.cards (counts c) (c.args.need - side c) ready (sure c) some)

pub returns-in_err-spades-clause-found : goal.returns-in_err-spades-clause-found
returns-in_err-spades-clause-found c can = absurd (let none : false ≡ true = c.in_err-spades.ensures.found can.spades in cc)

pub returns-in_err-hearts-clause-found : goal.returns-in_err-hearts-clause-found
returns-in_err-hearts-clause-found c can = absurd (let none : false ≡ true = c.in_err-hearts.ensures.found can.hearts in cc)

pub returns-in_err-diamonds-clause-found : goal.returns-in_err-diamonds-clause-found
returns-in_err-diamonds-clause-found c can = absurd (let none : false ≡ true = c.in_err-diamonds.ensures.found can.diamonds in cc)

pub returns-in_err-clubs-clause-found : goal.returns-in_err-clubs-clause-found
returns-in_err-clubs-clause-found c can = absurd (let none : false ≡ true = c.in_err-clubs.ensures.found can.clubs in cc)

pub returns-then-tricks_left-thrown-clause-found : goal.returns-then-tricks_left-thrown-clause-found
returns-then-tricks_left-thrown-clause-found c can = absurd (
    let p = c.args.position.now in
    let his = c.trumps.ensures.trumps ∙ ap (trumps_at p.strain p) (c.partner.ensures ∙ ap (λ x. seat_after x 2) c.first-leader.ensures) in
    let tricks = c.tricks_left.ensures.tricks in
    let most = trumps-left p.strain p 2 c.tricks_left.ensures.board c.requires.start (omega arith) in
    let throws = can.throws in
    let over = c.if-tricks_left-thrown.true in
    omega (arith, his, tricks, most, throws, over))
