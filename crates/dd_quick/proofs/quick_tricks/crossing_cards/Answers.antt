use Rattle.std.proofs.Common.{ℕ, arith, min, ◌+◌, ◌≤◌, ◌≡◌, subst}
use Rattle.dd_cards.specs.declared.suit.Suit.{Suit}
use Rattle.dd_cards.specs.declared.suit.Suit.TheVariants.{Spades, Hearts, Diamonds, Clubs}
use Rattle.dd_cards.specs.Sides.{side_of}
use Rattle.dd_play.specs.Reach.{TakesBy, reach}
use Rattle.dd_quick.specs.QuickTricks.{RestsOnTrumps, cashed, joint_trumps, next_run}
use Rattle.dd_quick.specs.Sharing.{shares}
use Rattle.dd_quick.proofs.Across.{RestsAcross, across-by}
use Rattle.dd_quick.proofs.Cashing.{total}
use Rattle.dd_quick.proofs.SecondAcross.{second-across}
use Rattle.dd_quick.proofs.AcrossClaims.{across-rests, crossed-most, next-more, some-entry}
use Rattle.dd_quick.proofs.quick_tricks.crossing_cards.Goals as goal
use Rattle.dd_quick.proofs.quick_tricks.crossing_cards.Goals.{After-with_trumps}

-- what the leader cashes of each suit, and the partner's share
abbrev own : After-with_trumps → Suit → ℕ
own c = shares c.args.ours.cashed.spades.tricks c.args.ours.cashed.hearts.tricks c.args.ours.cashed.diamonds.tricks c.args.ours.cashed.clubs.tricks

abbrev his : After-with_trumps → Suit → ℕ
his c = shares c.share_out-shares.result.spades c.share_out-shares.result.hearts c.share_out-shares.result.diamonds c.share_out-shares.result.clubs

-- the first is what it cashes
cashed-own : (c : After-with_trumps) (u : Suit) → 1 ≤ cashed c.args.position.now.strain c.args.position.now u → 1 ≤ own c u
cashed-own c Spades h = (let e = c.requires.spades.0 in omega (arith, e, h))
cashed-own c Hearts h = (let e = c.requires.hearts.0 in omega (arith, e, h))
cashed-own c Diamonds h = (let e = c.requires.diamonds.0 in omega (arith, e, h))
cashed-own c Clubs h = (let e = c.requires.clubs.0 in omega (arith, e, h))

-- the cards are those on which crossing rests
record Rests (c : After-with_trumps) : Type 0 where
  entry : Suit
  across : RestsAcross (reach c.with_trumps.result) c.args.position.now (own c) (λ u. min (his c u) (next_run c.args.position.now u)) (his c) entry c.args.ours.trumps
  sum : total (own c) + (total (his c) + c.args.ours.trumps) ≡ c.args.need

rests : (c : After-with_trumps) → Rests c
rests c =
    let p = c.args.position.now in
    let of = c.args.ours.cashed in
    let next = c.args.partners.next in
    let y = c.share_out-shares.result in
    let cards = c.with_trumps.result in
    let side = c.requires.side in
    let tricks = c.requires.tricks in
    let many = c.requires.many in
    let few = c.requires.few in
    let some : 1 ≤ c.args.partners.tricks = omega (arith, tricks, many, few) in
    let ns = c.requires.next_spades some in
    let nh = c.requires.next_hearts some in
    let nd = c.requires.next_diamonds some in
    let nc = c.requires.next_clubs some in
    let trumps = c.requires.trumps in
    let most = crossed-most p in
    let of_all = most.0 in
    let of_left = most.1 in
    let sum = c.share_out-shares.ensures.sum in
    let s = c.requires.spades.0 in
    let h = c.requires.hearts.0 in
    let d = c.requires.diamonds.0 in
    let k = c.requires.clubs.0 in
    let ts = ns.0 in
    let th = nh.0 in
    let td = nd.0 in
    let tc = nc.0 in
    let shared : y.spades + y.hearts + y.diamonds + y.clubs + c.args.ours.side + c.args.ours.trumps ≡ c.args.need = omega (arith, sum, few, many, trumps, side, of_all, ts, th, td, tc) in
    let all : of.spades.tricks + of.hearts.tricks + of.diamonds.tricks + of.clubs.tricks ≡ c.args.ours.side = omega (arith, side, many, few, of_left, s, h, d, k) in
    let joint = subst (λ x. c.args.ours.trumps ≤ joint_trumps p.strain p x → RestsOnTrumps p.strain p x cards c.args.ours.trumps) c.first.ensures c.with_trumps.ensures.trumps (omega (arith, trumps)) in
    let across = across-rests p c.with_shares-cards.result cards of.spades.tricks of.hearts.tricks of.diamonds.tricks of.clubs.tricks y.spades y.hearts y.diamonds y.clubs c.args.ours.trumps next.spades.first next.hearts.first next.diamonds.first next.clubs.first
    (λ some. s) (λ some. h) (λ some. d) (λ some. k)
    (record { tricks = of.spades.tricks; cards_of = of.spades.depth; cash = c.requires.spades; few = omega arith; rests = c.with_shares-cards.ensures.spades })
    (record { tricks = of.hearts.tricks; cards_of = of.hearts.depth; cash = c.requires.hearts; few = omega arith; rests = c.with_shares-cards.ensures.hearts })
    (record { tricks = of.diamonds.tricks; cards_of = of.diamonds.depth; cash = c.requires.diamonds; few = omega arith; rests = c.with_shares-cards.ensures.diamonds })
    (record { tricks = of.clubs.tricks; cards_of = of.clubs.depth; cash = c.requires.clubs; few = omega arith; rests = c.with_shares-cards.ensures.clubs })
    (λ e has. c.with_trumps.ensures.more e (c.with_partners-cards.ensures.more e has))
    (record { tricks = next.spades.tricks; next = ns; few = c.share_out-shares.ensures.spades; rests = next-more p Spades c.with_partners-cards.result cards y.spades c.with_trumps.ensures.more c.with_partners-cards.ensures.spades })
    (record { tricks = next.hearts.tricks; next = nh; few = c.share_out-shares.ensures.hearts; rests = next-more p Hearts c.with_partners-cards.result cards y.hearts c.with_trumps.ensures.more c.with_partners-cards.ensures.hearts })
    (record { tricks = next.diamonds.tricks; next = nd; few = c.share_out-shares.ensures.diamonds; rests = next-more p Diamonds c.with_partners-cards.result cards y.diamonds c.with_trumps.ensures.more c.with_partners-cards.ensures.diamonds })
    (record { tricks = next.clubs.tricks; next = nc; few = c.share_out-shares.ensures.clubs; rests = next-more p Clubs c.with_partners-cards.result cards y.clubs c.with_trumps.ensures.more c.with_partners-cards.ensures.clubs })
    (c.share_out-shares.ensures.first (omega (arith, many, trumps, side)) (some-entry p next.spades.tricks next.hearts.tricks next.diamonds.tricks next.clubs.tricks next.spades.first next.hearts.first next.diamonds.first next.clubs.first ns nh nd nc (omega (arith, tricks, some))))
    (omega (arith, shared, all, few, trumps, side, many, of_left)) (omega (arith, shared, all, few, trumps, side, many, of_left)) (omega (arith, trumps)) joint in
    record { entry = across.0; across = across.1; sum = omega (arith, shared, all) }

pub returns-clause-leads : goal.returns-clause-leads
returns-clause-leads c =
    let k = rests (goal.at.returns-clause-leads c).After-with_trumps in
    let p = c.args.position.now in
    subst (λ n. TakesBy (reach c.with_trumps.result) (side_of p.first) p n) k.sum (across-by (reach c.with_trumps.result) p _ _ _ k.entry _ c.requires.start k.across)

pub returns-clause-after_a_lead : goal.returns-clause-after_a_lead
returns-clause-after_a_lead c p led ready some =
    let k = rests (goal.at.returns-clause-after_a_lead c).After-with_trumps in
    subst (λ n. TakesBy (reach c.with_trumps.result) (side_of c.args.position.now.first) p n) k.sum
    (second-across (reach c.with_trumps.result) p led c.args.position.now _ _ _ k.entry _ ready k.across (cashed-own (goal.at.returns-clause-after_a_lead c).After-with_trumps led.suit some))
