use Rattle.std.proofs.Common.{arith, ap, ◌≡◌, ◌≤◌, ◌∙◌, refl, subst, sym, true, zero-le}
use Rattle.std.specs.Prelude.{filter, map, ◌&&◌}
use Rattle.dd_cards.specs.Cards.{is_of, card_of}
use Rattle.dd_cards.specs.Seats.{seat_after}
use Rattle.dd_cards.specs.Sides.{side_of}
use Rattle.dd_play.specs.Board.{Board, cards_at}
use Rattle.dd_play.specs.Reach.{TakesBy, reach}
use Rattle.dd_play.specs.Tricks.{is_trump}
use Rattle.dd_play.proofs.CallerLemmas.{count, of-suit'}
use Rattle.dd_quick.specs.QuickTricks.{is_winner, trumps_at}
use Rattle.dd_quick.specs.Sharing.{shares}
use Rattle.dd_quick.proofs.Claims.{leader-sure, rests-more}
use Rattle.dd_quick.proofs.Reached.{length-of}
use Rattle.dd_quick.proofs.SecondTrump.{trump-claim}
use Rattle.dd_quick.proofs.TrumpRanks.{none-rest}
use Rattle.dd_quick.proofs.second_hand.after_a_trump.Goals as goal

pub returns : goal.returns
returns c = λ p led ready same.
    let o = c.args.before.now in
    let u = c.args.suit in
    let of = c.leaders-sure.result.cashed in
    let n = c.share_out-shares.result in
    let cards = c.with_shares.result in
    let sum = c.share_out-shares.ensures.sum in
    let all = c.leaders-sure.ensures.side in
    let s = c.offers.ensures.spades ∙ c.leaders-sure.ensures.spades.0 in
    let h = c.offers.ensures.hearts ∙ c.leaders-sure.ensures.hearts.0 in
    let d = c.offers.ensures.diamonds ∙ c.leaders-sure.ensures.diamonds.0 in
    let k = c.offers.ensures.clubs ∙ c.leaders-sure.ensures.clubs.0 in
    let most = c.if-side-sure.false in
    let room = c.if-side-spare.false in
    let spare = c.saturating_sub-spare.ensures in
    let tricks = c.tricks_left.ensures.tricks in
    let his = c.trumps.ensures.trumps ∙ ap (trumps_at o.strain o) (c.partner.ensures ∙ ap (λ x. seat_after x 2) c.first-seat.ensures) in
    let tops = c.min-tops.ensures in
    let some = c.if-tops-eq0.false in
    let sure = leader-sure o cards cards n.spades n.hearts n.diamonds n.clubs 0 c.requires.start
    (record { tricks = of.spades.tricks; cards_of = of.spades.depth; cash = c.leaders-sure.ensures.spades; few = (let few = c.share_out-shares.ensures.spades in let same = c.offers.ensures.spades in omega (arith, few, same)); rests = c.with_shares.ensures.spades })
    (record { tricks = of.hearts.tricks; cards_of = of.hearts.depth; cash = c.leaders-sure.ensures.hearts; few = (let few = c.share_out-shares.ensures.hearts in let same = c.offers.ensures.hearts in omega (arith, few, same)); rests = c.with_shares.ensures.hearts })
    (record { tricks = of.diamonds.tricks; cards_of = of.diamonds.depth; cash = c.leaders-sure.ensures.diamonds; few = (let few = c.share_out-shares.ensures.diamonds in let same = c.offers.ensures.diamonds in omega (arith, few, same)); rests = c.with_shares.ensures.diamonds })
    (record { tricks = of.clubs.tricks; cards_of = of.clubs.depth; cash = c.leaders-sure.ensures.clubs; few = (let few = c.share_out-shares.ensures.clubs in let same = c.offers.ensures.clubs in omega (arith, few, same)); rests = c.with_shares.ensures.clubs })
    (λ e has. has)
    (omega (arith, sum, all, most, s, h, d, k)) zero-le (none-rest o.strain o o.first cards 0 refl) in
    let long = subst (λ x. map (card_of u) c.run.result ≡ filter (λ e. is_of u e && is_winner o x e) (cards_at o x)) c.first-seat.ensures c.run.ensures.cards in
    let run = c.len-run.ensures.len ∙ length-of u (λ e. is_of u e && is_winner o o.first e) c.run.result (cards_at o o.first) long in
    let rests = rests-more o u c.with_winners-cards.result cards _ c.with_shares.ensures.more c.with_winners-cards.ensures.winners in
    let reached : c.min-tops.result ≤ count (λ e. (is_of u e && is_winner o o.first e) && reach cards e) (cards_at o o.first) = omega (arith, tops, run, rests) in
    let reached_led = subst (λ v. c.min-tops.result ≤ count (λ e. (is_of v e && is_winner o o.first e) && reach cards e) (cards_at o o.first)) (sym same) reached in
    let kind : is_trump p.strain led ≡ true = ap (λ s. is_trump s led) (sym (ap (λ (q : Board). q.strain) ready.was) ∙ c.requires.trump) ∙ of-suit' u led same in
    let claim = trump-claim p led o cards (shares n.spades n.hearts n.diamonds n.clubs) c.min-tops.result ready sure kind (omega (arith, some)) reached_led
    (omega (arith, sum, all, most, s, h, d, k, room, spare, tricks, his)) in
    subst (λ n. TakesBy (reach cards) (side_of o.first) p n) (omega (arith, sum, all, most, s, h, d, k, tops)) claim
