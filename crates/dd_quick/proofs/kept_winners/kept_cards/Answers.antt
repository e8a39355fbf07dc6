use Rattle.std.proofs.Common.{arith, ◌+◌, ◌≤◌, ℕ, subst}
use Rattle.dd_cards.specs.declared.suit.Suit.{Suit}
use Rattle.dd_cards.specs.declared.suit.Suit.TheVariants.{Spades, Hearts, Diamonds, Clubs}
use Rattle.dd_quick.specs.QuickTricks.{RestsOnRun, first_kept, run}
use Rattle.dd_quick.specs.Sharing.{shares}
use Rattle.dd_quick.proofs.KeptClaims.{claim-at, run-more}
use Rattle.dd_quick.proofs.kept_winners.kept_cards.Goals as goal
use Rattle.dd_quick.proofs.kept_winners.kept_cards.Goals.{After-with_winners}

-- what of each suit is shared out
abbrev more : After-with_winners → Suit → ℕ
more c = shares c.share_out-more.result.spades c.share_out-more.result.hearts c.share_out-more.result.diamonds c.share_out-more.result.clubs

-- is no more than there is
within : (c : After-with_winners) (u : Suit) → more c u + first_kept c.args.position.now c.args.seat u ≤ run c.args.position.now c.args.seat u
within c Spades = (let few = c.share_out-more.ensures.spades in let of = c.others_of.ensures in let a = c.by_suit-spades.ensures.all in let f = c.by_suit-spades.ensures.first in omega (arith, few, of, a, f))
within c Hearts = (let few = c.share_out-more.ensures.hearts in let of = c.others_of-2.ensures in let a = c.by_suit-hearts.ensures.all in let f = c.by_suit-hearts.ensures.first in omega (arith, few, of, a, f))
within c Diamonds = (let few = c.share_out-more.ensures.diamonds in let of = c.others_of-3.ensures in let a = c.by_suit-diamonds.ensures.all in let f = c.by_suit-diamonds.ensures.first in omega (arith, few, of, a, f))
within c Clubs = (let few = c.share_out-more.ensures.clubs in let of = c.others_of-4.ensures in let a = c.by_suit-clubs.ensures.all in let f = c.by_suit-clubs.ensures.first in omega (arith, few, of, a, f))

-- and rests on the cards
rests : (c : After-with_winners) (u : Suit) → RestsOnRun c.args.position.now c.args.seat u c.with_winners.result (first_kept c.args.position.now c.args.seat u + more c u)
rests c Spades = subst (λ n. RestsOnRun c.args.position.now c.args.seat Spades c.with_winners.result (n + c.share_out-more.result.spades)) c.by_suit-spades.ensures.first
    (run-more c.args.position.now c.args.seat Spades c.with_winners-cards.result c.with_winners.result (c.by_suit-spades.result.first + c.share_out-more.result.spades) (λ d h. c.with_winners.ensures.more d (c.with_winners-cards-3.ensures.more d (c.with_winners-cards-2.ensures.more d h))) c.with_winners-cards.ensures.rests)
rests c Hearts = subst (λ n. RestsOnRun c.args.position.now c.args.seat Hearts c.with_winners.result (n + c.share_out-more.result.hearts)) c.by_suit-hearts.ensures.first
    (run-more c.args.position.now c.args.seat Hearts c.with_winners-cards-2.result c.with_winners.result (c.by_suit-hearts.result.first + c.share_out-more.result.hearts) (λ d h. c.with_winners.ensures.more d (c.with_winners-cards-3.ensures.more d h)) c.with_winners-cards-2.ensures.rests)
rests c Diamonds = subst (λ n. RestsOnRun c.args.position.now c.args.seat Diamonds c.with_winners.result (n + c.share_out-more.result.diamonds)) c.by_suit-diamonds.ensures.first
    (run-more c.args.position.now c.args.seat Diamonds c.with_winners-cards-3.result c.with_winners.result (c.by_suit-diamonds.result.first + c.share_out-more.result.diamonds) c.with_winners.ensures.more c.with_winners-cards-3.ensures.rests)
rests c Clubs = subst (λ n. RestsOnRun c.args.position.now c.args.seat Clubs c.with_winners.result (n + c.share_out-more.result.clubs)) c.by_suit-clubs.ensures.first c.with_winners.ensures.rests

pub returns : goal.returns
returns c =
    let at = (goal.at.returns c).After-with_winners in
    let sum = c.share_out-more.ensures.sum in
    let most = c.max.ensures in
    let a = c.by_suit-spades.ensures.all in let b = c.by_suit-hearts.ensures.all in let d = c.by_suit-diamonds.ensures.all in let e = c.by_suit-clubs.ensures.all in
    let f = c.by_suit-spades.ensures.first in let g = c.by_suit-hearts.ensures.first in let h = c.by_suit-diamonds.ensures.first in let i = c.by_suit-clubs.ensures.first in
    let s = c.others_of.ensures in let t = c.others_of-2.ensures in let u = c.others_of-3.ensures in let v = c.others_of-4.ensures in
    claim-at c.args.position.now c.args.seat c.with_winners.result (more at) c.args.need c.requires.opposes c.requires.start c.requires.few (within at)
    (omega (arith, sum, most, a, b, d, e, f, g, h, i, s, t, u, v)) (rests at)
