use Rattle.std.proofs.Common.{ap, ◌∙◌, arith}
use Rattle.dd_cards.specs.PlayingCard.{PlayingCard}
use Rattle.dd_cards.specs.Cards.{has_card}
use Rattle.dd_equal.proofs.CallerLemmas.{with-new}
use Rattle.dd_search.proofs.winning_ranks.contested.Goals as goal

pub returns-in-Some : goal.returns-in-Some
returns-in-Some c = λ top on.
    c.in-Some.ensures top (on c.in-Some.won (ap (λ cards. has_card cards c.in-Some.won) c.with.ensures ∙ with-new c.new.result c.in-Some.won
    (let e = ap (λ (d : PlayingCard). d.rank) c.won.view_is in let v = c.code-rank.ensures.value in let l = c.code-rank.ensures.low in let h = c.code-rank.ensures.high in (omega (arith, e, v, l), omega (arith, e, v, h)))))
