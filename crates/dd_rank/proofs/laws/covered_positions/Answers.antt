use Rattle.dd_cards.specs.declared.suit.Suit.TheVariants.{Spades, Hearts, Diamonds, Clubs}
use Rattle.dd_rank.proofs.Agreed.{covers-agree, agree-covers}
use Rattle.dd_rank.proofs.Alikes.{alike-full}
use Rattle.dd_rank.proofs.BySuit.{by-suit}
use Rattle.dd_rank.proofs.Lengths.{counts-same}
use Rattle.dd_rank.proofs.Standing.{count-small}
use Rattle.dd_rank.specs.Strings.{ShapeOf}
use Rattle.std.proofs.Common.{ap}
use Rattle.dd_rank.proofs.Fulls.{itself, full-alike}
use Rattle.dd_rank.proofs.Told.{told, noted, chained}
use Rattle.dd_rank.proofs.laws.covered_positions.Goals as goal

pub returns-clause-told : goal.returns-clause-told
returns-clause-told c = told

pub returns-clause-noted : goal.returns-clause-noted
returns-clause-noted c = noted

pub returns-clause-chained : goal.returns-clause-chained
returns-clause-chained c = chained

pub returns-clause-itself : goal.returns-clause-itself
returns-clause-itself c = itself

pub returns-clause-shapes : goal.returns-clause-shapes
returns-clause-shapes c = λ p q depths valid_p valid_q a. (covers-agree depths p q valid_p valid_q a).shape

pub returns-clause-full : goal.returns-clause-full
returns-clause-full c = λ p q depths valid_p valid_q full. (full-alike p q depths valid_p valid_q full, alike-full p q depths valid_p valid_q full)

pub returns-clause-owners : goal.returns-clause-owners
returns-clause-owners c = λ p q depths valid_p valid_q start_p start_q most. (
  λ a. (let k = covers-agree depths p q valid_p valid_q a in (k.shape, by-suit _ (k.owners Spades) (k.owners Hearts) (k.owners Diamonds) (k.owners Clubs))),
  λ k. agree-covers depths p q valid_p valid_q start_p start_q (record { shape = k.0; most = most; owners = by-suit _ (k.1 Spades) (k.1 Hearts) (k.1 Diamonds) (k.1 Clubs) }),
)

pub returns-clause-counts : goal.returns-clause-counts
returns-clause-counts c = λ p q valid_p valid_q same. counts-same p q valid_p valid_q (ap (λ (s : ShapeOf). s.lengths) same)

pub returns-clause-few : goal.returns-clause-few
returns-clause-few c = count-small
