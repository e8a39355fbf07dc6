use Rattle.dd_relative.proofs.TrickRanks.{put-four}
use Rattle.dd_relative.proofs.winning_card.four_cards.Goals as goal

pub returns : goal.returns
returns c =
    put-four c.args.first c.args.second c.args.third c.args.fourth c.new.result c.with_place.result c.with_place-2.result c.with_place-3.result c.with_place-4.result c.new.ensures c.with_place.ensures c.with_place-2.ensures c.with_place-3.ensures
    c.with_place-4.ensures
