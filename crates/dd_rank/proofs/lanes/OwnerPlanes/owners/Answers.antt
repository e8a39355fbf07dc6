use Rattle.std.proofs.Common.{◌-◌, ◌*◌, ◌/◌, ◌^◌, ◌∙◌, ap}
use Rattle.dd_cards.specs.Ranks.{all_ranks}
use Rattle.dd_rank.specs.Lanes.{places_of}
use Rattle.dd_rank.proofs.Spread.{lane-owners}
use Rattle.dd_rank.proofs.lanes.OwnerPlanes.owners.Goals as goal

pub returns : goal.returns
returns c =
    lane-owners c.args.self.odd c.args.self.far c.args.suit c.spread.result c.spread-2.result
    (c.spread.ensures.value ∙ ap (λ n. places_of (c.args.self.odd / 2 ^ (48 - 16 * n)) 0 all_ranks) c.code.ensures.value)
    (c.spread-2.ensures.value ∙ ap (λ n. places_of (c.args.self.far / 2 ^ (48 - 16 * n)) 0 all_ranks) c.code.ensures.value)
