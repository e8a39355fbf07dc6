use Rattle.dd_play.proofs.Worth.{by-nothing, by-fewer, by-more, by-one, by-each, worth-after, worth-fewer, worth-more, worth-low, by-here, reach-upward}
use Rattle.dd_play.proofs.laws.claims_by_high_cards.Goals as goal

pub returns-clause-nothing : goal.returns-clause-nothing
returns-clause-nothing c = by-nothing

pub returns-clause-fewer : goal.returns-clause-fewer
returns-clause-fewer c = by-fewer

pub returns-clause-more : goal.returns-clause-more
returns-clause-more c = by-more

pub returns-clause-one_card : goal.returns-clause-one_card
returns-clause-one_card c = by-one

pub returns-clause-every_card : goal.returns-clause-every_card
returns-clause-every_card c = by-each

pub returns-clause-after : goal.returns-clause-after
returns-clause-after c = worth-after

pub returns-clause-less : goal.returns-clause-less
returns-clause-less c = worth-fewer

pub returns-clause-wider : goal.returns-clause-wider
returns-clause-wider c = worth-more

pub returns-clause-low : goal.returns-clause-low
returns-clause-low c = worth-low

pub returns-clause-here : goal.returns-clause-here
returns-clause-here c = by-here

pub returns-clause-reached : goal.returns-clause-reached
returns-clause-reached c = reach-upward
