use Rattle.dd_relative.specs.Relative.{led_by_north}
use Rattle.dd_relative.proofs.Gapped.{closed-step, closing-start, fewer-gaps, popped-none}
use Rattle.dd_relative.proofs.relative_start.closed_up.Goals as goal

pub gaps-init : goal.gaps-init
gaps-init c = closing-start (led_by_north c.args.leader c.args.second c.args.third c.args.fourth c.args.strain) c.args.gaps c.requires

pub moved_up-gaps_now-requires : goal.moved_up-gaps_now-requires
moved_up-gaps_now-requires c =
    popped-none (led_by_north c.args.leader c.args.second c.args.third c.args.fourth c.args.strain) c.gaps.first_now c.gaps.second_now c.gaps.third_now c.gaps.fourth_now c.gaps.gaps_now c.take_first.new.self c.args.strain c.in-Some.gap
    c.gaps.invariant c.in-Some.ensures

pub gaps-smaller : goal.gaps-smaller
gaps-smaller c = fewer-gaps c.gaps.gaps_now c.take_first.new.self c.moved_up-gaps_now.result c.in-Some.gap c.in-Some.ensures c.moved_up-gaps_now.ensures

pub gaps-preserved : goal.gaps-preserved
gaps-preserved c =
    closed-step (led_by_north c.args.leader c.args.second c.args.third c.args.fourth c.args.strain) c.gaps.first_now c.gaps.second_now c.gaps.third_now c.gaps.fourth_now
    c.moved_up-first_now.result c.moved_up-second_now.result c.moved_up-third_now.result c.moved_up-fourth_now.result c.gaps.gaps_now c.take_first.new.self c.moved_up-gaps_now.result c.args.strain c.in-Some.gap
    c.gaps.invariant c.in-Some.ensures c.moved_up-first_now.ensures c.moved_up-second_now.ensures c.moved_up-third_now.ensures c.moved_up-fourth_now.ensures c.moved_up-gaps_now.ensures
