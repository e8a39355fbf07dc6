use Rattle.std.proofs.Common.{◌≡◌, inl, inr, sym, ap, ◌∙◌}
use Rattle.dd_cards.specs.Sides.{side_of}
use Rattle.dd_score.specs.Vulnerability.{is_vulnerable}
use Rattle.dd_score.specs.Worths.{as_north_souths, worth}
use Rattle.dd_score.proofs.WorthLemmas.{worth-from, theirs, others, fits_turned}
use Rattle.dd_score.proofs.contract_worth.worth.Goals as goal
use Rattle.dd_score.proofs.contract_worth.worth.Goals.{After-is_north_south, then-level-tricks, else-level-tricks}

pub overflow_sub-result : goal.overflow_sub-result
overflow_sub-result c = fits_turned _ c.points-won.ensures.low c.points-won.ensures.high

-- the score, as North and South's points
scored : (c : After-is_north_south) → as_north_souths (side_of c.args.declarer) c.points-won.result ≡ worth c.args.results.now c.args.vulnerable c.args.bid c.args.declarer
scored c =
    worth-from c.args.results.now c.args.vulnerable c.args.bid c.args.declarer c.level-level.result c.tricks-tricks.result c.strain-strain.result
    c.if-level-tricks.doubling c.has.result c.points-won.result c.level-level.ensures.value c.strain-strain.ensures
    (c.tricks-tricks.ensures.value)
    (elim c.if-level-tricks.branch [ then-level-tricks w ↦ inl (w.if-level-tricks.true, w.doubling-is) | else-level-tricks w ↦ inr (w.if-level-tricks.false, w.doubling-is) ])
    (c.has.ensures ∙ ap (is_vulnerable c.args.vulnerable) c.side.ensures) c.points-won.ensures.value

pub returns-then-is_north_south : goal.returns-then-is_north_south
returns-then-is_north_south c =
    theirs (side_of c.args.declarer) c.points-won.result _ (sym c.is_north_south.ensures ∙ c.if-is_north_south.true) c.points-won.ensures.low
    c.points-won.ensures.high (scored (goal.at.returns-then-is_north_south c).After-is_north_south)

pub returns-else-is_north_south : goal.returns-else-is_north_south
returns-else-is_north_south c =
    others (side_of c.args.declarer) c.points-won.result _ (sym c.is_north_south.ensures ∙ c.if-is_north_south.false) c.points-won.ensures.low
    c.points-won.ensures.high (scored (goal.at.returns-else-is_north_south c).After-is_north_south)
