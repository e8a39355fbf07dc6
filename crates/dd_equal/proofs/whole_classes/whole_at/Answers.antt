use Rattle.std.proofs.Common.{ap, ◌∙◌, sym}
use Rattle.std.specs.Prelude.{filter, ◌||◌}
use Rattle.dd_cards.specs.Cards.{has_card, deck}
use Rattle.dd_cards.specs.Sequences.{is_headed}
use Rattle.dd_play.proofs.CallerLemmas.{filter-passes}
use Rattle.dd_equal.proofs.Wholes.{whole-lower}
use Rattle.dd_equal.proofs.whole_classes.whole_at.Goals as goal
use Rattle.std.proofs.lemmas.Bool.{or_cases}

pub returns-clause-whole : goal.returns-clause-whole
returns-clause-whole c =
    whole-lower c.args.position.now c.others_at-others.result c.args.reached c.difference.result c.headed-lower.result c.union.result (record {
      valid = c.choices_at.ensures.board;
      theirs = c.others_at-others.ensures;
      without = c.difference.ensures;
      headed = c.headed-lower.ensures ∙ ap (filter (is_headed c.difference.result c.others_at-others.result)) c.choices_at.ensures.cards;
      either = λ d h. or_cases (has_card c.args.reached d) (has_card c.headed-lower.result d) (filter-passes (λ e. has_card c.args.reached e || has_card c.headed-lower.result e) deck d (ap (λ xs. has_card xs d) (sym c.union.ensures.cards) ∙ h));
      more = c.union.ensures.right;
    })
