use Rattle.std.proofs.Common.{◌≡◌, ap, sym, subst, ◌∙◌, arith, List, get_or}
use Rattle.dd_play.specs.Board.{Board}
use Rattle.dd_play.specs.Value.{leaders_tricks}
use Rattle.dd_equal.specs.EqualCards.{EqualCards, classes_of}
use Rattle.dd_search.proofs.CallerLemmas.{class-legal, lead-value, score-most}
use Rattle.search_tests.proofs.scores.scores_up_to.Goals as goal

pub score_up_to-requires-clause-legal : goal.score_up_to-requires-clause-legal
score_up_to-requires-clause-legal g c =
    let classes : List EqualCards = c.args.classes.now in
    let class : EqualCards = record { top = c.class.inside.top; equals = c.class.inside.equals } in
    let here = subst (λ (x : EqualCards). x ≡ get_or classes c.loop-class.class-index x) (sym c.class.view_is) c.class-item.is in
    class-legal c.position-position.result.now classes c.loop-class.class-index class (c.requires.classes ∙ ap classes_of (sym c.position-position.ensures.value)) c.loop-class-test.true here

pub score_up_to-requires-clause-most : goal.score_up_to-requires-clause-most
score_up_to-requires-clause-most g c =
    let p = c.position-position.result.now in
    let same = c.position-position.ensures.value in
    let classes : List EqualCards = c.args.classes.now in
    let class : EqualCards = record { top = c.class.inside.top; equals = c.class.inside.equals } in
    let here = subst (λ (x : EqualCards). x ≡ get_or classes c.loop-class.class-index x) (sym c.class.view_is) c.class-item.is in
    let has = class-legal p classes c.loop-class.class-index class (c.requires.classes ∙ ap classes_of (sym c.position-position.ensures.value)) c.loop-class-test.true here in
    let most = score-most p class.top (rw same c.position-position.ensures.board) has in
    let value = lead-value p (ap (λ (q : Board). q.trick) same ∙ c.position-position.ensures.start) in
    let best = c.requires.best in
    let moved = ap leaders_tricks same in
    omega (arith, most, value, best, moved)
