use Rattle.std.proofs.Common.{◌≡◌, ap, sym, subst, ◌∙◌, arith, List, [], ◌∷◌, ◌++◌, length, take, get_or}
use Rattle.std.proofs.lemmas.List.{take_all}
use Rattle.dd_equal.specs.EqualCards.{EqualCards}
use Rattle.dd_request.specs.ScoredClasses.{ScoredClass}
use Rattle.dd_search.proofs.CallerLemmas.{class-legal, few-classes}
use Rattle.dd_solve.proofs.Reaching.{reached, as_target, reached-all, reached-more, reached-past, reached-front}
use Rattle.dd_solve.proofs.target_solving.first_reaching.Goals as goal
use Rattle.dd_solve.proofs.target_solving.first_reaching.Goals.{then-branch, else-branch, else-loop-class-test, then-loop-class-test+then-len-most}

pub card_reaches-requires-clause-legal : goal.card_reaches-requires-clause-legal
card_reaches-requires-clause-legal g c =
    let p = c.args.position.now in
    let classes : List EqualCards = c.args.classes.now in
    let class : EqualCards = record { top = c.class.inside.top; equals = c.class.inside.equals } in
    let here = subst (λ (x : EqualCards). x ≡ get_or classes c.loop-class.class-index x) (sym c.class.view_is) c.class-item.is in
    class-legal p classes c.loop-class.class-index class c.requires.classes c.loop-class-test.true here

pub push-requires : goal.push-requires
push-requires g c =
    let few = few-classes c.args.position.now c.args.classes.now c.requires.board c.requires.classes in
    (omega arith, omega arith)

pub loop-class-preserved : goal.loop-class-preserved
loop-class-preserved g c =
    let p = c.args.position.now in
    let classes : List EqualCards = c.args.classes.now in
    let place = c.loop-class.class-index in
    let before : List ScoredClass = c.loop-class.answer.items in
    let class : EqualCards = record { top = c.class.inside.top; equals = c.class.inside.equals } in
    let here = subst (λ (x : EqualCards). x ≡ get_or classes place x) (sym c.class.view_is) c.class-item.is in
    let told = c.in_ok-card_reaches.ensures.answer in
    elim c.if-branch.branch [
      | then-branch w ↦ record {
        found = ap (λ a. a.items) w.answer-is ∙ w.push.ensures.items ∙ ap (λ xs. xs ++ as_target c.args.target class ∷ []) c.loop-class.invariant.found
            ∙ sym (reached-more p c.args.target classes place class c.loop-class-test.true here (sym told ∙ w.if-branch.true));
        few = (let longer = w.push.ensures.len in let same = ap (λ a. length a.items) w.answer-is in omega arith);
        most = (let longer = w.push.ensures.len in let same = ap (λ a. length a.items) w.answer-is in omega arith);
        limit = c.card_reaches.ensures.limit ∙ c.loop-class.invariant.limit;
      }
      | else-branch w ↦ record {
        found = ap (λ a. a.items) w.answer-is ∙ c.loop-class.invariant.found
            ∙ sym (reached-past p c.args.target classes place class c.loop-class-test.true here (sym told ∙ w.if-branch.false));
        few = (let same = ap (λ a. length a.items) w.answer-is in omega arith);
        most = (let same = ap (λ a. length a.items) w.answer-is in omega arith);
        limit = c.card_reaches.ensures.limit ∙ c.loop-class.invariant.limit;
      }
    ]

pub returns-clause-found : goal.returns-clause-found
returns-clause-found g c =
    let p = c.args.position.now in
    let classes : List EqualCards = c.args.classes.now in
    let place = c.loop-class.class-index in
    let found : List ScoredClass = c.loop-class.answer.items in
    let whole : List ScoredClass = reached p c.args.target classes in
    let same = reached-all p c.args.target classes c.requires.classes in
    elim c.loop-class-test.branch [
      | else-loop-class-test w ↦ (
          let all : take place classes ≡ classes = take_all place classes w.loop-class-test.false in
          sym (take_all c.args.most found c.loop-class.invariant.most) ∙ ap (take c.args.most) (c.loop-class.invariant.found ∙ ap (reached p c.args.target) all ∙ same)
          )
      | then-loop-class-test+then-len-most w ↦ (
          let size = ap length c.loop-class.invariant.found in
          let full : length (reached p c.args.target (take place classes)) ≡ c.args.most = omega arith in
          c.loop-class.invariant.found ∙ sym (reached-front p c.args.target classes place) ∙ ap (λ n. take n whole) full ∙ ap (take c.args.most) same
          )
    ]
