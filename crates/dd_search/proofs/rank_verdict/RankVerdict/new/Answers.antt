use Rattle.std.proofs.Common.{◌≡◌, ◌+◌, ◌*◌, ◌/◌, Bool, true, false, cond, ap, sym, subst, ◌∙◌, arith, List}
use Rattle.dd_cards.specs.PlayingCard.{PlayingCard}
use Rattle.dd_cards.specs.HandMasks.{IsHandMask, cards_of}
use Rattle.dd_relative.specs.WinningRanks.{AreTop}
use Rattle.dd_search.specs.ClaimsBy.{AnswerBy}
use Rattle.dd_search.proofs.rank_verdict.RankVerdict.new.Goals as goal
use Rattle.dd_search.proofs.rank_verdict.RankVerdict.new.Goals.{After-mask, then-yes, else-yes}
use Rattle.dd_search.proofs.Packed.{even, mask-back, said-back, said-little}

-- 1 for yes, 0 for no
said-is : (c : After-mask) → c.if-yes.said ≡ cond c.args.yes 1 0
said-is c = elim c.if-yes.branch [
  | then-yes w ↦ w.said-is ∙ sym (ap (λ b. cond b 1 0) w.if-yes.true)
  | else-yes w ↦ w.said-is ∙ sym (ap (λ b. cond b 1 0) w.if-yes.false)
]

-- the value of both
abbrev both : Bool → List PlayingCard → AnswerBy
both said these = record { yes = said; cards = these }

pub overflow_add-result : goal.overflow_add-result
overflow_add-result c =
    let e = even c.mask.result c.mask.ensures.mask in
    let l = said-little c.args.yes c.if-yes.said (said-is (goal.at.overflow_add-result c).After-mask) in
    let m = c.mask.type_inv in
    omega (arith, e, l, m)

pub invariant_of-result : goal.invariant_of-result
invariant_of-result c =
    let top = subst AreTop (sym (c.mask.ensures.cards ∙ c.cards-cards.ensures.cards)) c.cards-cards.ensures.top in
    subst (λ m. IsHandMask m × AreTop (cards_of m)) (sym (mask-back c.mask.result c.if-yes.said c.mask.ensures.mask (said-little c.args.yes c.if-yes.said (said-is (goal.at.invariant_of-result c).After-mask)))) (c.mask.ensures.mask, top)

pub returns : goal.returns
returns c =
    let kept = mask-back c.mask.result c.if-yes.said c.mask.ensures.mask (said-little c.args.yes c.if-yes.said (said-is (goal.at.returns c).After-mask)) in
    let said = said-back c.mask.result c.if-yes.said c.args.yes c.mask.ensures.mask (said-is (goal.at.returns c).After-mask) in
    ap (λ b. both b (cards_of ((c.mask.result + c.if-yes.said) / 2 * 2))) said ∙ ap (both c.args.yes) (ap cards_of kept ∙ c.mask.ensures.cards ∙ c.cards-cards.ensures.cards)
