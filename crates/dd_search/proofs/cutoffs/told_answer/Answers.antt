use Rattle.std.proofs.Common.{◌≡◌, ◌∙◌, ap, sym, subst, refl, true, false}
use Rattle.dd_cards.specs.Seats.{is_north_south}
use Rattle.dd_play.specs.Board.{Board, tricks_left}
use Rattle.dd_rank.specs.Depths.{depth_in}
use Rattle.dd_rank.proofs.CallerLemmas.{told}
use Rattle.dd_search.specs.ClaimsBy.{IsAnswerBy, AnswerBy}
use Rattle.dd_search.proofs.Relied.{told-answer}
use Rattle.dd_search.proofs.cutoffs.told_answer.Goals as goal
use Rattle.dd_search.proofs.cutoffs.told_answer.Goals.{then-leads, else-leads}

pub cards-requires : goal.cards-requires
cards-requires g c = c.in-Some.ensures.within

pub returns-in-Some-clause-answer : goal.returns-in-Some-clause-answer
returns-in-Some-clause-answer g c =
    let p = c.args.start.now in
    let i = c.in-Some.told.0 in
    let d = c.in-Some.told.1 in
    let claims = told c.cards.result (depth_in d) p i.lo i.hi c.cards.ensures.real c.position-position.ensures.start c.cards.ensures.depths (λ q good a. g.met.B.Bounds.holds c.args.table.now p d i q c.in-Some.ensures.told good a) in
    let side = c.is_north_south-leads.ensures ∙ ap is_north_south (c.first.ensures ∙ ap (λ (q : Board). q.first) c.position-position.ensures.value) in
    let tricks = c.tricks_left-left.ensures.tricks ∙ ap tricks_left c.position-position.ensures.value in
    subst (λ (a : AnswerBy). IsAnswerBy p c.args.need a.cards a.yes) (sym c.new.ensures) (told-answer p i.lo i.hi c.args.need c.if-leads.leaders c.tricks_left-left.result c.is_north_south-leads.result _ c.cards.result side tricks c.requires.low c.requires.high
    (elim c.if-leads.branch [
      | then-leads w ↦ λ t. w.leaders-is
      | else-leads w ↦ λ t. absurd (let k : false ≡ true = sym w.if-leads.false ∙ t in cc)
    ])
    (elim c.if-leads.branch [
      | then-leads w ↦ λ t. absurd (let k : false ≡ true = sym t ∙ w.if-leads.true in cc)
      | else-leads w ↦ λ t. w.leaders-is
    ])
    c.in-Some.ensures.settles refl claims.0 claims.1)
