use Rattle.std.proofs.Common.{◌≡◌, ◌+◌, ap, sym, ◌∙◌, subst, ◌∷◌, List, drop, take}
use Rattle.std.proofs.lemmas.List.{drop_more}
use Rattle.dd_cards.specs.PlayingCard.{PlayingCard}
use Rattle.dd_play.specs.Board.{Board}
use Rattle.dd_request.specs.Plays.{Play, IsRegular}
use Rattle.dd_request.proofs.CardByCard.{IsOnTheWay, regular-take, way-none, way-won}
use Rattle.dd_request.proofs.play_request.PlayRequest.after.Goals as goal

pub loop-card-init : goal.loop-card-init
loop-card-init c =
    let opening : Board = c.self.inside.opening in
    let cards : List PlayingCard = c.self.inside.cards.items in
    let slice : List PlayingCard = c.as_slice.result.now in
    let regular : IsRegular opening slice = subst (IsRegular opening) (sym c.as_slice.ensures.value) c.self.invariant.2 in
    let first : IsRegular opening (take c.args.count slice) = regular-take opening c.args.count slice regular in
    let here : c.copy-position.result ≡ opening = c.copy-position.ensures.same in
    let start : IsOnTheWay c.declarers-side.result opening (take c.args.count slice) c.copy-position.result 0 (take c.args.count slice) =
    rw here (way-none c.declarers-side.result opening (take c.args.count slice) c.self.invariant.0.board first) in
    subst (λ (p : Play). IsOnTheWay c.declarers-side.result p.opening (take c.args.count slice) c.copy-position.result 0 (take c.args.count slice)) c.self.view_is start

pub loop-card-preserved : goal.loop-card-preserved
loop-card-preserved c =
    let cards : List PlayingCard = take c.args.count c.as_slice.result.now in
    let i = c.loop-card.card-index in
    let card : PlayingCard = c.card-item.result in
    let rest : drop i cards ≡ card ∷ drop (i + 1) cards = drop_more cards i card c.loop-card-test.true ∙ ap (λ x. x ∷ drop (i + 1) cards) (sym c.card-item.is) in
    way-won c.declarers-side.result c.args.self.now.opening cards c.loop-card.position c.play-next.result.0 c.loop-card.won c.trick_for-won.result card (drop (i + 1) cards) (drop i cards) c.play-next.result.1
    c.play-next.ensures.board c.loop-card.invariant rest c.play-next.ensures.next c.play-next.ensures.wins c.trick_for-won.ensures.value
