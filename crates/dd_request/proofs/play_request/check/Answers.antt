use Rattle.std.proofs.Common.{◌≡◌, ◌+◌, ap, sym, ◌∙◌, subst, ◌∷◌, List, drop}
use Rattle.std.proofs.lemmas.List.{drop_more, drop_all}
use Rattle.dd_cards.specs.PlayingCard.{PlayingCard}
use Rattle.std.specs.Prelude.{Err}
use Rattle.dd_request.specs.CardFaults.{IsFirstFault}
use Rattle.dd_request.proofs.Regular.{IsChecked, all-checked, checked-more, fault-checked, regular-52}
use Rattle.dd_request.proofs.play_request.check.Goals as goal

pub returns-in-Some-clause-regular : goal.returns-in-Some-clause-regular
returns-in-Some-clause-regular c =
    let cards : List PlayingCard = c.args.cards.now in
    let i = c.loop-card.card-index in
    let card : PlayingCard = c.card-item.result in
    let rest : drop i cards ≡ card ∷ drop (i + 1) cards = drop_more cards i card c.loop-card-test.true ∙ ap (λ x. x ∷ drop (i + 1) cards) (sym c.card-item.is) in
    let told = fault-checked c.args.opening.now cards c.loop-card.position card (drop (i + 1) cards) c.in-Some.fault (subst (λ cs. IsChecked c.args.opening.now cards c.loop-card.position cs) rest c.loop-card.invariant) c.in-Some.ensures in
    (λ e. absurd (cc), λ regular. absurd (told.0 regular))

pub returns-in-Some-clause-faults : goal.returns-in-Some-clause-faults
returns-in-Some-clause-faults c = λ fault.
    let cards : List PlayingCard = c.args.cards.now in
    let i = c.loop-card.card-index in
    let card : PlayingCard = c.card-item.result in
    let rest : drop i cards ≡ card ∷ drop (i + 1) cards = drop_more cards i card c.loop-card-test.true ∙ ap (λ x. x ∷ drop (i + 1) cards) (sym c.card-item.is) in
    let told = fault-checked c.args.opening.now cards c.loop-card.position card (drop (i + 1) cards) c.in-Some.fault (subst (λ cs. IsChecked c.args.opening.now cards c.loop-card.position cs) rest c.loop-card.invariant) c.in-Some.ensures in
    (λ e. (let same : c.in-Some.fault ≡ fault = cc in subst (λ f. IsFirstFault f c.args.opening.now cards) same told.1), λ first. ap Err (told.2 fault first))

pub loop-card-preserved : goal.loop-card-preserved
loop-card-preserved c =
    let cards : List PlayingCard = c.args.cards.now in
    let i = c.loop-card.card-index in
    let card : PlayingCard = c.card-item.result in
    let rest : drop i cards ≡ card ∷ drop (i + 1) cards = drop_more cards i card c.loop-card-test.true ∙ ap (λ x. x ∷ drop (i + 1) cards) (sym c.card-item.is) in
    let before = subst (λ cs. IsChecked c.args.opening.now cards c.loop-card.position cs) rest c.loop-card.invariant in
    subst (λ q. IsChecked c.args.opening.now cards q (drop (i + 1) cards)) (sym c.play-position.ensures.next) (checked-more c.args.opening.now cards c.loop-card.position card (drop (i + 1) cards) before c.in_default.ensures)

pub returns-clause-most : goal.returns-clause-most
returns-clause-most c =
    let cards : List PlayingCard = c.args.cards.now in
    let rest = drop_all c.loop-card.card-index cards c.loop-card-test.false in
    let done = all-checked c.args.opening.now cards c.loop-card.position (subst (λ cs. IsChecked c.args.opening.now cards c.loop-card.position cs) rest c.loop-card.invariant) in
    regular-52 c.args.opening.now cards c.copy-position.ensures.board done.0
